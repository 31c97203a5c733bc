-- The bits of a number, from the lowest on; those of what is common, of a union, of a difference; same bits, same number. A collected set has bit j exactly when j passes the test.
use Rattle.std.specs.Prelude.{◌≡◌, refl, Bool, true, false, not, ◌&&◌, ◌||◌, ℕ, zero, suc, ◌+◌, ◌-◌, ◌*◌, ◌/◌, ◌%◌, ◌^◌, ◌≤◌, ◌<◌, min, max, eqb}
use Rattle.std.proofs.Common.{sym, ap, ap₂, ◌∙◌, div-one, mod-lt, one-add, arith, shr-shr, pow_pos, pow_mono, eqb-true, eq-eqb, ne_eqb}
use Rattle.std.proofs.Math.Nat.{zero-div, div-eq_of_lt, div_self}
use Rattle.std.specs.Int.Bits.{bit_and, bit_or, bit_xor, differ, and_step, or_step, xor_step}
use Rattle.std.proofs.lemmas.Nat.{and_shr, or_shr, xor_shr}
use Rattle.std.proofs.Math.Pow.{field, mod-mod-pow}
use Rattle.std.proofs.lemmas.Bool.{eqb-false}
use Rattle.base.specs.TestLaws.{split}
use Rattle.base.specs.Bits.{odd, bit_of, bit, unlike, collect}

-- a number by its lowest bit and the rest
pub half : (b : Bool) (n : ℕ) → (bit_of b + 2 * n) / 2 ≡ n
half true n = omega arith
half false n = omega arith

pub odd_bit : (b : Bool) (n : ℕ) → odd (bit_of b + 2 * n) ≡ b
odd_bit true n = eq-eqb ((1 + 2 * n) % 2) 1 (omega arith)
odd_bit false n = ne_eqb ((0 + 2 * n) % 2) 1 (omega arith)

pub low_bit : (n : ℕ) → n % 2 ≡ bit_of (odd n)
low_bit n = split (odd n) (λ e. rw e (eqb-true (n % 2) 1 e)) (λ e. rw e (omega (arith, eqb-false (n % 2) 1 e)))

pub rebuilt : (n : ℕ) → bit_of (odd n) + 2 * (n / 2) ≡ n
rebuilt n = omega (arith, low_bit n)

-- the bits of a number are its lowest bit and the bits of its half
pub bit_zero : (j : ℕ) → bit j 0 ≡ odd j
bit_zero j = rw div-one

pub bit_suc : (j t : ℕ) → bit j (suc t) ≡ bit (j / 2) t
bit_suc j t = ap odd (sym (shr-shr j 1 t ∙ ap (λ (i : ℕ). j / 2 ^ i) (one-add t)))

-- the lowest bit of what is common, of a union and of a difference, by the lowest bits of the two
odd_step : (x y : ℕ) (b : Bool) → y ≡ bit_of b → odd (x * 2 + y) ≡ b
odd_step x y true e = eq-eqb ((x * 2 + y) % 2) 1 (omega arith)
odd_step x y false e = ne_eqb ((x * 2 + y) % 2) 1 (omega arith)

low_and : (a b : Bool) → min (bit_of a) (bit_of b) ≡ bit_of (a && b)
low_and true true = refl
low_and true false = refl
low_and false true = refl
low_and false false = refl

low_or : (a b : Bool) → max (bit_of a) (bit_of b) ≡ bit_of (a || b)
low_or true true = refl
low_or true false = refl
low_or false true = refl
low_or false false = refl

low_xor : (a b : Bool) → differ (bit_of a) (bit_of b) ≡ bit_of (unlike a b)
low_xor true true = refl
low_xor true false = refl
low_xor false true = refl
low_xor false false = refl

odd_by : (f : ℕ → ℕ → ℕ) (g : Bool → Bool → Bool) → ((a b : Bool) → f (bit_of a) (bit_of b) ≡ bit_of (g a b))
    → (x y r : ℕ) → odd (r * 2 + f (x % 2) (y % 2)) ≡ g (odd x) (odd y)
odd_by f g h x y r = odd_step r (f (x % 2) (y % 2)) (g (odd x) (odd y)) (ap₂ f (low_bit x) (low_bit y) ∙ h (odd x) (odd y))

-- each bit of what is common, of a union, of a difference
pub bit_and_lem : (a b j : ℕ) → bit (bit_and a b) j ≡ (bit a j && bit b j)
bit_and_lem a b j = ap odd (and_shr a b j ∙ and_step (a / 2 ^ j) (b / 2 ^ j)) ∙ odd_by min ◌&&◌ low_and (a / 2 ^ j) (b / 2 ^ j) _

pub bit_or_lem : (a b j : ℕ) → bit (bit_or a b) j ≡ (bit a j || bit b j)
bit_or_lem a b j = ap odd (or_shr a b j ∙ or_step (a / 2 ^ j) (b / 2 ^ j)) ∙ odd_by max ◌||◌ low_or (a / 2 ^ j) (b / 2 ^ j) _

pub bit_xor_lem : (a b j : ℕ) → bit (bit_xor a b) j ≡ unlike (bit a j) (bit b j)
bit_xor_lem a b j = ap odd (xor_shr a b j ∙ xor_step (a / 2 ^ j) (b / 2 ^ j)) ∙ odd_by differ unlike low_xor (a / 2 ^ j) (b / 2 ^ j) _

-- 0 has no bit; a number below 2 ^ k has none from k on; bit t of 2 ^ t is 1; a shift; a remainder
pub bit_none : (j : ℕ) → bit 0 j ≡ false
bit_none j = rw zero-div

pub bit_above : (k s j : ℕ) → s < 2 ^ k → k ≤ j → bit s j ≡ false
bit_above k s j h l = ap odd (div-eq_of_lt {n = s} {m = 2 ^ j} (omega (arith, pow_mono {i = k} {j = j} l)))

pub bit_pow : (t : ℕ) → bit (2 ^ t) t ≡ true
bit_pow t = ap odd (div_self (pow_pos t))

pub bit_shift : (s k j : ℕ) → bit (s / 2 ^ k) j ≡ bit s (k + j)
bit_shift s k j = ap odd (shr-shr s k j)

pub bit_mod : (j m t : ℕ) → t < m → bit (j % 2 ^ m) t ≡ bit j t
bit_mod j m t h =
    let more : m ≡ ((m - t - 1) + 1) + t = omega arith in
    ap (λ (k : ℕ). bit (j % 2 ^ k) t) more
    ∙ ap odd (field j ((m - t - 1) + 1) t)
    ∙ ap (λ (x : ℕ). eqb x 1) (mod-mod-pow (j / 2 ^ t) (m - t - 1) 1)

-- a number that is not 0 has a bit
pub some_bit : (k n : ℕ) → n < 2 ^ k → (n ≡ 0 → ⊥) → (j : ℕ) × (j < k) × (bit n j ≡ true)
some_bit zero n h f = absurd (f (omega arith))
some_bit (suc k) n h f =
    split (odd n) (λ e. (0, omega arith, bit_zero n ∙ e))
    (λ e.
    let r = some_bit k (n / 2) (omega arith) (λ z. f (omega (arith, low_bit n, ap bit_of e))) in
    (suc r.0, omega (arith, r.1), bit_suc n r.0 ∙ r.2))

-- two numbers with the same bits are the same
pub same_bits : (k a b : ℕ) → a < 2 ^ k → b < 2 ^ k → ((j : ℕ) → j < k → bit a j ≡ bit b j) → a ≡ b
same_bits zero a b h l f = omega arith
same_bits (suc k) a b h l f =
    let low : a % 2 ≡ b % 2 = low_bit a ∙ ap bit_of (sym (bit_zero a) ∙ f 0 (omega arith) ∙ bit_zero b) ∙ sym (low_bit b) in
    let high : a / 2 ≡ b / 2 = same_bits k (a / 2) (b / 2) (omega arith) (omega arith) (λ j i. sym (bit_suc a j) ∙ f (suc j) (omega arith) ∙ bit_suc b j) in
    omega arith

-- what is collected of the numbers below N: its size, its members, its first member apart
pub collect_below : (N : ℕ) (p : ℕ → Bool) → collect N p < 2 ^ N
unfolding collect
collect_below zero p = omega arith
collect_below (suc N) p = go (p N) (collect_below N p)
  where
    go : (b : Bool) → collect N p < 2 ^ N → collect N p + bit_of b * 2 ^ N < 2 ^ suc N
    go true h = omega arith
    go false h = omega arith

pub collect_low : (N : ℕ) (p : ℕ → Bool) → collect (suc N) p ≡ bit_of (p 0) + 2 * collect N (λ j. p (suc j))
unfolding collect
collect_low zero p = omega arith
collect_low (suc N) p = go (p (suc N)) (collect_low N p)
  where
    go : (b : Bool) → collect (suc N) p ≡ bit_of (p 0) + 2 * collect N (λ j. p (suc j))
        → collect (suc N) p + bit_of b * 2 ^ suc N ≡ bit_of (p 0) + 2 * (collect N (λ j. p (suc j)) + bit_of b * 2 ^ N)
    go true h = omega arith
    go false h = omega arith

pub collect_has : (N : ℕ) (p : ℕ → Bool) (j : ℕ) → j < N → bit (collect N p) j ≡ p j
collect_has zero p j h = absurd (omega arith)
collect_has (suc N) p zero h = bit_zero (collect (suc N) p) ∙ ap odd (collect_low N p) ∙ odd_bit (p 0) (collect N (λ j. p (suc j)))
collect_has (suc N) p (suc j) h =
    bit_suc (collect (suc N) p) j
    ∙ ap (λ (x : ℕ). bit (x / 2) j) (collect_low N p)
    ∙ ap (λ (x : ℕ). bit x j) (half (p 0) (collect N (λ i. p (suc i))))
    ∙ collect_has N (λ i. p (suc i)) j (omega arith)

-- of what is collected of M numbers, those below N
pub collect_first : (N M : ℕ) (p : ℕ → Bool) → N ≤ M → collect M p % 2 ^ N ≡ collect N p
collect_first N M p h =
    same_bits N (collect M p % 2 ^ N) (collect N p) (mod-lt (collect M p) (pow_pos N)) (collect_below N p)
    (λ j l. bit_mod (collect M p) N j l ∙ collect_has M p j (omega arith) ∙ sym (collect_has N p j l))

pub collect_above : (N : ℕ) (p : ℕ → Bool) (j : ℕ) → N ≤ j → bit (collect N p) j ≡ false
collect_above N p j h = bit_above N (collect N p) j (collect_below N p) h

pub collect_same : (N : ℕ) (p q : ℕ → Bool) → ((j : ℕ) → j < N → p j ≡ q j) → collect N p ≡ collect N q
unfolding collect
collect_same zero p q h = refl
collect_same (suc N) p q h = rw (h N (omega arith), collect_same N p q (λ j l. h j (omega arith)))

-- those that pass and those that do not are all N together
pub collect_not : (N : ℕ) (p : ℕ → Bool) → collect N p + collect N (λ j. not (p j)) + 1 ≡ 2 ^ N
unfolding collect
collect_not zero p = refl
collect_not (suc N) p = go (p N) (collect_not N p)
  where
    go : (b : Bool) → collect N p + collect N (λ j. not (p j)) + 1 ≡ 2 ^ N
        → collect N p + bit_of b * 2 ^ N + (collect N (λ j. not (p j)) + bit_of (not b) * 2 ^ N) + 1 ≡ 2 ^ suc N
    go true h = omega arith
    go false h = omega arith
