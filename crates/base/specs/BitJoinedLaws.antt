-- The number whose words are given, for any number of words: its size, its bits, its bytes; what is common, unions and differences go word by word.
use Rattle.std.specs.Prelude.{◌≡◌, refl, Bool, ◌&&◌, ℕ, zero, suc, ◌+◌, ◌-◌, ◌*◌, ◌/◌, ◌%◌, ◌^◌, ◌<◌, eqb, length, get_or, set, replicate}
use Rattle.std.proofs.Math.Path.{sym, ap₂}
use Rattle.std.proofs.Common.{ap, ◌∙◌, zero-add, add-zero, add_comm, mul_comm, pow-add, eqb-true, eq-eqb}
use Rattle.std.proofs.Math.Bool.{and-true, and_assoc}
use mathlib.Core.List.{List, [], ◌∷◌, ◌++◌, map}
use native.Mathlib.Omega.{arith}
use Rattle.std.proofs.Math.Arith.{digits_lt}
use Rattle.std.specs.Int.Bits.{bit_and, bit_or, bit_xor, or_add_and, or_zero_r, and_lt}
use Rattle.std.proofs.lemmas.Nat.{and_block, or_block, xor_block, and_le_l, and_le_r, or_lt}
use Rattle.std.proofs.lemmas.List.{length-map}
use Rattle.std.proofs.Math.Pow.{pow-lt}
use Rattle.base.specs.Lists.{upto}
use Rattle.base.specs.ListLaws.{length_from, get_or_upto}
use Rattle.base.specs.Numbers.{bytes_of}
use Rattle.base.specs.NumberLaws.{bytes_append}
use Rattle.base.specs.TestLaws.{same_test, both, and}
use Rattle.base.specs.Bits.{bit}
use Rattle.base.specs.BitLaws.{bit_none, bit_mod, bit_shift, same_bits}
use Rattle.base.specs.BitWords.{put_bit, joined, Fit, wordwise, folded}

-- lists of words
pub fit_none : Fit []
fit_none i = omega arith

pub fit_cons : (w : ℕ) (l : List ℕ) → w < 2 ^ 64 → Fit l → Fit (w ∷ l)
fit_cons w l h k zero = h
fit_cons w l h k (suc i) = k i

pub fit_map : (f : ℕ → ℕ) (l : List ℕ) → ((a : ℕ) → f a < 2 ^ 64) → Fit (map f l)
fit_map f [] h = fit_none
fit_map f (a ∷ l) h = fit_cons (f a) (map f l) (h a) (fit_map f l h)

-- the lowest word and the others
module _ (w : ℕ) (l : List ℕ) (h : w < 2 ^ 64) where
  pub joined_low : joined (w ∷ l) % 2 ^ 64 ≡ w
  unfolding joined
  joined_low = omega arith

  pub joined_high : joined (w ∷ l) / 2 ^ 64 ≡ joined l
  unfolding joined
  joined_high = omega arith

  -- the bytes of the others, then those of the lowest word
  pub joined_bytes : (n : ℕ) → bytes_of (n + 8) (joined (w ∷ l)) ≡ bytes_of n (joined l) ++ bytes_of 8 w
  joined_bytes n = bytes_append n 8 (joined (w ∷ l)) ∙ ap₂ (λ (x y : ℕ). bytes_of n x ++ bytes_of 8 y) joined_high joined_low

-- so many words, so many bits
pub joined_below : (l : List ℕ) → Fit l → joined l < 2 ^ (64 * length l)
unfolding joined
joined_below [] h = omega arith
joined_below (w ∷ l) h =
    let e : 64 * suc (length l) ≡ 64 * length l + 64 = omega arith in
    rw (e, pow-add 2 (64 * length l) 64, add_comm w (2 ^ 64 * joined l), mul_comm (2 ^ 64) (joined l)) (digits_lt (joined_below l (λ i. h (suc i))) (h 0))

pub joined_clear : (n : ℕ) → joined (replicate n 0) ≡ 0
unfolding joined
joined_clear zero = refl
joined_clear (suc n) = ap (λ (x : ℕ). 0 + 2 ^ 64 * x) (joined_clear n)

-- bit q is bit q % 64 of the word q / 64
pub joined_at : (l : List ℕ) → Fit l → (i k : ℕ) → k < 64 → bit (joined l) (64 * i + k) ≡ bit (get_or l i 0) k
joined_at [] h i k b = unfold joined in bit_none (64 * i + k) ∙ sym (bit_none k)
joined_at (w ∷ l) h zero k b = rw zero-add (sym (bit_mod (joined (w ∷ l)) 64 k b) ∙ ap (λ (x : ℕ). bit x k) (joined_low w l (h 0)))
joined_at (w ∷ l) h (suc i) k b =
    let e : 64 * suc i + k ≡ 64 + (64 * i + k) = omega arith in
    ap (bit (joined (w ∷ l))) e
    ∙ sym (bit_shift (joined (w ∷ l)) 64 (64 * i + k))
    ∙ ap (λ (x : ℕ). bit x (64 * i + k)) (joined_high w l (h 0))
    ∙ joined_at l (λ j. h (suc j)) i k b

pub joined_bit : (l : List ℕ) → Fit l → (q : ℕ) → bit (joined l) q ≡ bit (get_or l (q / 64) 0) (q % 64)
joined_bit l h q =
    let e : q ≡ 64 * (q / 64) + q % 64 = omega arith in
    ap (bit (joined l)) e ∙ joined_at l h (q / 64) (q % 64) (omega arith)

-- a number is the one whose words are f 0, f 1, .. when its bits are theirs
pub joined_of : (m x : ℕ) (f : ℕ → ℕ) → x < 2 ^ (64 * m) → ((i : ℕ) → f i < 2 ^ 64)
    → ((i k : ℕ) → i < m → k < 64 → bit x (64 * i + k) ≡ bit (f i) k) → x ≡ joined (map f (upto m))
joined_of m x f h b g =
    let n : length (map f (upto m)) ≡ m = length-map (upto m) f ∙ length_from 0 m in
    let fit : Fit (map f (upto m)) = fit_map f (upto m) b in
    same_bits (64 * m) x _ h (rw n at (joined_below (map f (upto m)) fit))
    (λ j l.
    let e : j ≡ 64 * (j / 64) + j % 64 = omega arith in
    ap (bit x) e ∙ g (j / 64) (j % 64) (omega arith) (omega arith)
    ∙ ap (λ (w : ℕ). bit w (j % 64)) (sym (get_or_upto f 0 m (j / 64) (omega arith))) ∙ sym (joined_bit (map f (upto m)) fit j))

-- what is common, a union, a difference, word by word
module _ (f : ℕ → ℕ → ℕ) (z : f 0 0 ≡ 0)
    (block : (k a b r s : ℕ) → r < 2 ^ k → s < 2 ^ k → f (a * 2 ^ k + r) (b * 2 ^ k + s) ≡ f a b * 2 ^ k + f r s) where
  joined_by : (l m : List ℕ) → Fit l → Fit m → length l ≡ length m → f (joined l) (joined m) ≡ joined (wordwise f l m)
  unfolding joined
  joined_by [] [] h k e = z
  joined_by [] (y ∷ m) h k e = absurd (omega arith)
  joined_by (x ∷ l) [] h k e = absurd (omega arith)
  joined_by (x ∷ l) (y ∷ m) h k e =
      let ih : f (joined l) (joined m) ≡ joined (wordwise f l m) = joined_by l m (λ i. h (suc i)) (λ i. k (suc i)) (omega arith) in
      let a : x + 2 ^ 64 * joined l ≡ joined l * 2 ^ 64 + x = omega arith in
      let b : y + 2 ^ 64 * joined m ≡ joined m * 2 ^ 64 + y = omega arith in
      ap₂ f a b ∙ block 64 (joined l) (joined m) x y (h 0) (k 0) ∙ rw ih (omega arith)

pub joined_and : (l m : List ℕ) → Fit l → Fit m → length l ≡ length m → bit_and (joined l) (joined m) ≡ joined (wordwise bit_and l m)
joined_and = joined_by bit_and refl and_block

pub joined_or : (l m : List ℕ) → Fit l → Fit m → length l ≡ length m → bit_or (joined l) (joined m) ≡ joined (wordwise bit_or l m)
joined_or = joined_by bit_or refl or_block

pub joined_xor : (l m : List ℕ) → Fit l → Fit m → length l ≡ length m → bit_xor (joined l) (joined m) ≡ joined (wordwise bit_xor l m)
joined_xor = joined_by bit_xor refl xor_block

-- the words of two lists are words again
pub fit_by : (f : ℕ → ℕ → ℕ) → ((k a b : ℕ) → a < 2 ^ k → b < 2 ^ k → f a b < 2 ^ k) → (l m : List ℕ) → Fit l → Fit m → Fit (wordwise f l m)
fit_by f lt [] [] h k = fit_none
fit_by f lt [] (y ∷ m) h k = fit_none
fit_by f lt (x ∷ l) [] h k = fit_none
fit_by f lt (x ∷ l) (y ∷ m) h k = fit_cons (f x y) (wordwise f l m) (lt 64 x y (h 0) (k 0)) (fit_by f lt l m (λ i. h (suc i)) (λ i. k (suc i)))

-- number q put among the words is bit q put in
joined_store : (l : List ℕ) → Fit l → (i k : ℕ) → k < 64 → i < length l
    → joined (set l i (bit_or (get_or l i 0) (2 ^ k))) ≡ bit_or (joined l) (2 ^ (64 * i + k))
unfolding joined
joined_store [] h i k a b = absurd (omega arith)
joined_store (w ∷ l) h zero k a b =
    let e : w + 2 ^ 64 * joined l ≡ joined l * 2 ^ 64 + w = omega arith in
    let p : 2 ^ k ≡ 0 * 2 ^ 64 + 2 ^ k = omega arith in
    rw (zero-add, e) (sym (ap (bit_or (joined l * 2 ^ 64 + w)) p ∙ or_block 64 (joined l) 0 w (2 ^ k) (h 0) (pow-lt a) ∙ rw or_zero_r (omega arith)))
joined_store (w ∷ l) h (suc i) k a b =
    let e : w + 2 ^ 64 * joined l ≡ joined l * 2 ^ 64 + w = omega arith in
    let n : 64 * suc i + k ≡ 64 * i + k + 64 = omega arith in
    rw (joined_store l (λ j. h (suc j)) i k a (omega arith), e, n, pow-add 2 (64 * i + k) 64)
    (sym (ap (bit_or (joined l * 2 ^ 64 + w)) (sym (add-zero (2 ^ (64 * i + k) * 2 ^ 64)))
    ∙ or_block 64 (joined l) (2 ^ (64 * i + k)) w 0 (h 0) (omega arith) ∙ rw or_zero_r (omega arith)))

pub joined_put : (l : List ℕ) → Fit l → (q : ℕ) → q / 64 < length l → joined (put_bit 0 q l) ≡ bit_or (joined l) (2 ^ q)
unfolding put_bit
joined_put l h q k =
    let e : q ≡ 64 * (q / 64) + q % 64 = omega arith in
    rw zero-add (joined_store l h (q / 64) (q % 64) (omega arith) k ∙ ap (λ (x : ℕ). bit_or (joined l) (2 ^ x)) (sym e))

-- two numbers are the same when their words are
joined_same : (w v : ℕ) (l m : List ℕ) → w < 2 ^ 64 → v < 2 ^ 64 → eqb (joined (w ∷ l)) (joined (v ∷ m)) ≡ (eqb w v && eqb (joined l) (joined m))
unfolding joined
joined_same w v l m h k =
    same_test _ _
    (λ e. let r = eqb-true (w + 2 ^ 64 * joined l) (v + 2 ^ 64 * joined m) e in and (eq-eqb w v (omega arith)) (eq-eqb (joined l) (joined m) (omega arith)))
    (λ e. let r = both _ _ e in eq-eqb _ _ (ap₂ (λ (x y : ℕ). x + 2 ^ 64 * y) (eqb-true w v r.0) (eqb-true (joined l) (joined m) r.1)))

-- all words are e when one test of them together says so: two words put together by f are e just when both are
module _ (f : ℕ → ℕ → ℕ) (e : ℕ) (low : e < 2 ^ 64) (lt : (k a b : ℕ) → a < 2 ^ k → b < 2 ^ k → f a b < 2 ^ k) (own : f e e ≡ e)
    (each : (a b : ℕ) → a < 2 ^ 64 → b < 2 ^ 64 → f a b ≡ e → (a ≡ e) × (b ≡ e)) where
  two : (a b : ℕ) → a < 2 ^ 64 → b < 2 ^ 64 → eqb (f a b) e ≡ (eqb a e && eqb b e)
  two a b h k =
      same_test _ _
      (λ t. let r = each a b h k (eqb-true (f a b) e t) in and (eq-eqb a e r.0) (eq-eqb b e r.1))
      (λ t. let r = both _ _ t in eq-eqb _ _ (ap₂ f (eqb-true a e r.0) (eqb-true b e r.1) ∙ own))

  together : (w : ℕ) (l : List ℕ) → w < 2 ^ 64 → Fit l → eqb (folded f w l) e ≡ eqb (joined (w ∷ l)) (joined (replicate (suc (length l)) e))
  together w [] h k = sym (joined_same w e [] [] h low ∙ ap (λ (b : Bool). eqb w e && b) (eq-eqb (joined []) (joined []) refl) ∙ and-true (eqb w e))
  together w (v ∷ l) h k =
      let rest : List ℕ = replicate (length l) e in
      together (f w v) l (lt 64 w v h (k 0)) (λ i. k (suc i))
      ∙ joined_same (f w v) e l rest (lt 64 w v h (k 0)) low
      ∙ ap (λ (b : Bool). b && eqb (joined l) (joined rest)) (two w v h (k 0))
      ∙ and_assoc (eqb w e) (eqb v e) (eqb (joined l) (joined rest))
      ∙ ap (λ (b : Bool). eqb w e && b) (sym (joined_same v e l rest (k 0) low))
      ∙ sym (joined_same w e (v ∷ l) (e ∷ rest) h low)

-- no word has a bit; every word has every bit
pub no_word : (w : ℕ) (l : List ℕ) → w < 2 ^ 64 → Fit l → eqb (folded bit_or w l) 0 ≡ eqb (joined (w ∷ l)) (joined (replicate (suc (length l)) 0))
no_word = together bit_or 0 (omega arith) or_lt refl (λ a b h k e. (omega (arith, or_add_and a b, and_le_r a b), omega (arith, or_add_and a b, and_le_l a b)))

pub every_word : (w : ℕ) (l : List ℕ) → w < 2 ^ 64 → Fit l
    → eqb (folded bit_and w l) (2 ^ 64 - 1) ≡ eqb (joined (w ∷ l)) (joined (replicate (suc (length l)) (2 ^ 64 - 1)))
every_word = together bit_and (2 ^ 64 - 1) (omega arith) and_lt refl (λ a b h k e. (omega (arith, and_le_l a b), omega (arith, and_le_r a b)))

-- a number has its words once: as many words with the same number are the same
pub joined_once : (a b : List ℕ) → length a ≡ length b → Fit a → Fit b → joined a ≡ joined b → a ≡ b
joined_once [] [] e h k q = refl
joined_once [] (y ∷ b) e h k q = absurd (omega (arith, e))
joined_once (x ∷ a) [] e h k q = absurd (omega (arith, e))
joined_once (x ∷ a) (y ∷ b) e h k q =
    let low : x ≡ y = sym (joined_low x a (h 0)) ∙ ap (λ (n : ℕ). n % 2 ^ 64) q ∙ joined_low y b (k 0) in
    let high : joined a ≡ joined b = sym (joined_high x a (h 0)) ∙ ap (λ (n : ℕ). n / 2 ^ 64) q ∙ joined_high y b (k 0) in
    ap₂ (λ (w : ℕ) (l : List ℕ). w ∷ l) low (joined_once a b (omega (arith, e)) (λ i. h (suc i)) (λ i. k (suc i)) high)
