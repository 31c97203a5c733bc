-- Laws for document 01, "Needed gates (000 Def. 4)": sets of settings held as numbers: which settings are in each, how large it is, and that the tests reflect what they ask.
use Rattle.std.specs.Prelude.{◌≡◌, refl, Bool, true, false, not, ◌&&◌, ◌||◌, ◌↔◌, ℕ, ◌+◌, ◌/◌, ◌^◌, ◌<◌, eqb}
use Rattle.std.proofs.Common.{sym, ap, ap₂, ◌∙◌, true≢false, arith, add_comm, lt_of_le_of_lt, eqb-true, ne_eqb}
use Rattle.std.proofs.lemmas.Bool.{false≢true, eqb-false, not-true}
use Rattle.std.proofs.Math.Bool.{or-true}
use Rattle.std.specs.Int.Bits.{bit_and, bit_xor}
use Rattle.std.proofs.lemmas.Nat.{and_le_l, and_le_r, or_lt, xor_lt}
use Rattle.base.specs.TestLaws.{split, same_test, both}
use Rattle.base.specs.Bits.{bit, unlike, collect, flip_bit}
use Rattle.base.specs.Sets.{has, empty, whole, union, given, without, Disjoint, excludes, MovedBy, rests_on, movers}
use Rattle.base.specs.BitLaws.{bit_and_lem, bit_or_lem, bit_xor_lem, bit_none, bit_shift, some_bit, same_bits, collect_below, collect_has}
use Rattle.base.specs.BitFlipLaws.{flip_below, flip_flip, flip_add, bit_flip}
use Rattle.base.specs.SettingListLaws.{any_below_some, any_below_has}

-- which settings are in the empty set, in the whole one, in a union
pub has_empty : (j : ℕ) → has empty j ≡ false
has_empty j = bit_none j

pub has_whole : (N j : ℕ) → j < N → has (whole N) j ≡ true
has_whole N j h = collect_has N (λ i. true) j h

pub has_union : (s t j : ℕ) → has (union s t) j ≡ (has s j || has t j)
has_union s t j = bit_or_lem s t j

-- those of s that pass a test, among the first N settings
pub has_those : (N : ℕ) (p : ℕ → Bool) (s j : ℕ) → j < N → has (bit_and s (collect N p)) j ≡ (has s j && p j)
has_those N p s j h = bit_and_lem s (collect N p) j ∙ ap (λ (b : Bool). has s j && b) (collect_has N p j h)

pub has_given : (N t s j : ℕ) → j < N → has (given N t s) j ≡ (has s j && bit j t)
has_given N t s j h = has_those N (λ i. bit i t) s j h

pub has_without : (N t s j : ℕ) → j < N → has (without N t s) j ≡ (has s j && not (bit j t))
has_without N t s j h = has_those N (λ i. not (bit i t)) s j h

-- sets of N settings stay such
pub whole_below : (N : ℕ) → whole N < 2 ^ N
whole_below N = collect_below N (λ j. true)

pub union_below : (N s t : ℕ) → s < 2 ^ N → t < 2 ^ N → union s t < 2 ^ N
union_below N s t h l = or_lt N s t h l

-- a set of N settings joined with the whole one is the whole one
pub union_whole : (N s : ℕ) → s < 2 ^ N → union s (whole N) ≡ whole N
union_whole N s h =
    same_bits N _ _ (union_below N s (whole N) h (whole_below N)) (whole_below N)
    (λ j l. has_union s (whole N) j ∙ ap (λ (b : Bool). has s j || b) (has_whole N j l) ∙ or-true (has s j) ∙ sym (has_whole N j l))

pub those_below : (N : ℕ) (p : ℕ → Bool) (s : ℕ) → bit_and s (collect N p) < 2 ^ N
those_below N p s = lt_of_le_of_lt (and_le_r s (collect N p)) (collect_below N p)

pub without_below : (N t s : ℕ) → without N t s < 2 ^ N
without_below N t s = those_below N (λ j. not (bit j t)) s

-- a set of N settings but for those that give a condition 1: those that give it 0
unlike_those : (a b : Bool) → unlike a (a && b) ≡ (a && not b)
unlike_those true true = refl
unlike_those true false = refl
unlike_those false b = refl

pub given_rest : (N t s : ℕ) → s < 2 ^ N → bit_xor s (given N t s) ≡ without N t s
given_rest N t s h =
    same_bits N _ _ (xor_lt N s (given N t s) h (those_below N (λ j. bit j t) s)) (without_below N t s)
    (λ j l. bit_xor_lem s (given N t s) j ∙ ap (unlike (bit s j)) (has_given N t s j l) ∙ unlike_those (bit s j) (bit j t) ∙ sym (has_without N t s j l))

pub unlike_means : (a b : Bool) → unlike a b ≡ true → a ≡ b → ⊥
unlike_means true true h e = false≢true h
unlike_means true false h e = true≢false e
unlike_means false true h e = false≢true e
unlike_means false false h e = false≢true h

pub unlike_is : (a b : Bool) → (a ≡ b → ⊥) → unlike a b ≡ true
unlike_is true true h = absurd (h refl)
unlike_is true false h = refl
unlike_is false true h = refl
unlike_is false false h = absurd (h refl)

unlike_sym : (a b : Bool) → unlike a b ≡ unlike b a
unlike_sym true true = refl
unlike_sym true false = refl
unlike_sym false true = refl
unlike_sym false false = refl

-- the test of exclusion says whether the two sets of N settings exclude each other
pub excludes_right : (N s t : ℕ) → s < 2 ^ N → (excludes s t ≡ true) ↔ Disjoint N s t
excludes_right N s t h = (to, back)
  where
    to : excludes s t ≡ true → Disjoint N s t
    to e j l p q =
        false≢true (sym (bit_none j) ∙ ap (λ (x : ℕ). bit x j) (sym (eqb-true (bit_and s t) 0 e)) ∙ bit_and_lem s t j ∙ ap₂ ◌&&◌ p q)

    back : Disjoint N s t → excludes s t ≡ true
    back f =
        split (excludes s t) (λ e. e)
        (λ e.
        let r = some_bit N (bit_and s t) (omega (arith, and_le_l s t)) (eqb-false (bit_and s t) 0 e) in
        let b = both (has s r.0) (has t r.0) (sym (bit_and_lem s t r.0) ∙ r.2) in
        absurd (f r.0 r.1 b.0 b.1))

-- the test "rests on" says whether the set rests on the condition
pub rests_on_right : (n s t : ℕ) → (rests_on n s t ≡ true) ↔ MovedBy n s t
unfolding rests_on
rests_on_right n s t = (
  λ e. let r = any_below_some (λ j. unlike (has s j) (has s (flip_bit t j))) (2 ^ n) e in (r.0, r.1, unlike_means _ _ r.2),
  λ r. any_below_has (λ j. unlike (has s j) (has s (flip_bit t j))) (2 ^ n) r.0 r.1 (unlike_is _ _ r.2),
)

-- the movers of a set are settings of n conditions; which they are
pub movers_below : (n s t : ℕ) → movers n s t < 2 ^ (2 ^ n)
unfolding movers
movers_below n s t = without_below (2 ^ n) t (bit_xor (s / 2 ^ (2 ^ t)) s)

pub movers_has : (n s t j : ℕ) → j < 2 ^ n → has (movers n s t) j ≡ (unlike (has s (2 ^ t + j)) (has s j) && not (bit j t))
unfolding movers
movers_has n s t j h =
    has_those (2 ^ n) (λ i. not (bit i t)) (bit_xor (s / 2 ^ (2 ^ t)) s) j h
    ∙ ap (λ (b : Bool). b && not (bit j t)) (bit_xor_lem (s / 2 ^ (2 ^ t)) s j ∙ ap (λ (b : Bool). unlike b (has s j)) (bit_shift s (2 ^ t) j))

-- a set rests on condition t exactly when it has movers
pub rests_on_shift : (n s t : ℕ) → t < n → rests_on n s t ≡ not (eqb (movers n s t) 0)
rests_on_shift n s t h = same_test (rests_on n s t) (not (eqb (movers n s t) 0)) to back
  where
    far : (j : ℕ) → bit j t ≡ false → unlike (has s (2 ^ t + j)) (has s j) ≡ unlike (has s j) (has s (flip_bit t j))
    far j z = rw (flip_add t j z, add_comm j (2 ^ t)) (unlike_sym (has s (2 ^ t + j)) (has s j))

    at : (j : ℕ) → j < 2 ^ n → bit j t ≡ false → unlike (has s j) (has s (flip_bit t j)) ≡ true → not (eqb (movers n s t) 0) ≡ true
    at j l z u =
        let one : has (movers n s t) j ≡ true = movers_has n s t j l ∙ ap₂ (λ (a b : Bool). a && not b) (far j z ∙ u) z in
        ap not (ne_eqb (movers n s t) 0 (λ e. true≢false (sym one ∙ ap (λ (x : ℕ). has x j) e ∙ bit_none j)))

    to : rests_on n s t ≡ true → not (eqb (movers n s t) 0) ≡ true
    to e =
        let r = (rests_on_right n s t).0 e in
        let i : ℕ = flip_bit t r.0 in
        split (bit r.0 t)
        (λ y. at i (flip_below t n r.0 h r.1) (bit_flip t r.0 ∙ ap not y)
        (unlike_is _ _ (λ q. r.2 (sym (q ∙ ap (has s) (flip_flip t r.0))))))
        (λ y. at r.0 r.1 y (unlike_is _ _ r.2))

    back : not (eqb (movers n s t) 0) ≡ true → rests_on n s t ≡ true
    back e =
        let r = some_bit (2 ^ n) (movers n s t) (movers_below n s t) (eqb-false (movers n s t) 0 (not-true _ e)) in
        let b = both _ _ (sym (movers_has n s t r.0 r.1) ∙ r.2) in
        (rests_on_right n s t).1 (r.0, r.1, unlike_means _ _ (sym (far r.0 (not-true _ b.1)) ∙ b.0))
