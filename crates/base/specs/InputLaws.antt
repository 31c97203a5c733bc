-- Rows 40 to 42, for variables of any kinds: which row each of the code's tests leads to; where none is answered there are v inputs, each of its kind, and room for v results.
use Prim.Native.Nat.{ℕ, suc, ◌+◌, ◌-◌, ◌≤◌, ◌<◌}
use Rattle.std.proofs.Common.{add-one, sym, ap, inl, inr}
use native.Mathlib.Omega.{arith}
use Rattle.std.specs.Prelude.{◌≡◌, refl, List, [], ◌∷◌, Bool, true, false, ◌&&◌, ◌||◌, cond, ◌↔◌, length, get_or, eqb, ltb, leb}
use Rattle.std.proofs.lemmas.Bool.{false≢true}
use borrow.Author.Tests.{eq-eqb, ne_eqb, le-ltb, lt-ltb, le-leb, lt-leb, eqb-true, leb-true, ltb-false}
use Rattle.base.specs.Lists.{◌∈◌, from, upto}
use Rattle.base.specs.MemberLaws.{from_in, from_below}
use Rattle.base.specs.TestLaws.{split, or_none}
use Rattle.base.specs.Codes.{same_kind, Fits}
use Rattle.base.specs.declared.Kind.{Kind}
use Rattle.base.specs.declared.Kind.TheVariants as kind
use Rattle.base.specs.Inputs.{above_bit, some_above, inputs_row}

module _ (v : ℕ) (kinds : ℕ → Kind) (inputs : List ℕ) where
  -- all of v variables
  pub above_all : some_above kinds inputs (upto v) ≡ some_above kinds inputs (from 0 (v - 0))
  above_all = let n : v ≡ v - 0 = omega arith in ap (λ (k : ℕ). some_above kinds inputs (from 0 k)) n

  -- those from x on, up to v
  module _ (x : ℕ) where
    above_step : x < v → some_above kinds inputs (from x (v - x)) ≡ (above_bit kinds inputs x || some_above kinds inputs (from (x + 1) (v - (x + 1))))
    unfolding some_above
    above_step h = let n : v - x ≡ suc (v - (x + 1)) = omega arith in rw (n, add-one)

    pub above_none : v ≤ x → some_above kinds inputs (from x (v - x)) ≡ false
    unfolding some_above
    above_none h = let n : v - x ≡ 0 = omega arith in rw n

    pub above_here : x < v → 1 < get_or inputs x 0 → same_kind (kinds x) kind.Bit ≡ true → some_above kinds inputs (from x (v - x)) ≡ true
    above_here h a k = rw (above_step h, lt-ltb _ _ a, k)

    pub above_low : x < v → get_or inputs x 0 ≤ 1 → some_above kinds inputs (from x (v - x)) ≡ some_above kinds inputs (from (x + 1) (v - (x + 1)))
    above_low h a = rw (above_step h, le-ltb _ _ a)

    pub above_word : x < v → 1 < get_or inputs x 0 → same_kind (kinds x) kind.Bit ≡ false
        → some_above kinds inputs (from x (v - x)) ≡ some_above kinds inputs (from (x + 1) (v - (x + 1)))
    above_word h a k = rw (above_step h, lt-ltb _ _ a, k)

  module _ (room : ℕ) where
    pub row_count : (length inputs ≡ v → ⊥) → inputs_row v kinds inputs room ≡ 40
    unfolding inputs_row
    row_count h = rw (ne_eqb _ _ h)

    module _ (n : length inputs ≡ v) where
      pub row_bit : some_above kinds inputs (upto v) ≡ true → inputs_row v kinds inputs room ≡ 41
      unfolding inputs_row
      row_bit h = rw (eq-eqb _ _ n, h)

      pub row_room : some_above kinds inputs (upto v) ≡ false → room < v → inputs_row v kinds inputs room ≡ 42
      unfolding inputs_row
      row_room h r = rw (eq-eqb _ _ n, h, lt-leb _ _ r)

      pub row_none : some_above kinds inputs (upto v) ≡ false → v ≤ room → inputs_row v kinds inputs room ≡ 0
      unfolding inputs_row
      row_none h r = rw (eq-eqb _ _ n, h, le-leb _ _ r)

-- variables of the same kinds have the same row
above_same : (j k : ℕ → Kind) (inputs l : List ℕ) → ((x : ℕ) → x ∈ l → j x ≡ k x) → some_above j inputs l ≡ some_above k inputs l
unfolding some_above
above_same j k inputs [] h = refl
above_same j k inputs (x ∷ l) h = rw (h x (inl refl), above_same j k inputs l (λ y m. h y (inr m)))

pub row_same : (v : ℕ) (j k : ℕ → Kind) (inputs : List ℕ) (room : ℕ) → ((x : ℕ) → x < v → j x ≡ k x) → inputs_row v j inputs room ≡ inputs_row v k inputs room
unfolding inputs_row
row_same v j k inputs room h = rw (above_same j k inputs (upto v) (λ x m. h x (omega (arith, from_below 0 v x m))))

-- What no row says: v inputs, each of its variable's kind, and places for v results.

none_above : (kinds : ℕ → Kind) (inputs l : List ℕ) (x : ℕ) → x ∈ l → some_above kinds inputs l ≡ false → above_bit kinds inputs x ≡ false
unfolding some_above
none_above kinds inputs [] x m h = absurd m
none_above kinds inputs (y ∷ l) x (inl e) h = rw e (or_none (above_bit kinds inputs y) (some_above kinds inputs l) h).0
none_above kinds inputs (y ∷ l) x (inr m) h = none_above kinds inputs l x m (or_none (above_bit kinds inputs y) (some_above kinds inputs l) h).1

-- 41: no bit variable's input is above 1
pub above_right : (v : ℕ) (kinds : ℕ → Kind) (inputs : List ℕ)
    → (some_above kinds inputs (upto v) ≡ false) ↔ ((x : ℕ) → x < v → kinds x ≡ kind.Bit → get_or inputs x 0 ≤ 1)
unfolding some_above
above_right v kinds inputs = (
  λ h x l k. low (kinds x) (get_or inputs x 0) k (none_above kinds inputs (upto v) x (from_in 0 v x (omega arith) (omega arith)) h),
  λ h. none (upto v) (λ x m. high (kinds x) (get_or inputs x 0) (h x (omega (arith, from_below 0 v x m)))),
)
  where
    low : (k : Kind) (n : ℕ) → k ≡ kind.Bit → (ltb 1 n && same_kind k kind.Bit) ≡ false → n ≤ 1
    low k n e h = split (ltb 1 n) (λ t. let z : true ≡ false = rw (t, e) at h in absurd (false≢true (sym z))) (λ t. ltb-false 1 n t)

    high : (k : Kind) (n : ℕ) → (k ≡ kind.Bit → n ≤ 1) → (ltb 1 n && same_kind k kind.Bit) ≡ false
    high kind.Word n h = split (ltb 1 n) (λ t. rw t) (λ t. rw t)
    high kind.Bit n h = rw (le-ltb 1 n (h refl))

    none : (l : List ℕ) → ((x : ℕ) → x ∈ l → above_bit kinds inputs x ≡ false) → some_above kinds inputs l ≡ false
    none [] h = refl
    none (x ∷ l) h = rw (h x (inl refl), none l (λ y m. h y (inr m)))

fits_kind : (k : Kind) (n : ℕ) → n < 4294967296 → (ltb 1 n && same_kind k kind.Bit) ≡ false → Fits k n
fits_kind kind.Word n w h = w
fits_kind kind.Bit n w h = split (ltb 1 n) (λ t. let z : true ≡ false = rw t at h in absurd (false≢true (sym z))) (λ t. ltb-false 1 n t)

-- the row by its three tests: where it is none, they are so
abbrev row : Bool → Bool → Bool → ℕ
row a b c = cond a (cond b 41 (cond c 0 42)) 40

rows : (a b c : Bool) → row a b c ≡ 0 → (a ≡ true) × (b ≡ false) × (c ≡ true)
rows true true c h = absurd (omega arith)
rows true false true h = (refl, refl, refl)
rows true false false h = absurd (omega arith)
rows false b c h = absurd (omega arith)

module _ (v : ℕ) (kinds : ℕ → Kind) (inputs : List ℕ) (room : ℕ) where
  module _ (h : inputs_row v kinds inputs room ≡ 0) where
    no_row : (eqb (length inputs) v ≡ true) × (some_above kinds inputs (upto v) ≡ false) × (leb v room ≡ true)
    unfolding inputs_row
    no_row = rows (eqb (length inputs) v) (some_above kinds inputs (upto v)) (leb v room) h

    pub inputs_count : length inputs ≡ v
    inputs_count = eqb-true _ _ no_row.0

    pub inputs_room : v ≤ room
    inputs_room = leb-true _ _ no_row.2

    -- inputs that are words fit the kinds of their variables
    pub inputs_fit : ((x : ℕ) → x < v → get_or inputs x 0 < 4294967296) → (x : ℕ) → x < v → Fits (kinds x) (get_or inputs x 0)
    inputs_fit words x l =
        fits_kind (kinds x) (get_or inputs x 0) (words x l) (none_above kinds inputs (upto v) x (from_in 0 v x (omega arith) (omega arith)) no_row.1)
