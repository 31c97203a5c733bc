-- What one turn of each loop does, against the definitions of specs/; for any number n of conditions.
use mathlib.Core.Path.{◌≡◌, refl, sym, ap, ◌∙◌}
use mathlib.Core.Bool.{Bool, true, false}
use mathlib.Core.List.{List}
use Prim.Native.Nat.{ℕ, ◌+◌, ◌^◌, ◌≤◌, ◌<◌}
use native.Mathlib.Nat.{one-mul, sub-zero}
use native.Mathlib.Numerals.{add-one}
use native.Mathlib.Omega.{arith}
use lib.Bits.{bit_or, or_shifted_r}
use lib.ListN.{length, set, replicate, length-append}
use Rattle.base.specs.Lists.{keep, upto}
use Rattle.base.specs.ListLaws.{length_from, length_keep}
use Rattle.base.specs.Buffers.{padded}
use Rattle.base.specs.BufferLaws.{padded_more}
use Rattle.base.specs.Bits.{collect}
use Rattle.base.specs.Sets.{rests_on, rests}
use Rattle.base.specs.BitLaws.{collect_below}
use Rattle.base.specs.ListLaws.{keep_yes, keep_no}

-- a bit above all others is put in by "or"
or_power : (t r y : ℕ) → r < 2 ^ t → y ≡ 2 ^ t → bit_or r y ≡ r + 2 ^ t
or_power t r y h e = ap (bit_or r) (e ∙ sym (one-mul (2 ^ t))) ∙ or_shifted_r 1 t r h ∙ omega arith

-- nothing is collected yet; one setting more is collected, or passed over
pub collect_none : (p : ℕ → Bool) → 0 ≡ collect 0 p
unfolding collect
collect_none p = refl

pub collect_in : (p : ℕ → Bool) (j x y : ℕ) → x ≡ collect j p → p j ≡ true → y ≡ 2 ^ j → bit_or x y ≡ collect (j + 1) p
unfolding collect
collect_in p j x y hx h hy =
    ap (λ (z : ℕ). bit_or z y) hx ∙ or_power j (collect j p) y (collect_below j p) hy ∙ rw (add-one j, h) (omega arith)

pub collect_out : (p : ℕ → Bool) (j x : ℕ) → x ≡ collect j p → p j ≡ false → x ≡ collect (j + 1) p
unfolding collect
collect_out p j x hx h = hx ∙ rw (add-one j, h) (omega arith)

-- the conditions below t that pass the test p lie in an array of n places, k of them, and are the bits of `on`
pub record Listing (n : ℕ) (p : ℕ → Bool) (at : List ℕ) (on k t : ℕ) : Type 0 where
  pub below : t ≤ n
  pub marked : on ≡ collect t p
  pub counted : k ≡ length (keep p (upto t))
  pub listed : at ≡ padded n (keep p (upto t))

pub listing_start : (n : ℕ) (p : ℕ → Bool) → Listing n p (replicate n 0) 0 0 0
listing_start n p = record { below = omega arith; marked = collect_none p; counted = refl; listed = ap (λ (k : ℕ). replicate k 0) (sym (sub-zero n)) }

-- there is a place for one more
pub listing_room : (n : ℕ) (p : ℕ → Bool) (at : List ℕ) (on k t : ℕ) → Listing n p at on k t → t < n → k < n
listing_room n p at on k t z h = omega (arith, z.counted, length_keep p (upto t), length_from 0 t)

pub listing_in : (n : ℕ) (p : ℕ → Bool) (at new : List ℕ) (on or k j t y : ℕ) → Listing n p at on k t → t < n → p t ≡ true → new ≡ set at k t → y ≡ 2 ^ t
    → or ≡ bit_or on y → j ≡ k + 1 → Listing n p new or j (t + 1)
listing_in n p at new on or k j t y z h e q f g r = record {
  below = omega arith;
  marked = g ∙ collect_in p t on y z.marked e f;
  counted = rw (r, keep_yes p t e, length-append) (omega (arith, z.counted));
  listed = q ∙ rw (z.listed, keep_yes p t e) (padded_more n (keep p (upto t)) k t (sym z.counted) (listing_room n p at on k t z h));
}

pub listing_out : (n : ℕ) (p : ℕ → Bool) (at new : List ℕ) (on or k j t : ℕ) → Listing n p at on k t → t < n → p t ≡ false → new ≡ at → or ≡ on → j ≡ k
    → Listing n p new or j (t + 1)
listing_out n p at new on or k j t z h e q g r =
    record { below = omega arith; marked = g ∙ collect_out p t on z.marked e; counted = rw (r, keep_no p t e) z.counted; listed = rw (q, keep_no p t e) z.listed }

pub listing_end : (n s : ℕ) (at : List ℕ) (on k t : ℕ) → Listing n (rests_on n s) at on k t → n ≤ t
    → (k ≡ length (rests n s)) × ((at ≡ padded n (rests n s)) × (on ≡ collect n (rests_on n s)))
unfolding rests
listing_end n s at on k t z h = let e : t ≡ n = omega (arith, z.below) in (rw e at z.counted, (rw e at z.listed, rw e at z.marked))
