-- The search for the next ready group as the code goes: the turns of its two loops.
use Rattle.std.specs.Prelude.{ℕ, suc, ◌+◌, ◌-◌, ◌*◌, ◌≤◌, ◌<◌, ◌≡◌, List, length, get_or, Some, None}
use Rattle.std.proofs.Math.Path.{refl, sym}
use Rattle.std.proofs.Common.{ap, ◌∙◌}
use Rattle.std.proofs.Math.Bool.{true, false}
use Rattle.std.proofs.Math.Option as list
use native.Mathlib.Omega.{arith}
use Rattle.std.specs.Int.Bits.{bit_and}
use borrow.Author.Tests.{eq-eqb, ne_eqb}
use Rattle.base.specs.Bits.{bit}
use Rattle.circuit.specs.declared.GateId.{GateId}
use Rattle.base.specs.BitWords.{bit_in}
use Rattle.plan_order.specs.Search.{free_from, ready_in, search_from, next_ready, as_next, lowered, Holding}
use Rattle.plan_order.specs.HoldLaws.{holding_pass, holding_more}

less : (n p : ℕ) → p < n → n - p ≡ suc (n - (p + 1))
less n p h = omega arith

-- no group below p, from `from` on, is ready; held holds up those that are left
pub record Searching (waits left : List ℕ) (first count : ℕ) (held : List ℕ) (p : ℕ) : Type 0 where
  pub room : count ≤ 256
  pub wide : 4 * count ≤ length waits
  pub lefts : length left ≡ 4
  pub holding : Holding waits left held p
  pub below : p ≤ count
  pub here : next_ready waits left first count ≡ search_from waits left p (count - p)

-- p is left, and waits for none that is left as far as its words below w say
pub record TestingWords (waits left : List ℕ) (first count : ℕ) (held : List ℕ) (p w : ℕ) : Type 0 where
  pub search : Searching waits left first count held p
  pub inside : p < count
  pub is_left : bit_in 0 left p ≡ true
  pub below : w ≤ 4
  pub tested : free_from waits left p 0 4 ≡ free_from waits left p w (4 - w)

module _ (waits left : List ℕ) (first count : ℕ) where
  pub searching_start : (held : List ℕ) → count ≤ 256 → 4 * count ≤ length waits → length left ≡ 4 → first ≤ count → Holding waits left held first
      → Searching waits left first count held first
  unfolding next_ready
  searching_start held h a b l s = record { room = h; wide = a; lefts = b; holding = s; below = l; here = refl }

  step : (held new : List ℕ) (p : ℕ) → Searching waits left first count held p → p < count → ready_in waits left p ≡ false → Holding waits left new (p + 1)
      → Searching waits left first count new (p + 1)
  unfolding search_from
  step held new p s l e h =
      record { room = s.room; wide = s.wide; lefts = s.lefts; holding = h; below = omega arith; here = s.here ∙ rw (less count p l, e) }

  -- past a gate that names no group left
  pub searching_past : (held new : List ℕ) (p : ℕ) → Searching waits left first count held p → p < count → bit_in 0 left p ≡ false → new ≡ held
      → Searching waits left first count new (p + 1)
  unfolding ready_in
  searching_past held new p s l e f = step held new p s l (rw e) (rw f (holding_pass waits left held p s.holding e))

  -- past a group that waits
  pub searching_held : (held new : List ℕ) (p w j : ℕ) → TestingWords waits left first count held p w → w < 4
      → (bit_and (get_or waits (4 * p + w) 0) (get_or left w 0) ≡ 0 → ⊥) → (j < 64) × (bit (bit_and (get_or waits (4 * p + w) 0) (get_or left w 0)) j ≡ true)
      → new ≡ lowered (64 * w + j) p held → Searching waits left first count new (p + 1)
  unfolding ready_in
  searching_held held new p w j t l e x f =
      step held new p t.search t.inside (rw t.is_left (t.tested ∙ waiting)) (rw f (holding_more waits left held p t.search.holding w j l x.0 x.1))
    where
      waiting : free_from waits left p w (4 - w) ≡ false
      waiting = unfold free_from in rw (less 4 w l, ne_eqb (bit_and (get_or waits (4 * p + w) 0) (get_or left w 0)) 0 e)

  module _ (held : List ℕ) where
    pub testing_start : (p : ℕ) → Searching waits left first count held p → p < count → bit_in 0 left p ≡ true → TestingWords waits left first count held p 0
    testing_start p s l e = record { search = s; inside = l; is_left = e; below = omega arith; tested = refl }

    pub testing_next : (p w : ℕ) → TestingWords waits left first count held p w → w < 4 → bit_and (get_or waits (4 * p + w) 0) (get_or left w 0) ≡ 0
        → TestingWords waits left first count held p (w + 1)
    unfolding free_from
    testing_next p w t l e =
        record {
          search = t.search;
          inside = t.inside;
          is_left = t.is_left;
          below = omega arith;
          tested = t.tested ∙ rw (less 4 w l, eq-eqb (bit_and (get_or waits (4 * p + w) 0) (get_or left w 0)) 0 e);
        }

    -- a group left that waits for none that is
    pub testing_end : (p w : ℕ) → TestingWords waits left first count held p w → 4 ≤ w → Some (record { 0 = p }) ≡ next_ready waits left first count
    unfolding search_from ready_in
    testing_end p w t l = sym (t.search.here ∙ rw (less count p t.inside, t.is_left, t.tested ∙ free))
      where
        free : free_from waits left p w (4 - w) ≡ true
        free = unfold free_from in let e : 4 - w ≡ 0 = omega arith in rw e

    pub searching_end : (p : ℕ) → Searching waits left first count held p → count ≤ p
        → (None ≡ next_ready waits left first count) × Holding waits left held count
    unfolding search_from
    searching_end p s l =
        let e : count - p ≡ 0 = omega arith in
        let f : count ≡ p = omega (arith, s.below) in
        (sym (s.here ∙ rw e), rw f s.holding)

-- what the code yields, back in the list's terms
pub as_none : (o : list.Option ℕ) → None ≡ as_next o → o ≡ list.none
as_none list.none e = refl
as_none (list.some p) e = absurd cc

pub as_some : (o : list.Option ℕ) (p : GateId) → Some p ≡ as_next o → o ≡ list.some p.0
as_some list.none p e = absurd cc
as_some (list.some q) p e = let z : p ≡ record { 0 = q } = cc in ap (λ (x : GateId). list.some x.0) (sym z)
