-- Document 01, "The fused circuit file": "Order: again and again take the first group, by smallest member, not yet written and waiting for no unwritten group."
-- This is Kahn's topological sort that takes, of all ready groups, the one with the smallest member; a wait is an edge, and a circle (row 30) a cycle.
use Rattle.std.specs.Prelude.{ℕ, zero, suc, List, [], ◌∷◌, Bool, true, false, cond, length}
use Rattle.std.proofs.Math.Option.{Option, none, some}
use Rattle.base.specs.Lists.{◌∈◌, elem}
use Rattle.circuit.specs.Gates.{Gates}
use Rattle.plan.specs.Groups.{groups, waits_for}

-- every number of l stands in done
abbrev pub all_in : List ℕ → List ℕ → Bool
all_in [] done = true
all_in (q ∷ l) done = cond (elem q done) (all_in l done) false

-- over any table of waits; done: the groups written, the last first
module _ (waits : ℕ → List ℕ) where
  -- not yet written and waiting for no unwritten group: in-degree 0 of what is left
  abbrev pub ready : List ℕ → ℕ → Bool
  ready done p = cond (elem p done) false (all_in (waits p) done)

  -- the first such group of the list; none: each of them is written or waits
  abbrev pub first_ready : List ℕ → List ℕ → Option ℕ
  first_ready done [] = none
  first_ready done (p ∷ l) = cond (ready done p) (some p) (first_ready done l)

  -- again and again the first ready group of gs, at most n times; none is left ready when it stops sooner
  abbrev pub schedule : List ℕ → ℕ → List ℕ → List ℕ
  schedule gs zero done = done
  schedule gs (suc n) done = elim (first_ready done gs) [ none ↦ done | some p ↦ schedule gs n (p ∷ done) ]

  -- groups written, the last first: each waits only for groups written before it
  abbrev pub Ordered : List ℕ → Type 0
  Ordered [] = Unit {0}
  Ordered (p ∷ done) = ((q : ℕ) → q ∈ waits p → q ∈ done) × Ordered done

-- the order of writing, the last group first; groups that it does not place wait in a circle, or for one that does
unfoldable pub order : Gates → List ℕ → (ℕ → ℕ) → List ℕ
order C sets group = schedule (waits_for C sets group) (groups (length C) group) (length (groups (length C) group)) []
