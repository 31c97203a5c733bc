-- What the check of a plan hands up, read back: of a refused plan nothing; of an accepted one each gate's group and its place, and the group of each turn.
use Rattle.std.specs.Prelude.{ℕ, ◌<◌, ◌≡◌, List, [], map, get_or}
use Rattle.std.proofs.Common.{ap, ◌∙◌, eq-eqb, ne_eqb}
use Rattle.base.specs.Lists.{upto}
use Rattle.circuit.specs.Limits.{most_gates}
use Rattle.circuit.specs.PlainCircuit.{gate_count}
use Rattle.base.specs.ListLaws.{get_or_upto}
use Rattle.base.specs.Buffers.{padded}
use Rattle.base.specs.BufferLaws.{padded_at}
use Rattle.plan.specs.PlanFile.{groups_in}
use Rattle.plan.specs.Groups.{group_of}
use Rattle.plan.specs.Places.{place_of}
use Rattle.plan.specs.Rows.{plan_answer}
use Rattle.plan_check.specs.Checked.{if_checked, writing_order, checked_groups, checked_places, checked_order}

pub refused_lists : (s p : List ℕ) → ((plan_answer s p).number ≡ 0 → ⊥) → (l : List ℕ) → if_checked s p l ≡ []
unfolding if_checked
refused_lists s p h l = rw (ne_eqb _ _ h)

pub accepted_lists : (s p : List ℕ) → (plan_answer s p).number ≡ 0 → (l : List ℕ) → if_checked s p l ≡ l
unfolding if_checked
accepted_lists s p h l = rw (eq-eqb _ _ h)

module _ (s p : List ℕ) (h : (plan_answer s p).number ≡ 0) where
  part_at : (l : List ℕ) (i : ℕ) → get_or (padded most_gates (if_checked s p l)) i 0 ≡ get_or l i 0
  part_at l i = padded_at most_gates (if_checked s p l) i ∙ ap (λ (k : List ℕ). get_or k i 0) (accepted_lists s p h l)

  gate_at_lem : (f : ℕ → ℕ) (g : ℕ) → g < gate_count s → get_or (padded most_gates (if_checked s p (map f (upto (gate_count s))))) g 0 ≡ f g
  gate_at_lem f g l = part_at (map f (upto (gate_count s))) g ∙ get_or_upto f 0 (gate_count s) g l

  -- each gate's group, and its place in the plan
  pub group_is : (g : ℕ) → g < gate_count s → get_or (checked_groups s p) g 0 ≡ group_of (groups_in p) g
  unfolding checked_groups
  group_is g l = gate_at_lem (group_of (groups_in p)) g l

  pub place_is : (g : ℕ) → g < gate_count s → get_or (checked_places s p) g 0 ≡ place_of p g
  unfolding checked_places
  place_is g l = gate_at_lem (place_of p) g l

  -- the group of turn i
  pub turn_is : (i : ℕ) → get_or (checked_order s p) i 0 ≡ get_or (writing_order s p) i 0
  unfolding checked_order
  turn_is i = part_at (writing_order s p) i
