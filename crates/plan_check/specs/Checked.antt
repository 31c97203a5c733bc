-- Document 01, "The plan file and its check (001, section 5.1)": what the check of a plan hands to the layers above it, besides its answer:
-- each gate's group, where the group stands in the plan, and the order of writing; nothing where it refuses.
use Rattle.std.specs.Prelude.{cond, ℕ, List, [], map, reverse, eqb}
use Rattle.base.specs.Lists.{upto}
use Rattle.circuit.specs.Limits.{most_gates}
use Rattle.circuit.specs.PlainCircuit.{gates_of, gate_count}
use Rattle.circuit_needed.specs.Pass.{rule_preconditions}
use Rattle.base.specs.Buffers.{padded}
use Rattle.plan.specs.PlanFile.{groups_in}
use Rattle.plan.specs.Groups.{group_of}
use Rattle.plan.specs.Places.{place_of}
use Rattle.plan.specs.Order.{order}
use Rattle.plan.specs.Rows.{plan_answer}

-- of an accepted plan the list, of a refused one nothing
unfoldable pub if_checked : List ℕ → List ℕ → List ℕ → List ℕ
if_checked s p l = cond (eqb (plan_answer s p).number 0) l []

-- the groups in the order of writing, the first first
abbrev pub writing_order : List ℕ → List ℕ → List ℕ
writing_order s p = reverse (order (gates_of s) (rule_preconditions s) (group_of (groups_in p)))

-- each gate's group, by its smallest member
unfoldable pub checked_groups : List ℕ → List ℕ → List ℕ
checked_groups s p = padded most_gates (if_checked s p (map (group_of (groups_in p)) (upto (gate_count s))))

-- the place in the plan of each gate's group, 0 for a group alone
unfoldable pub checked_places : List ℕ → List ℕ → List ℕ
checked_places s p = padded most_gates (if_checked s p (map (place_of p) (upto (gate_count s))))

-- the order of writing
unfoldable pub checked_order : List ℕ → List ℕ → List ℕ
checked_order s p = padded most_gates (if_checked s p (writing_order s p))
