-- Document 01, "The plan file and its check (001, section 5.1)": all that the check of the plan p for the rule s promises of the memory that it is lent.
use Rattle.std.specs.Prelude.{ℕ, ◌≡◌, List, length}
use Rattle.base.specs.SetsHeld.{sets_in}
use Rattle.circuit.specs.Whole.{rule_answer}
use Rattle.circuit.specs.declared.Circuit.{Circuit}
use Rattle.circuit_needed.specs.Built.{built_quads, built_needs, built_outputs, built_conditions}
use Rattle.plan.specs.declared.Grouping.{Grouping}
use Rattle.plan_check.specs.Checked.{if_checked, writing_order, checked_groups, checked_places, checked_order}

pub record Handed (s p : List ℕ) (circuit : Circuit) (grouping : Grouping) : Type 0 where
  pub quads_are : circuit.quads ≡ built_quads s
  pub needs_are : sets_in circuit.needs ≡ built_needs s
  pub outputs_are : circuit.outputs ≡ built_outputs s
  pub conditions_are : circuit.conditions ≡ built_conditions s
  pub count_is : circuit.count ≡ (rule_answer s).gates
  pub group_is : grouping.group ≡ checked_groups s p
  pub places_are : grouping.places ≡ checked_places s p
  pub order_is : grouping.order ≡ checked_order s p
  pub groups_are : grouping.groups ≡ length (if_checked s p (writing_order s p))
