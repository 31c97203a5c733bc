-- Inner: what the check has in hand of the rule's circuit.
use Rattle.std.specs.Prelude.{◌≡◌, ℕ, List}
use Rattle.base.specs.SetsHeld.{sets_in}
use Rattle.base.specs.declared.Answer.{Answer}
use Rattle.circuit.specs.Whole.{rule_answer}
use Rattle.circuit.specs.declared.Circuit.{Circuit}
use Rattle.circuit_needed.specs.Built.{built_quads, built_needs, built_outputs, built_conditions}

-- all that building the circuit of the rule s promises
pub record IsBuilt (s : List ℕ) (a : Answer) (circuit : Circuit) : Type 0 where
  pub answer : a ≡ rule_answer s
  pub quads : circuit.quads ≡ built_quads s
  pub needs : sets_in circuit.needs ≡ built_needs s
  pub outputs : circuit.outputs ≡ built_outputs s
  pub conditions : circuit.conditions ≡ built_conditions s
  pub count : circuit.count ≡ (rule_answer s).gates
