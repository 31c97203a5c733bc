-- Document 01, "The plain circuit" and "Needed gates": what the operation that builds a rule's plain circuit gives, besides the answer of reading it.
use Rattle.std.specs.Prelude.{cond, ℕ, ◌*◌, List, [], eqb}
use Rattle.base.specs.Buffers.{padded}
use Rattle.rule.specs.Limits.{most_variables}
use Rattle.circuit.specs.Limits.{most_gates, most_conditions}
use Rattle.circuit.specs.Gates.{conditions}
use Rattle.circuit.specs.PlainCircuit.{gates_of, outputs_of}
use Rattle.circuit.specs.Quads.{quads_of}
use Rattle.circuit_needed.specs.Pass.{rule_preconditions}
use Rattle.circuit.specs.Whole.{rule_answer}

-- of an accepted rule the list, of a refused one nothing
unfoldable pub if_accepted : List ℕ → List ℕ → List ℕ
if_accepted s l = cond (eqb (rule_answer s).number 0) l []

-- each gate's code and arguments, four numbers a gate
unfoldable pub built_quads : List ℕ → List ℕ
built_quads s = padded (4 * most_gates) (if_accepted s (quads_of s (gates_of s)))

-- each gate's precondition
unfoldable pub built_needs : List ℕ → List ℕ
built_needs s = padded most_gates (if_accepted s (rule_preconditions s))

-- every variable's last gate
unfoldable pub built_outputs : List ℕ → List ℕ
built_outputs s = padded most_variables (if_accepted s (outputs_of s))

-- condition t is element t
unfoldable pub built_conditions : List ℕ → List ℕ
built_conditions s = padded most_conditions (if_accepted s (conditions (gates_of s)))
