-- Inner, for document 01, "Refusals by place": a rule, read whole, as the code has it: its gates lie in quads, at most 256 of them.
use Rattle.std.specs.Prelude.{cond, ℕ, ◌≤◌, ◌≡◌, List, leb}
use Rattle.base.specs.Answers.{refusal}
use Rattle.base.specs.declared.Answer.{Answer}
use Rattle.circuit.specs.Limits.{most_gates, most_conditions}
use Rattle.circuit_make.specs.RuleMade.{RuleMade}
use Rattle.circuit_needed.specs.Held.{gates_in}
use Rattle.circuit_needed.specs.Ranks.{ranks_of}
use Rattle.circuit.specs.Whole.{whole_within}
use Rattle.circuit.specs.WholeLaws.{Accepted}

-- rows 10 and 11 of the gates in quads, by their count; one more than the limit stands for any count above it
unfoldable pub whole_in : List ℕ → ℕ → ℕ → Answer
whole_in quads count size = cond (leb count most_gates) (whole_within most_gates most_conditions (gates_in quads count) size) (refusal 10 size)

-- an accepted rule whose gates were made into quads, its outputs into present, and its conditions numbered in ranks
pub record MadeWhole (s quads present ranks : List ℕ) (count : ℕ) : Type 0 where
  pub accepted : Accepted s
  pub made : RuleMade s quads present count
  pub placed : count ≤ most_gates → ranks ≡ ranks_of (gates_in quads count) most_gates
