-- Document 01, "The fused circuit file": a fused circuit of the rule s and the plan p that is checked and measured, and not written yet:
-- what is answered, and the circuit and the grouping that it is written from.
use Rattle.std.specs.Prelude.{◌≡◌, List, ℕ, Result}
use Rattle.base.specs.declared.Counts.{Counts}
use Rattle.base.specs.declared.Refusal.{Refusal}
use Rattle.base.specs.Refusals.{answer_in}
use Rattle.circuit.specs.declared.Circuit.{Circuit}
use Rattle.plan.specs.declared.Grouping.{Grouping}
use Rattle.plan_check.specs.Handed.{Handed}
use Rattle.fused.specs.Answers.{fused_answer}

pub record Ready (s p : List ℕ) (r : Result Counts Refusal) (circuit : Circuit) (grouping : Grouping) : Type 0 where
  pub answered : answer_in r ≡ fused_answer s p
  pub handed : Handed s p circuit grouping
