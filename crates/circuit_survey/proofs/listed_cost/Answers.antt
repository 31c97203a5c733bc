use Rattle.circuit_needed.specs.HeldLaws.{cost_listed, cost_past}
use Rattle.circuit_survey.proofs.listed_cost.Goals as goal

pub returns-then-code-lt64 : goal.returns-then-code-lt64
returns-then-code-lt64 c = cost_listed _ _ c.requires c.if-code-lt64.true

pub returns-else-code-lt64 : goal.returns-else-code-lt64
returns-else-code-lt64 c = cost_past _ c.if-code-lt64.false
