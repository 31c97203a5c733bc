use mathlib.Core.Path.{sym}
use Rattle.report.specs.BoundLaws.{plus_accepted, plus_refused}
use Rattle.report_batch.proofs.add.Goals as goal

pub returns-then-answer-ne0 : goal.returns-then-answer-ne0
returns-then-answer-ne0 c = sym (plus_refused _ _ c.if-answer-ne0.true)

pub returns : goal.returns
returns c = sym (plus_accepted _ _ c.if-answer-ne0.false)
