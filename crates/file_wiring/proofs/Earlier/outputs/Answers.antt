use Rattle.std.proofs.Common.{sym, ◌∙◌}
use Rattle.file_wiring.specs.LoopLaws.{outputs_next}
use Rattle.file_wiring.proofs.Earlier.outputs.Goals as goal

pub loop-x-preserved : goal.loop-x-preserved
loop-x-preserved c = c.loop-x.invariant ∙ outputs_next _ _ _ _ _ _ c.loop-x-test.true ∙ rw (sym c.if-not-output.ensures)
