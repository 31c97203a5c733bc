use Rattle.std.proofs.Common.{sym, ◌∙◌}
use Rattle.file_wiring.specs.StepLaws.{wires_next}
use Rattle.file_wiring.proofs.Earlier.all_fit.Goals as goal

pub loop-k-preserved : goal.loop-k-preserved
loop-k-preserved c = c.loop-k.invariant ∙ wires_next _ _ _ _ _ _ c.loop-k-test.true ∙ rw (← c.wire_at.ensures, sym c.if-not-has.ensures)
