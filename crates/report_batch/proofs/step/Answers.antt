use mathlib.Core.Path.{refl, sym, ◌∙◌}
use Rattle.report.specs.declared.Progress.TheVariants.{Stopped}
use Rattle.report_batch.specs.TakenLaws.{quiet_does, quiet_took}
use Rattle.report_batch.proofs.step.Goals as goal

pub returns-in-Head-clause-done : goal.returns-in-Head-clause-done
returns-in-Head-clause-done c = rw c.in-Head.is (quiet_does _ _ _ c.take_head.ensures.done)

pub returns-in-Entries-eq0-default-clause-done : goal.returns-in-Entries-eq0-default-clause-done
returns-in-Entries-eq0-default-clause-done c = let n = c.in-Entries-eq0-default in rw (n.is, sym n.field-0-is ∙ n.field-0-test) (quiet_does _ _ _ c.take_end.ensures.done)

pub returns-in-Stopped-clause-done : goal.returns-in-Stopped-clause-done
returns-in-Stopped-clause-done c = let q = rw c.in-Stopped.is at c.quiet.ensures in
    rw c.in-Stopped.is (quiet_does _ _ _ (quiet_took _ Stopped 0 _ refl q))
