use Rattle.std.proofs.Common.{◌≡◌, ◌+◌, ◌-◌, ◌*◌, length}
use Rattle.report.specs.Bounds.{Within, most_wanted}
use Rattle.conform_batches.proofs.case.Given as goal

abbrev pub invariant-loop-window : goal.invariant-loop-window
invariant-loop-window g l = (length l.out ≡ 65536) × Within l.progress

abbrev pub decreases-loop-window : goal.decreases-loop-window
decreases-loop-window g l = l.left * 600000 + most_wanted l.progress + (262144 - l.window.len)
