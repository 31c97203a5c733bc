use Rattle.std.proofs.Common.{◌≡◌, ◌+◌, ◌-◌, length}
use Rattle.report.specs.Bounds.{Within, most_wanted}
use Rattle.month.proofs.report.Given as goal

abbrev pub invariant-loop-window : goal.invariant-loop-window
invariant-loop-window l = (length l.out ≡ 65536) × Within l.progress

abbrev pub decreases-loop-window : goal.decreases-loop-window
decreases-loop-window l = most_wanted l.progress + (262144 - l.window.len)
