use Rattle.std.proofs.Common.{length}
use Rattle.plan_waits.specs.GatherLaws.{GatheringWaits}
use Rattle.plan_waits.proofs.find_waits.Given as goal

abbrev pub invariant-loop-i : goal.invariant-loop-i
invariant-loop-i l = GatheringWaits l.circuit l.grouping l.waits (length l.initial.waits) l.i
