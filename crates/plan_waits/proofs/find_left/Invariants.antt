use Rattle.plan_waits.specs.LeftLaws.{Listing}
use Rattle.plan_waits.proofs.find_left.Given as goal

abbrev pub invariant-loop-i : goal.invariant-loop-i
invariant-loop-i l = Listing l.grouping.group l.count l.left l.n l.i
