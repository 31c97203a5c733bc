use Rattle.plan_groups.specs.WalkLaws.{Climbing}
use Rattle.plan_groups.proofs.numbers_rise.Given as goal

abbrev pub invariant-loop-k : goal.invariant-loop-k
invariant-loop-k l = Climbing l.count l.plan l.at l.least l.k
