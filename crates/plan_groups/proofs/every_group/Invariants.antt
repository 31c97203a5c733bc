use Rattle.std.proofs.Common.{◌-◌}
use Rattle.plan_groups.specs.GroupLaws.{Passing}
use Rattle.plan_groups.proofs.every_group.Given as goal

abbrev pub invariant-loop : goal.invariant-loop
invariant-loop g l = Passing (goal.F-post g l.test) l.plan (l.end - l.counter) l.at
