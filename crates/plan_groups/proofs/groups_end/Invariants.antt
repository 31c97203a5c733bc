use Rattle.std.proofs.Common.{◌-◌}
use Rattle.plan_groups.specs.GroupLaws.{Ending}
use Rattle.plan_groups.proofs.groups_end.Given as goal

abbrev pub invariant-loop : goal.invariant-loop
invariant-loop l = Ending l.plan (l.end - l.counter) l.at
