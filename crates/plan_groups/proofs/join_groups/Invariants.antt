use Rattle.std.proofs.Common.{◌≡◌, ◌-◌}
use Rattle.plan_groups.specs.JoinLaws.{JoiningGroups}
use Rattle.plan_groups.proofs.join_groups.Given as goal

abbrev pub invariant-loop : goal.invariant-loop
invariant-loop l = JoiningGroups l.count l.plan l.grouping.group l.grouping.places (l.end - l.counter) l.at
    × ((l.grouping.order ≡ l.initial.grouping.order) × (l.grouping.groups ≡ l.initial.grouping.groups))
