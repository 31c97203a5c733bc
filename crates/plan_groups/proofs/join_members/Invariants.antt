use Rattle.std.proofs.Common.{◌≡◌}
use Rattle.plan_groups.specs.PutLaws.{PuttingMembers}
use Rattle.plan_groups.proofs.join_members.Given as goal

abbrev pub invariant-loop-k : goal.invariant-loop-k
invariant-loop-k l = PuttingMembers l.count l.plan l.at l.first.0 l.initial.grouping.group l.initial.grouping.places l.grouping.group l.grouping.places l.k
    × ((l.grouping.order ≡ l.initial.grouping.order) × (l.grouping.groups ≡ l.initial.grouping.groups))
