use Rattle.std.proofs.Common.{ℕ, ◌-◌}
use Rattle.plan_groups.specs.RisingLaws.{RisingGroups}
use Rattle.plan_fit.proofs.groups_rise.Given as goal

abbrev pub invariant-loop : goal.invariant-loop
invariant-loop l = (n : ℕ) × RisingGroups n l.plan (l.count - l.counter) l.at l.last
