use Rattle.std.proofs.Common.{◌*◌, map, get_or}
use Rattle.base.specs.SettingLists.{conditions_in}
use Rattle.plan_waits.specs.ArgumentLaws.{Putting}
use Rattle.plan_waits.proofs.wait_conditions.Given as goal

abbrev pub invariant-loop-t : goal.invariant-loop-t
invariant-loop-t l = Putting l.grouping.group (map (λ t. get_or l.circuit.conditions t 0) (conditions_in l.fn.list)) l.initial.waits (4 * l.p.0) l.waits l.t-index
