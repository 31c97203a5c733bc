use Rattle.plan_order.specs.HighestLaws.{highest_bit}
use Rattle.plan_order.proofs.highest.Goals as goal

pub returns : goal.returns
returns c = let e = c.ilog2.ensures in (e.bound, highest_bit _ _ e.power_le e.next_power_gt)
