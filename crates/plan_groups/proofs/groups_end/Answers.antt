use Rattle.std.proofs.Common.{arith}
use Rattle.plan_groups.specs.GroupLaws.{ending_step}
use Rattle.plan_groups.proofs.groups_end.Goals as goal

pub loop-preserved : goal.loop-preserved
loop-preserved c = ending_step _ _ _ _ _ c.loop.invariant (omega arith) c.after-at.ensures c.if-plan-at-2.false
