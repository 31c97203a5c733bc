use Rattle.plan_order.specs.HoldLaws.{lowered_yes, lowered_no}
use Rattle.plan_order.proofs.hold.Goals as goal

pub returns-then-b-watch : goal.returns-then-b-watch
returns-then-b-watch c = rw (← c.index-i.ensures) (lowered_yes _ _ _ c.if-b-watch.true)

pub returns-else-b-watch : goal.returns-else-b-watch
returns-else-b-watch c = rw (← c.index-i.ensures) (lowered_no _ _ _ c.if-b-watch.false)
