use Prim.Native.Nat.{◌-◌}
use Rattle.plan_order.specs.SearchLaws.{Searching, TestingWords}
use Rattle.plan_order.proofs.next_ready.Given as goal

abbrev pub invariant-waits : goal.invariant-waits
invariant-waits l = TestingWords l.waits l.left l.fn.from.0 l.count l.watch l.p l.w

abbrev pub decreases-waits : goal.decreases-waits
decreases-waits l = 4 - l.w

abbrev pub invariant-search : goal.invariant-search
invariant-search l = Searching l.waits l.left l.fn.from.0 l.count l.watch l.p

abbrev pub decreases-search : goal.decreases-search
decreases-search l = l.count - l.p
