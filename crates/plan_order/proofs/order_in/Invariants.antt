use Rattle.std.proofs.Common.{◌≡◌, List, ℕ, length, get_or}
use Rattle.plan.specs.Groups.{groups}
use Rattle.plan_order.specs.OrderingLaws.{PlacingIn}
use Rattle.plan_order.proofs.order_in.Given as goal

abbrev pub invariant-loop-k : goal.invariant-loop-k
invariant-loop-k l = (l.n ≡ length (groups l.circuit.count (λ x. get_or l.initial.grouping.group x 0)))
    × ((l.grouping ≡ record l.initial.grouping { order = l.grouping.order })
    × ((done : List ℕ) × PlacingIn l.circuit l.initial.grouping l.waits l.grouping.order l.left l.watch l.k l.from done))
