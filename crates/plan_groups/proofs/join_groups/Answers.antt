use Rattle.std.proofs.Common.{arith, refl, ◌∙◌}
use Rattle.plan_groups.specs.GroupLaws.{lie_inside, ahead_fits}
use Rattle.plan_groups.specs.JoinLaws.{joining_start, joining_fails, joining_step, joining_end}
use Rattle.plan_groups.proofs.join_groups.Goals as goal

pub loop-init : goal.loop-init
loop-init c = (
  joining_start _ _ _ _ _ c.requires.0 (omega (arith, c.groups_counted-end.ensures)) c.number_gates.ensures c.requires.1.1,
  (refl, refl),
)

pub join_members-requires : goal.join_members-requires
join_members-requires c = ahead_fits _ _ _ _ c.loop.invariant.0.ahead (omega arith)

pub returns-then-not-join_members-clause-once : goal.returns-then-not-join_members-clause-once
returns-then-not-join_members-clause-once c = joining_fails _ _ _ _ _ _ _ c.loop.invariant.0 (omega arith) c.join_members.ensures.free c.if-not-join_members.true

pub after-at-requires : goal.after-at-requires
after-at-requires c = lie_inside _ _ _ c.loop.invariant.0.ahead.lie (omega arith)

pub loop-preserved : goal.loop-preserved
loop-preserved c =
    let r = c.if-not-join_members.false in
    let e = c.join_members.ensures in (
      joining_step _ _ _ _ _ _ _ _ _ _ _ c.loop.invariant.0 (omega arith) e.free r c.after-at.ensures (e.groups r) (e.places r),
      (e.rest.0 ∙ c.loop.invariant.1.0, e.rest.1 ∙ c.loop.invariant.1.1),
    )

pub returns : goal.returns
returns c =
    let r = joining_end _ _ _ _ _ _ c.loop.invariant.0 (omega arith) in
    record { once = r.0; groups = λ e. r.1.0; places = λ e. r.1.1; rest = c.loop.invariant.1 }
