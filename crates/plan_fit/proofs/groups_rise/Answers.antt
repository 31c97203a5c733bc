use Rattle.std.proofs.Common.{◌∙◌, ◌+◌, ◌-◌, arith}
use Rattle.plan_groups.specs.Walks.{ReadableGroup}
use Rattle.plan_groups.specs.GroupLaws.{lie_inside, ahead_start, ahead_fits}
use Rattle.plan_groups.specs.RisingLaws.{rising_none, rising_start, rising_fits, rising_fails, rising_step, rising_end}
use Rattle.plan_fit.proofs.groups_rise.Goals as goal

pub returns-then-count-eq0 : goal.returns-then-count-eq0
returns-then-count-eq0 c = rising_none _ _ c.groups_counted-count.ensures c.if-count-eq0.true

pub member-requires : goal.member-requires
member-requires c = let f : ReadableGroup _ _ _ = ahead_fits _ _ _ _ (ahead_start _ _ _ c.requires.1 c.groups_counted-count.ensures) (omega (arith, c.if-count-eq0.false)) in
    omega (arith, f.lies, f.joins)

pub loop-init : goal.loop-init
loop-init c = (
  c.requires.0,
  rising_start _ _ _ _ c.requires.1 (omega (arith, c.groups_counted-count.ensures, c.if-count-eq0.false)) (c.index-last.ensures ∙ c.member.ensures),
)

pub after-at-requires : goal.after-at-requires
after-at-requires c = lie_inside _ _ _ c.loop.invariant.1.ahead.lie (omega arith)

pub member-requires-in-loop : goal.member-requires-in-loop
member-requires-in-loop c =
    let f : ReadableGroup _ _ _ = rising_fits _ _ _ (c.groups_counted-count.result - (c.loop.counter + 1)) _ _ c.loop.invariant.1 (omega arith) _ c.after-at.ensures in
    omega (arith, f.lies, f.joins)

pub returns-then-first-last : goal.returns-then-first-last
returns-then-first-last c = rising_fails _ _ _ (c.groups_counted-count.result - (c.loop.counter + 1)) _ _ c.loop.invariant.1 (omega arith) _ _ c.after-at.ensures
    (c.index-first.ensures ∙ c.member-in-loop.ensures) c.if-first-last.true

pub loop-preserved : goal.loop-preserved
loop-preserved c = (
  c.loop.invariant.0,
  rising_step _ _ _ _ _ _ c.loop.invariant.1 (omega arith) _ _ c.after-at.ensures (c.index-first.ensures ∙ c.member-in-loop.ensures) c.if-first-last.false,
)

pub returns : goal.returns
returns c = rising_end _ _ _ _ _ c.loop.invariant.1 (omega arith)
