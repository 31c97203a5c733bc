use Rattle.std.proofs.Common.{arith, refl, ◌∙◌}
use Rattle.plan_groups.specs.MemberLaws.{walk_byte}
use Rattle.plan_groups.specs.PutLaws.{putting_start, putting_fails, putting_step}
use Rattle.plan_groups.proofs.join_members.Goals as goal

pub loop-k-init : goal.loop-k-init
loop-k-init c = (putting_start _ _ _ _ _ _ c.requires c.member-first.ensures, (refl, refl))

pub bounds-grouping-i : goal.bounds-grouping-i
bounds-grouping-i c = walk_byte _ _ _ _ _ c.loop-k.invariant.0.walk (omega arith) (c.index-i.ensures ∙ c.member.ensures)

pub returns-then-grouping-i-ne0-clause-free : goal.returns-then-grouping-i-ne0-clause-free
returns-then-grouping-i-ne0-clause-free c = putting_fails _ _ _ _ _ _ _ _ _ _ c.loop-k.invariant.0 (omega arith) (c.index-i.ensures ∙ c.member.ensures)
    c.if-grouping-i-ne0.true

pub bounds-grouping-i-in-loop-k : goal.bounds-grouping-i-in-loop-k
bounds-grouping-i-in-loop-k c = walk_byte _ _ _ _ _ c.loop-k.invariant.0.walk (omega arith) (c.index-i.ensures ∙ c.member.ensures)

pub bounds-grouping-i-in-loop-k-2 : goal.bounds-grouping-i-in-loop-k-2
bounds-grouping-i-in-loop-k-2 c = walk_byte _ _ _ _ _ c.loop-k.invariant.0.walk (omega arith) (c.index-i.ensures ∙ c.member.ensures)

pub loop-k-preserved : goal.loop-k-preserved
loop-k-preserved c = (
  putting_step _ _ _ _ _ _ _ _ _ _ c.loop-k.invariant.0 (omega arith) (c.index-i.ensures ∙ c.member.ensures) _ _ c.if-grouping-i-ne0.false refl refl,
  c.loop-k.invariant.1,
)
