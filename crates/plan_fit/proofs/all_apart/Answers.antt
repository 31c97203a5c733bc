use Rattle.std.proofs.Common.{◌∙◌, arith}
use Rattle.plan_groups.specs.MemberLaws.{walk_byte}
use Rattle.plan_groups.specs.WalkLaws.{parting_start, parting_fails, parting_step}
use Rattle.plan_fit.proofs.all_apart.Goals as goal

pub loop-k-init : goal.loop-k-init
loop-k-init c = parting_start _ _ _ _ _ c.requires c.empty-seen.ensures

pub load-s-requires : goal.load-s-requires
load-s-requires c = omega (
  arith,
  walk_byte _ _ _ _ _ c.loop-k.invariant.walk (omega arith) (c.index.ensures ∙ c.member.ensures),
  c.well_formed,
)

pub returns-then-not-excludes : goal.returns-then-not-excludes
returns-then-not-excludes c = parting_fails _ _ _ _ _ _ _ _ c.loop-k.invariant (omega arith) (c.index.ensures ∙ c.member.ensures)
    (rw c.load-s.ensures at c.excludes.ensures) c.if-not-excludes.true

pub loop-k-preserved : goal.loop-k-preserved
loop-k-preserved c = parting_step _ _ _ _ _ _ _ _ c.loop-k.invariant (omega arith) (c.index.ensures ∙ c.member.ensures)
    (rw c.load-s.ensures at c.excludes.ensures) _ c.if-not-excludes.false (rw c.load-s.ensures at c.union-seen.ensures)
