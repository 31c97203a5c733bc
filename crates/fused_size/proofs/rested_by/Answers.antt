use Rattle.std.proofs.Common.{◌∙◌, arith}
use Rattle.base.specs.PlaceLaws.{few_rests}
use Rattle.base.specs.SetsHeld.{set_of}
use Rattle.circuit.specs.Limits.{most_conditions}
use Rattle.plan.specs.NumberLaws.{length_group}
use Rattle.fused_group.specs.LoopLaws.{member_inside}
use Rattle.fused_size.specs.SumLaws.{summing_start, summing_step, summing_end}
use Rattle.fused_size.proofs.rested_by.Goals as goal

pub size-i-end-requires : goal.size-i-end-requires
size-i-end-requires c = omega (arith, c.requires.within)

pub loop-i-init : goal.loop-i-init
loop-i-init c = summing_start _ _

pub member-m-requires : goal.member-m-requires
member-m-requires c = (c.requires, (omega (arith, c.loop-i-test.true, c.size-i-end.ensures)))

pub load-s-requires : goal.load-s-requires
load-s-requires c = rw c.index.ensures (omega (
  arith,
  member_inside _ _ _ _ c.requires c.member-m.ensures (omega (arith, c.loop-i-test.true, c.size-i-end.ensures)),
  c.well_formed,
))

pub overflow_add-n : goal.overflow_add-n
overflow_add-n c = record {
  fits = omega (
    arith,
    c.loop-i.invariant.few,
    c.loop-i-test.true,
    c.from-n.ensures,
    c.rested.ensures.counted,
    few_rests most_conditions (set_of c.load-s.result),
    c.size-i-end.type_inv,
  );
}

pub loop-i-preserved : goal.loop-i-preserved
loop-i-preserved c = let j = c.args.joint in
    summing_step _ _ _ _ _ _ c.loop-i.invariant (omega (arith, length_group j.plan.now j.at, c.loop-i-test.true, c.size-i-end.ensures))
    c.member-m.ensures (c.from-n.ensures ∙ rw (c.load-s.ensures, c.index.ensures) at c.rested.ensures.counted)

pub returns : goal.returns
returns c = let j = c.args.joint in
    summing_end _ _ _ _ c.loop-i.invariant (omega (arith, length_group j.plan.now j.at, c.loop-i-test.false, c.size-i-end.ensures))
