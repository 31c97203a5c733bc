use Rattle.std.proofs.Common.{arith}
use Rattle.base.specs.FillLaws.{filling_same}
use Rattle.fused_group.specs.LoopLaws.{pairs_start, pairs_fits, pairs_room, pairs_step, pairs_end}
use Rattle.fused_group.proofs.Joint.put_pairs.Goals as goal

pub size-i-end-requires : goal.size-i-end-requires
size-i-end-requires c = omega (arith, c.requires.1.0.lies.within)

pub loop-i-init : goal.loop-i-init
loop-i-init c = pairs_start _ _ _ _ _ _ _ c.requires.0

pub wire-w-requires : goal.wire-w-requires
wire-w-requires c = (c.requires.1.0, (omega (arith, c.loop-i-test.true, c.size-i-end.ensures)))

pub slice_bounds-put_pair-count : goal.slice_bounds-put_pair-count
slice_bounds-put_pair-count c = omega (arith, (pairs_fits _ _ _ _ _ _ _ _ _ _ c.loop-i.invariant (omega (arith, c.loop-i-test.true, c.size-i-end.ensures))).0)

pub overflow_cast-i : goal.overflow_cast-i
overflow_cast-i c = record { fits = omega (arith, c.loop-i-test.true, c.size-i-end.type_inv) }

pub put_pair-requires : goal.put_pair-requires
put_pair-requires c = pairs_room _ _ _ _ _ _ _ _ _ _ c.loop-i.invariant (omega (arith, c.loop-i-test.true, c.size-i-end.ensures))

pub loop-i-preserved : goal.loop-i-preserved
loop-i-preserved c = pairs_step _ _ _ _ _ _ _ _ _ _ c.loop-i.invariant (omega (arith, c.loop-i-test.true, c.size-i-end.ensures)) _ _ _ (omega arith)
    c.wire-w.ensures c.put_pair.ensures

pub shape_of-out : goal.shape_of-out
shape_of-out c = filling_same _ _ _ _ _ _ c.loop-i.invariant.filling (omega (arith, c.loop-i-test.false, c.size-i-end.ensures))

pub returns : goal.returns
returns c = pairs_end _ _ _ _ _ _ _ _ _ _ c.loop-i.invariant (omega (arith, c.loop-i-test.false, c.size-i-end.ensures))
