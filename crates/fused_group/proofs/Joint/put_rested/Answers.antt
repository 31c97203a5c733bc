use Rattle.std.proofs.Common.{arith}
use Rattle.base.specs.SettingListsLaws.{list_at}
use Rattle.base.specs.FillLaws.{filling_same}
use Rattle.fused_group.specs.LoopLaws.{rests_start, rests_fits, rests_room, rests_step, rests_end}
use Rattle.fused_group.proofs.Joint.put_rested.Goals as goal

pub loop-i-init : goal.loop-i-init
loop-i-init c = rests_start _ _ _ _ _ c.requires.1.counted c.requires.0.0

pub bounds-self-t : goal.bounds-self-t
bounds-self-t c = (list_at _ c.requires.1 _ c.loop-i-test.true).1

pub of-w-requires : goal.of-w-requires
of-w-requires c = c.requires.0.1.guarded _ (list_at _ c.requires.1 _ c.loop-i-test.true).1

pub slice_bounds-put16-count : goal.slice_bounds-put16-count
slice_bounds-put16-count c = omega (arith, (rests_fits _ _ _ _ _ _ _ _ c.loop-i.invariant c.loop-i-test.true).0)

pub put16-requires : goal.put16-requires
put16-requires c = rests_room _ _ _ _ _ _ _ _ c.loop-i.invariant c.loop-i-test.true

pub loop-i-preserved : goal.loop-i-preserved
loop-i-preserved c = rests_step _ _ _ _ _ _ _ _ c.loop-i.invariant c.loop-i-test.true _ _ _ _ (omega arith) (list_at _ c.requires.1 _ c.loop-i-test.true).0
    c.of-w.ensures c.put16.ensures

pub shape_of-out : goal.shape_of-out
shape_of-out c = filling_same _ _ _ _ _ _ c.loop-i.invariant c.loop-i-test.false

pub returns : goal.returns
returns c = rests_end _ _ _ _ _ _ _ _ c.loop-i.invariant c.loop-i-test.false c.requires.1.counted
