use Rattle.std.proofs.Common.{◌+◌, ◌≤◌, length, arith, rules}
use Rattle.base.specs.FillLaws.{filling_same}
use Rattle.fused_group.specs.LoopLaws.{member_inside, guards_start, guards_fits, guards_room, guards_step, guards_end}
use Rattle.fused_group.proofs.Joint.put_guards.Goals as goal

pub size-i-end-requires : goal.size-i-end-requires
size-i-end-requires c = omega (arith, c.requires.1.0.within)

pub loop-i-init : goal.loop-i-init
loop-i-init c = guards_start _ _ _ _ _ _ c.requires.0

pub member-m-requires : goal.member-m-requires
member-m-requires c = (c.requires.1.0, (omega (arith, c.loop-i-test.true, c.size-i-end.ensures)))

pub load-s-requires : goal.load-s-requires
load-s-requires c = rw c.index.ensures (omega (
  arith,
  member_inside _ _ _ _ c.requires.1.0 c.member-m.ensures (omega (
    arith,
    c.loop-i-test.true,
    c.size-i-end.ensures,
  )),
  c.well_formed,
))

pub slice_bounds-put_guard-count : goal.slice_bounds-put_guard-count
slice_bounds-put_guard-count c = omega (
  arith,
  (guards_fits _ _ _ _ _ _ _ _ _ _ c.loop-i.invariant (omega (arith, c.loop-i-test.true, c.size-i-end.ensures))
      c.member-m.ensures).0,
)

pub slice_bounds-put_guard-start : goal.slice_bounds-put_guard-start
slice_bounds-put_guard-start c = let z : c.loop-i.n ≤ length c.loop-i.out = omega (
  arith,
  (guards_fits _ _ _ _ _ _ _ _ _ _ c.loop-i.invariant (omega (
    arith,
    c.loop-i-test.true,
    c.size-i-end.ensures,
  )) c.member-m.ensures).0,
) in search rules

pub put_guard-k-requires : goal.put_guard-k-requires
put_guard-k-requires c = (
  rw (rw c.index.ensures at c.load-s.ensures) (guards_room _ _ _ _ _ _ _ _ _ _ c.loop-i.invariant (omega (
    arith,
    c.loop-i-test.true,
    c.size-i-end.ensures,
  )) c.member-m.ensures),
  c.requires.1.1,
)

pub overflow_add-n : goal.overflow_add-n
overflow_add-n c = let f = guards_fits _ _ _ _ _ _ _ _ _ _ c.loop-i.invariant (omega (arith, c.loop-i-test.true, c.size-i-end.ensures)) c.member-m.ensures in
    let z : c.loop-i.n + c.put_guard-k.result ≤ length c.args.out.now = omega (
      arith,
      rw (rw c.index.ensures at c.load-s.ensures) at c.put_guard-k.ensures.counted,
      f.0,
      f.1,
    ) in search rules

pub loop-i-preserved : goal.loop-i-preserved
loop-i-preserved c = guards_step _ _ _ _ _ _ _ _ _ _ c.loop-i.invariant (omega (arith, c.loop-i-test.true, c.size-i-end.ensures)) c.member-m.ensures _ _
    (rw (rw c.index.ensures at c.load-s.ensures) at c.put_guard-k.ensures.counted) (rw (rw c.index.ensures at c.load-s.ensures) at c.put_guard-k.ensures.written)

pub shape_of-out : goal.shape_of-out
shape_of-out c = filling_same _ _ _ _ _ _ c.loop-i.invariant.filling (omega (arith, c.loop-i-test.false, c.size-i-end.ensures))

pub returns : goal.returns
returns c = guards_end _ _ _ _ _ _ _ _ _ c.loop-i.invariant (omega (arith, c.loop-i-test.false, c.size-i-end.ensures))
