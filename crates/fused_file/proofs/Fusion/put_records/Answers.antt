use Rattle.std.proofs.Common.{◌+◌, ◌≤◌, length, refl, arith, rules}
use Rattle.fused_file.specs.TurnLaws.{turn_fits, turn_puttable}
use Rattle.fused_file.specs.LoopLaws.{putting_start, putting_fits, putting_room, putting_step, putting_same, putting_end}
use Rattle.fused_file.proofs.Fusion.put_records.Goals as goal

pub loop-i-init : goal.loop-i-init
loop-i-init c = putting_start _ _ _ _ _ _ _ _ _ _ c.requires.0 c.requires.1.1

pub bounds-self-i : goal.bounds-self-i
bounds-self-i c = omega (arith, c.loop-i-test.true, c.requires.1.0.few)

pub slice_bounds-put_group-count : goal.slice_bounds-put_group-count
slice_bounds-put_group-count c = omega (arith, (putting_fits _ _ _ _ _ _ _ _ _ _ _ _ _ _ c.loop-i.invariant c.loop-i-test.true _ _ refl refl).0)

pub slice_bounds-put_group-start : goal.slice_bounds-put_group-start
slice_bounds-put_group-start c = let z : c.loop-i.at ≤ length c.loop-i.out = omega (
  arith,
  (putting_fits _ _ _ _ _ _ _ _ _ _ _ _ _ _ c.loop-i.invariant
      c.loop-i-test.true _ _ refl refl).0,
) in search rules

pub put_group-put-requires : goal.put_group-put-requires
put_group-put-requires c = (
  putting_room _ _ _ _ _ _ _ _ _ _ _ _ _ _ c.loop-i.invariant c.loop-i-test.true _ _ refl refl,
  (c.requires.1.0.inside _ c.loop-i-test.true, turn_puttable _ _ _ _ _ _ _ _ _ c.requires.1.0 _ _ _ c.loop-i-test.true refl refl _ c.loop-i.invariant.counted),
)

pub overflow_add-at : goal.overflow_add-at
overflow_add-at c = let f = putting_fits _ _ _ _ _ _ _ _ _ _ _ _ _ _ c.loop-i.invariant c.loop-i-test.true _ _ refl refl in
    let z : c.loop-i.at + c.put_group-put.result.bytes ≤ length c.args.out.now = omega (arith, c.put_group-put.ensures.put.counted, f.0, f.1) in search rules

pub overflow_add-first : goal.overflow_add-first
overflow_add-first c = record {
  fits = omega (
    arith,
    (turn_fits _ _ _ _ _ _ _ _ _ c.requires.1.0 _ _ _ c.loop-i-test.true refl refl _ _ _ c.loop-i.invariant.counted
        c.loop-i.invariant.wired c.put_group-put.ensures.wired).1,
  );
}

pub overflow_sub-wires : goal.overflow_sub-wires
overflow_sub-wires c = omega (
  arith,
  (turn_fits _ _ _ _ _ _ _ _ _ c.requires.1.0 _ _ _ c.loop-i-test.true refl refl _ _ _ c.loop-i.invariant.counted
      c.loop-i.invariant.wired c.put_group-put.ensures.wired).0,
)

pub bounds-wires-index : goal.bounds-wires-index
bounds-wires-index c = rw c.index.ensures (c.requires.1.0.inside _ c.loop-i-test.true)

pub loop-i-preserved : goal.loop-i-preserved
loop-i-preserved c = rw c.index.ensures
    (putting_step _ _ _ _ _ _ _ _ _ _ _ _ _ _ c.loop-i.invariant c.loop-i-test.true _ _ refl refl _ c.requires.1.0 _ _ _ c.put_group-put.ensures.wired
    c.put_group-put.ensures.put)

pub shape_of-out : goal.shape_of-out
shape_of-out c = putting_same _ _ _ _ _ _ _ _ _ _ _ _ _ _ c.loop-i.invariant c.loop-i-test.false

pub returns : goal.returns
returns c = let r = putting_end _ _ _ _ _ _ _ _ _ _ _ _ _ _ c.loop-i.invariant c.loop-i-test.false in record { put = r.0; wired = r.1 }
