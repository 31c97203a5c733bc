use Prim.Native.Nat.{◌≤◌}
use native.Mathlib.Omega.{arith}
use lib.ListN.{length}
use borrow.Author.Rules.{rules}
use Rattle.report.specs.PutLaws.{numbered_start, numbered_length, numbered_fits, numbered_room, numbered_step, numbered_end, numbered_same}
use Rattle.report_lines.proofs.put_numbers.Goals as goal

pub loop-n-init : goal.loop-n-init
loop-n-init c = numbered_start _ _ c.requires

pub slice_bounds-put_spaced-count : goal.slice_bounds-put_spaced-count
slice_bounds-put_spaced-count c = omega (arith, numbered_fits _ _ _ _ _ c.loop-n.invariant c.loop-n-test.true)

pub slice_bounds-put_spaced-start : goal.slice_bounds-put_spaced-start
slice_bounds-put_spaced-start c = let z : c.loop-n.at ≤ length c.loop-n.out = omega (arith, numbered_fits _ _ _ _ _ c.loop-n.invariant c.loop-n-test.true) in
    search rules

pub put_spaced-at-requires : goal.put_spaced-at-requires
put_spaced-at-requires c = numbered_room _ _ _ _ _ c.loop-n.invariant c.loop-n-test.true

pub overflow_add-at : goal.overflow_add-at
overflow_add-at c = let l = c.loop-n.invariant in
    let t = c.loop-n-test.true in
    record {
      fits = omega (
        arith,
        numbered_fits _ _ _ _ _ l t,
        numbered_length _ _ _ _ _ l t,
        c.put_spaced-at.ensures.counted,
        c.well_formed,
      );
    }

pub loop-n-preserved : goal.loop-n-preserved
loop-n-preserved c = numbered_step _ _ _ _ _ c.loop-n.invariant c.loop-n-test.true _ _
    c.put_spaced-at.ensures.counted c.put_spaced-at.ensures.written

pub shape_of-out : goal.shape_of-out
shape_of-out c = numbered_same _ _ _ _ _ c.loop-n.invariant c.loop-n-test.false

pub returns : goal.returns
returns c = let r = numbered_end _ _ _ _ _ c.loop-n.invariant c.loop-n-test.false in record { counted = r.0; written = r.1 }
