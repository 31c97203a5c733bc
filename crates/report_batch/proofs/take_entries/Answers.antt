use native.Mathlib.Omega.{arith}
use Rattle.base.specs.BufferLaws.{room_rest}
use Rattle.report_batch.specs.DrainLaws.{drain_start, drain_length, drain_room, drain_full, drain_more, drain_took}
use Rattle.report_batch.specs.DrainLaws.{drain_less, drain_rests, rest_nears, rest_length, rest_few, full_few}
use Rattle.report_batch.proofs.take_entries.Goals as goal

pub loop-out-init : goal.loop-out-init
loop-out-init c = drain_start _ _ _ c.requires

pub overflow_sub-out : goal.overflow_sub-out
overflow_sub-out c = drain_room _ _ _ _ _ _ _ c.loop-out.invariant

pub slice_bounds-step-count : goal.slice_bounds-step-count
slice_bounds-step-count c = c.loop-out.invariant.inside

pub slice_bounds-step-start : goal.slice_bounds-step-start
slice_bounds-step-start c = omega (arith, c.loop-out.invariant.inside)

pub slice_bounds-step-count-in-loop-out : goal.slice_bounds-step-count-in-loop-out
slice_bounds-step-count-in-loop-out c = drain_room _ _ _ _ _ _ _ c.loop-out.invariant

pub slice_bounds-step-start-in-loop-out : goal.slice_bounds-step-start-in-loop-out
slice_bounds-step-start-in-loop-out c = omega (arith, drain_room _ _ _ _ _ _ _ c.loop-out.invariant)

pub step-taken-requires : goal.step-taken-requires
step-taken-requires c = (c.loop-out.invariant.within, rw (room_rest _ _) c.if-out-printed-lt-MOST_LINE.false)

pub overflow_add-bytes : goal.overflow_add-bytes
overflow_add-bytes c = let i = c.loop-out.invariant in
    let done = c.step-taken.ensures in
    let line = c.if-out-printed-lt-MOST_LINE.false in
    record {
      fits = omega (
        arith,
        (drain_took _ _ _ _ _ _ _ i _ _ done.done done.kept.0 done.kept.1 line).0,
        c.well_formed,
      );
    }

pub overflow_add-printed : goal.overflow_add-printed
overflow_add-printed c = let i = c.loop-out.invariant in
    let done = c.step-taken.ensures in
    let line = c.if-out-printed-lt-MOST_LINE.false in
    record {
      fits = omega (
        arith,
        (drain_took _ _ _ _ _ _ _ i _ _ done.done done.kept.0 done.kept.1 line).1,
        c.well_formed,
      );
    }

pub loop-out-smaller : goal.loop-out-smaller
loop-out-smaller c = let i = c.loop-out.invariant in
    let done = c.step-taken.ensures in
    let line = c.if-out-printed-lt-MOST_LINE.false in
    drain_less _ _ _ _ _ _ _ i _ _ done.done done.kept.0 done.kept.1 line c.if-taken-eq0.false

pub loop-out-preserved : goal.loop-out-preserved
loop-out-preserved c = let i = c.loop-out.invariant in
    let done = c.step-taken.ensures in
    let line = c.if-out-printed-lt-MOST_LINE.false in
    drain_more _ _ _ _ _ _ _ i _ _ done.done done.kept.0 done.kept.1 line c.if-taken-eq0.false

pub shape_of-out-then-out-printed-lt-MOST_LINE : goal.shape_of-out-then-out-printed-lt-MOST_LINE
shape_of-out-then-out-printed-lt-MOST_LINE c = drain_length _ _ _ _ _ _ _ c.loop-out.invariant

pub returns-then-out-printed-lt-MOST_LINE : goal.returns-then-out-printed-lt-MOST_LINE
returns-then-out-printed-lt-MOST_LINE c = let i = c.loop-out.invariant in
    record { done = drain_full _ _ _ _ _ _ _ i c.if-out-printed-lt-MOST_LINE.true; kept = (i.within, i.nears); few = full_few _ _ _ _ _ _ _ i c.if-out-printed-lt-MOST_LINE.true }

pub shape_of-out-then-taken-eq0 : goal.shape_of-out-then-taken-eq0
shape_of-out-then-taken-eq0 c = let i = c.loop-out.invariant in
    let done = c.step-taken.ensures in
    let line = c.if-out-printed-lt-MOST_LINE.false in
    rest_length _ _ _ _ _ _ _ i _ _ done.done done.kept.0 done.kept.1 line c.if-taken-eq0.true

pub returns-then-taken-eq0 : goal.returns-then-taken-eq0
returns-then-taken-eq0 c = let i = c.loop-out.invariant in
    let done = c.step-taken.ensures in
    let line = c.if-out-printed-lt-MOST_LINE.false in record {
      done = drain_rests _ _ _ _ _ _ _ i _ _ done.done done.kept.0 done.kept.1 line c.if-taken-eq0.true;
      kept = (done.kept.0, rest_nears _ _ _ _ _ _ _ i _ _ done.done done.kept.0 done.kept.1 line c.if-taken-eq0.true);
      few = λ enough. rest_few _ _ _ _ _ _ _ i _ _ done.done done.kept.0 done.kept.1 line c.if-taken-eq0.true done.few;
    }
