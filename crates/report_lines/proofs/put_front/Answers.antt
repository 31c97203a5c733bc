use native.Mathlib.Omega.{arith}
use lib.ListN.{length-append}
use Rattle.base.specs.Lists.{flat}
use Rattle.report.specs.Line.{spaced}
use Rattle.report.specs.PutLaws.{front_fits, front_room, front_put}
use Rattle.report_lines.proofs.Copied.{as_copied}
use Rattle.report_lines.proofs.put_front.Goals as goal

pub copy-n-requires : goal.copy-n-requires
copy-n-requires c = omega (arith, length-append c.args.word.now (flat spaced c.args.numbers.now), c.requires)

pub slice_bounds-put_numbers-count : goal.slice_bounds-put_numbers-count
slice_bounds-put_numbers-count c = omega (arith, front_fits c.args.word.now c.args.numbers.now c.args.out.now _ _ c.requires c.copy-n.ensures.counted (as_copied _ _ _ c.copy-n.ensures.written))

pub slice_bounds-put_numbers-start : goal.slice_bounds-put_numbers-start
slice_bounds-put_numbers-start c = omega (arith, front_fits c.args.word.now c.args.numbers.now c.args.out.now _ _ c.requires c.copy-n.ensures.counted (as_copied _ _ _ c.copy-n.ensures.written))

pub put_numbers-requires : goal.put_numbers-requires
put_numbers-requires c = front_room c.args.word.now c.args.numbers.now c.args.out.now _ _ c.requires c.copy-n.ensures.counted (as_copied _ _ _ c.copy-n.ensures.written)

-- the end of the numbers is a number of 64 bits, since the buffer's length is
pub overflow_add-result : goal.overflow_add-result
overflow_add-result c = record {
  fits = omega (arith, length-append c.args.word.now (flat spaced c.args.numbers.now), c.requires, c.copy-n.ensures.counted, c.put_numbers.ensures.counted, c.well_formed);
}

pub returns : goal.returns
returns c = let r = front_put c.args.word.now c.args.numbers.now c.args.out.now _ _ c.requires c.copy-n.ensures.counted (as_copied _ _ _ c.copy-n.ensures.written)
    _ _ c.put_numbers.ensures.counted c.put_numbers.ensures.written in record { counted = r.0; written = r.1 }
