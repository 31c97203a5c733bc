use native.Mathlib.Omega.{arith}
use Rattle.report.specs.DecimalLaws.{length_decimal}
use Rattle.report.specs.PutLaws.{text_held}
use Rattle.report_lines.proofs.write_decimal.Goals as goal

pub put_decimal-k-requires : goal.put_decimal-k-requires
put_decimal-k-requires c = length_decimal _ c.ranges.n.fits

pub slice_bounds-put_whole-end : goal.slice_bounds-put_whole-end
slice_bounds-put_whole-end c = omega (arith, length_decimal c.args.n c.ranges.n.fits, c.put_decimal-k.ensures.counted, c.put_decimal-k.auto.out)

pub returns : goal.returns
returns c = rw (text_held _ _ _ _ c.put_decimal-k.ensures.counted
    c.put_decimal-k.ensures.written) at c.put_whole.ensures
