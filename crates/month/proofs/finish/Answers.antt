use Rattle.std.specs.Prelude.{replicate}
use Rattle.std.proofs.Common.{arith, length-take-le}
use Rattle.report.specs.LineLaws.{count_fits}
use Rattle.report.specs.Steps.{ending}
use Rattle.month.proofs.finish.Goals as goal

-- what was written is within the buffer
pub slice_bounds-line-end : goal.slice_bounds-line-end
slice_bounds-line-end g c = omega (arith, count_fits (ending c.args.progress) (replicate 112 0), c.finish-n.ensures.counted, c.finish-n.auto.out)

pub slice_bounds-print-end : goal.slice_bounds-print-end
slice_bounds-print-end g c = omega (
  arith,
  length-take-le c.finish-n.result c.finish-n.new.out (omega (arith, count_fits (ending c.args.progress) (replicate 112 0), c.finish-n.ensures.counted, c.finish-n.auto.out)),
)
