use native.Mathlib.Omega.{arith}
use Rattle.report.specs.Total.{total_line}
use Rattle.report.specs.TotalLaws.{length_total_line}
use Rattle.report.specs.PutLaws.{text_held}
use Rattle.report_lines.proofs.write_total.Goals as goal

-- the four numbers are of 64 bits
pub put_total-n-requires : goal.put_total-n-requires
put_total-n-requires c =
    length_total_line c.args.sums.accepted c.args.sums.refused c.args.sums.before c.args.sums.after (omega arith, (omega arith, (omega arith, (omega arith, tt))))

pub slice_bounds-put_whole-end : goal.slice_bounds-put_whole-end
slice_bounds-put_whole-end c = omega (
  arith,
  length_total_line c.args.sums.accepted c.args.sums.refused c.args.sums.before c.args.sums.after (omega arith, (omega arith, (omega arith, (omega arith, tt)))),
  c.put_total-n.ensures.counted,
  c.put_total-n.auto.out,
)

pub returns : goal.returns
returns c =
    rw (text_held (total_line c.args.sums.accepted c.args.sums.refused c.args.sums.before c.args.sums.after) _ _ _ c.put_total-n.ensures.counted c.put_total-n.ensures.written) at c.put_whole.ensures
