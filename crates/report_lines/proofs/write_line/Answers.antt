use native.Mathlib.Omega.{arith}
use Rattle.report.specs.LineLaws.{length_line_of}
use Rattle.report.specs.PutLaws.{text_held}
use Rattle.report_lines.proofs.write_line.Goals as goal

-- the fields of an answer are numbers of 64 bits, and one of 8
pub put_answer-n-requires : goal.put_answer-n-requires
put_answer-n-requires c = length_line_of c.args.answer (omega arith, (omega arith, tt)) (omega arith, (omega arith, (omega arith, (omega arith, tt))))

pub slice_bounds-put_whole-end : goal.slice_bounds-put_whole-end
slice_bounds-put_whole-end c = omega (
  arith,
  length_line_of c.args.answer (omega arith, (omega arith, tt)) (omega arith, (omega arith, (omega arith, (omega arith, tt)))),
  c.put_answer-n.ensures.counted,
  c.put_answer-n.auto.out,
)

pub returns : goal.returns
returns c = rw (text_held _ _ _ _ c.put_answer-n.ensures.counted
    c.put_answer-n.ensures.written) at c.put_whole.ensures
