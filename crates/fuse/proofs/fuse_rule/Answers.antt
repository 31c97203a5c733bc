use Rattle.std.proofs.Common.{eqb, ap, ◌∙◌, length, arith}
use Rattle.std.specs.Bool.{then_some}
use Rattle.base.specs.Buffers.{over}
use Rattle.base.specs.declared.Answer.{Answer}
use Rattle.report.specs.Line.{line_of}
use Rattle.report.specs.LineLaws.{length_line_of, put_fits}
use Rattle.fuse.proofs.Laws.{file_within}
use Rattle.fuse.proofs.fuse_rule.Goals as goal

-- the fields of an answer are numbers of 64 bits, and one of 8, so its line has room
pub returns : goal.returns
returns c =
    let line = c.args.line.now in
    let answer = c.write-answer.ensures.answer in
    let short = length_line_of c.write-answer.result (omega arith, (omega arith, tt)) (omega arith, (omega arith, (omega arith, (omega arith, tt)))) in
    let whole = put_fits (line_of c.write-answer.result) line (omega (arith, short, c.requires)) in
    let file = c.then_some.ensures ∙ ap (λ (x : Answer). then_some (eqb x.number 0) x.bytes) answer in
    record {
      file = file;
      saved = c.write-answer.ensures.file;
      counted = c.write_line-n.ensures.counted ∙ whole.0 ∙ ap (λ (x : Answer). length (line_of x)) answer;
      printed = c.write_line-n.ensures.written ∙ whole.1 ∙ ap (λ (x : Answer). over (line_of x) line) answer;
      within = (
        rw (file, c.write-answer.auto.out) (file_within _ _ _),
        omega (arith, short, c.requires, c.write_line-n.ensures.counted, whole.0, c.write_line-n.auto.out),
      );
    }
