use native.Mathlib.Omega.{arith}
use lib.ListN.{length-append}
use Rattle.report.specs.LineLaws.{length_line, line_accepted, line_placed, line_unplaced}
use Rattle.report_lines.proofs.put_answer.Goals as goal

-- by the lengths of the numbers, so that their order is asked by `returns` alone
pub put_words-requires : goal.put_words-requires
put_words-requires c = let room = rw (line_accepted c.args.answer c.if-answer-eq0.true) at c.requires in
    simp (length_line, length-append) (omega (arith, simp (length_line, length-append) at room))

pub returns-then-answer-eq0 : goal.returns-then-answer-eq0
returns-then-answer-eq0 c = rw (line_accepted c.args.answer c.if-answer-eq0.true) c.put_words.ensures

pub put_words-requires-then-answer-le-LAST_PLACED : goal.put_words-requires-then-answer-le-LAST_PLACED
put_words-requires-then-answer-le-LAST_PLACED c = rw c.from-number.ensures (rw (line_placed c.args.answer c.if-answer-eq0.false c.if-answer-le-LAST_PLACED.true) at c.requires)

pub returns-then-answer-le-LAST_PLACED : goal.returns-then-answer-le-LAST_PLACED
returns-then-answer-le-LAST_PLACED c =
    rw (line_placed c.args.answer c.if-answer-eq0.false c.if-answer-le-LAST_PLACED.true) (rw c.from-number.ensures at c.put_words-then-answer-le-LAST_PLACED.ensures)

pub put_words-requires-2 : goal.put_words-requires-2
put_words-requires-2 c = rw c.from-number.ensures (rw (line_unplaced c.args.answer c.if-answer-le-LAST_PLACED.false) at c.requires)

pub returns : goal.returns
returns c = rw (line_unplaced c.args.answer c.if-answer-le-LAST_PLACED.false) (rw c.from-number.ensures at c.put_words-2.ensures)
