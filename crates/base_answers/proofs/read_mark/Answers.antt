use Rattle.std.proofs.Common.{◌≡◌, sym, ap, ◌∙◌, length, arith}
use Rattle.base.specs.Parsing.{step_of}
use Rattle.base.specs.ParsingLaws.{mark_more, mark_wrong, mark_end}
use Rattle.base_answers.proofs.read_mark.Goals as goal

pub returns-then-s-at : goal.returns-then-s-at
returns-then-s-at c number = ap step_of (sym (c.loop-at.invariant number ∙ mark_wrong _ _ _ _ c.loop-at-test.true c.if-s-at.true))

pub loop-at-preserved : goal.loop-at-preserved
loop-at-preserved c number = c.loop-at.invariant number ∙ mark_more _ _ _ _ c.loop-at-test.true c.if-s-at.false

pub returns : goal.returns
returns c number =
    let e : length c.args.mark.now ≡ c.loop-at.at = omega arith in
    rw e (ap step_of (sym (c.loop-at.invariant number ∙ mark_end _ _ _ _ c.loop-at-test.false)))
