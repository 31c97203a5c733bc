use Rattle.base.specs.ParsingLaws.{none_left, some_left}
use borrow.Author.Tests.{lt-leb, le-leb}
use Rattle.base.proofs.KindLaws.{kind_ne, kind_not_ne}
use Rattle.rule.specs.Expressions.{read_word}
use Rattle.rule_reader.proofs.read_word.Goals as goal

pub returns-then-ne : goal.returns-then-ne
unfolding read_word
returns-then-ne c = rw (kind_ne _ _ c.ne.ensures c.if-ne.true)

pub returns-then-deep-eq0 : goal.returns-then-deep-eq0
unfolding read_word
returns-then-deep-eq0 c = rw (kind_not_ne _ _ c.ne.ensures c.if-ne.false, none_left _ c.if-deep-eq0.true)

pub returns-then-s-at-lt5 : goal.returns-then-s-at-lt5
unfolding read_word
returns-then-s-at-lt5 c = rw (
  kind_not_ne _ _ c.ne.ensures c.if-ne.false,
  some_left _ c.if-deep-eq0.false,
  lt-leb _ _ c.if-s-at-lt5.true,
)

pub returns : goal.returns
unfolding read_word
returns c = rw (
  kind_not_ne _ _ c.ne.ensures c.if-ne.false,
  some_left _ c.if-deep-eq0.false,
  le-leb _ _ c.if-s-at-lt5.false,
)
