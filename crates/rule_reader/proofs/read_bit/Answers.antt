use Rattle.base.specs.ParsingLaws.{none_left, some_left}
use Rattle.base.proofs.KindLaws.{kind_ne, kind_not_ne}
use borrow.Author.Tests.{lt-ltb, le-ltb, lt-leb, le-leb}
use Rattle.rule.specs.Expressions.{read_bit}
use Rattle.rule_reader.proofs.read_bit.Goals as goal

pub returns-then-ne : goal.returns-then-ne
unfolding read_bit
returns-then-ne c = rw (kind_ne _ _ c.ne.ensures c.if-ne.true)

pub returns-then-deep-eq0 : goal.returns-then-deep-eq0
unfolding read_bit
returns-then-deep-eq0 c = rw (kind_not_ne _ _ c.ne.ensures c.if-ne.false, none_left _ c.if-deep-eq0.true)

pub returns-then-s-at : goal.returns-then-s-at
unfolding read_bit
returns-then-s-at c = rw (
  kind_not_ne _ _ c.ne.ensures c.if-ne.false,
  some_left _ c.if-deep-eq0.false,
  le-ltb _ _
      c.if-s-at.true,
)

pub returns-then-s-at-gt1 : goal.returns-then-s-at-gt1
unfolding read_bit
returns-then-s-at-gt1 c = rw (
  kind_not_ne _ _ c.ne.ensures c.if-ne.false,
  some_left _
      c.if-deep-eq0.false,
  lt-ltb _ _ c.if-s-at.false,
  lt-leb _ _ c.if-s-at-gt1.true,
)

pub returns : goal.returns
unfolding read_bit
returns c = rw (
  kind_not_ne _ _ c.ne.ensures c.if-ne.false,
  some_left _
      c.if-deep-eq0.false,
  lt-ltb _ _ c.if-s-at.false,
  le-leb _ _ c.if-s-at-gt1.false,
)
