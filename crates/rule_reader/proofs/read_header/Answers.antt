use Rattle.rule.specs.RuleLaws.{header_mark, header_none, header_many, header_kinds}
use Rattle.rule_reader.proofs.read_header.Goals as goal

pub returns-in-Err : goal.returns-in-Err
returns-in-Err c = rw c.at.ensures (header_mark c.args.s.now (c.in-Err.ensures 2))

pub returns-then-count-eq0 : goal.returns-then-count-eq0
returns-then-count-eq0 c = let a = c.args in
    header_none a.s.now (c.in_default.ensures 2) c.if-count-eq0.true

pub returns-then-count-gt-MOST_VARIABLES : goal.returns-then-count-gt-MOST_VARIABLES
returns-then-count-gt-MOST_VARIABLES c = let a = c.args in
    header_many a.s.now (c.in_default.ensures 2) c.if-count-gt-MOST_VARIABLES.true

pub returns : goal.returns
returns c = let a = c.args in
    header_kinds a.s.now (c.in_default.ensures 2)
    c.if-count-eq0.false c.if-count-gt-MOST_VARIABLES.false c.read_kinds.ensures
