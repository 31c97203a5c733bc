use mathlib.Core.Path.{sym}
use Rattle.rule.specs.HeaderLaws.{kind_bit, kind_word}
use Rattle.rule.proofs.Kinded.kind_in.Goals as goal

pub returns-then-bytes-x-eq1 : goal.returns-then-bytes-x-eq1
returns-then-bytes-x-eq1 c = sym (kind_bit _ c.if-bytes-x-eq1.true)

pub returns-else-bytes-x-eq1 : goal.returns-else-bytes-x-eq1
returns-else-bytes-x-eq1 c = sym (kind_word _ c.if-bytes-x-eq1.false)
