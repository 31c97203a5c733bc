use mathlib.Core.Path.{sym}
use Rattle.base.specs.CodeLaws.{kind_bit, kind_word}
use Rattle.base_codes.proofs.start_kind.Goals as goal

pub returns-then-b-eq1 : goal.returns-then-b-eq1
returns-then-b-eq1 c = sym (kind_bit _ c.if-b-eq1.true)

pub returns-else-b-eq1 : goal.returns-else-b-eq1
returns-else-b-eq1 c = sym (kind_word _ c.if-b-eq1.false)
