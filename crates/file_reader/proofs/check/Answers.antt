use mathlib.Core.Path.{sym, ◌∙◌}
use Rattle.file.specs.ReadLaws.{head_long, head_passed, rows}
use Rattle.file_reader.proofs.check.Goals as goal

pub returns-then-not-headed : goal.returns-then-not-headed
returns-then-not-headed c = search rows

pub laid-requires : goal.laid-requires
laid-requires c = search head_long

pub returns-then-not-laid : goal.returns-then-not-laid
returns-then-not-laid c = search rows

pub standing-requires : goal.standing-requires
standing-requires c = (search head_passed, sym c.laid.ensures ∙ c.if-not-laid.false)

pub returns-then-not-standing : goal.returns-then-not-standing
returns-then-not-standing c = search rows

pub returns : goal.returns
returns c = search rows
