use mathlib.Core.Path.{ap, ◌∙◌}
use Rattle.base.specs.Answers.{answer_of}
use Rattle.rule_reader.proofs.read_rule.Goals as goal

pub returns-in-Ok : goal.returns-in-Ok
returns-in-Ok c = let d = c.default.ensures in rw (c.from.ensures, d.0, d.1.0, d.1.1.0, d.1.1.1.0, d.1.1.1.1) (ap answer_of c.in-Ok.ensures)

pub returns-in-Err : goal.returns-in-Err
returns-in-Err c = c.from-in-Err.ensures ∙ ap answer_of c.in-Err.ensures
