use mathlib.Core.Path.{ap, sym, ◌∙◌}
use Rattle.base.specs.declared.Code.{Code}
use Rattle.circuit_needed.specs.HeldLaws.{cost_choice, cost_other}
use Rattle.circuit_survey.proofs.cost_of.Goals as goal

pub returns-then-code-eq-CHOICE : goal.returns-then-code-eq-CHOICE
returns-then-code-eq-CHOICE c = sym (cost_choice _ c.if-code-eq-CHOICE.true)

pub returns-else-code-eq-CHOICE : goal.returns-else-code-eq-CHOICE
returns-else-code-eq-CHOICE c = ap (λ (r : Code). r.cost) c.code_entry.ensures ∙ sym (cost_other _ c.if-code-eq-CHOICE.false)
