use Rattle.std.proofs.Common.{ap, ◌∙◌}
use Rattle.plan_waits.specs.ReadLaws.{arity_choice, arity_other}
use Rattle.base.specs.declared.Code.{Code}
use Rattle.plan_waits.proofs.arity_of.Goals as goal

pub returns-then-code-eq-CHOICE : goal.returns-then-code-eq-CHOICE
returns-then-code-eq-CHOICE c = arity_choice _ c.if-code-eq-CHOICE.true

pub returns-else-code-eq-CHOICE : goal.returns-else-code-eq-CHOICE
returns-else-code-eq-CHOICE c = arity_other _ _ c.if-code-eq-CHOICE.false (c.from.ensures ∙ ap (λ (r : Code). r.arity) c.code_entry.ensures)
