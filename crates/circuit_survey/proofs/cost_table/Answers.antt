use mathlib.Core.Path.{refl}
use Rattle.base.specs.Codes.{code_of, operation_of}
use Rattle.circuit_needed.specs.Held.{code_cost, cost_table}
use Rattle.circuit_survey.proofs.cost_table.Goals as goal

-- every other code costs nothing
pub returns : goal.returns
unfolding cost_table code_cost code_of operation_of
returns c = rw (
  c.cost_of.ensures,
  c.cost_of-2.ensures,
  c.cost_of-3.ensures,
  c.cost_of-4.ensures,
  c.cost_of-5.ensures,
  c.cost_of-6.ensures,
) refl
