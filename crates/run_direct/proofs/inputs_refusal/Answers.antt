use Rattle.run.specs.Inputs.{input_row}
use Rattle.run_direct.proofs.inputs_refusal.Goals as goal

pub returns : goal.returns
unfolding input_row
returns c = c.inputs_refusal.ensures
