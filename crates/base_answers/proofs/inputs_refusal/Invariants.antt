use Rattle.std.proofs.Common.{◌≡◌, ◌-◌}
use Rattle.base.specs.Lists.{from, upto}
use Rattle.base.specs.Inputs.{some_above}
use Rattle.base_answers.proofs.inputs_refusal.Given as goal

abbrev pub invariant-loop-x : goal.invariant-loop-x
invariant-loop-x g l = some_above g.kinds l.inputs (upto l.count) ≡ some_above g.kinds l.inputs (from l.x (l.count - l.x))
