use mathlib.Core.Path.{refl}
use Rattle.base.specs.SetsHeldLaws.{sets_clear}
use Rattle.circuit.proofs.Circuit.clear.Goals as goal

pub returns-clause-clear : goal.returns-clause-clear
returns-clause-clear c = (refl, (sets_clear 256, (refl, refl)))
