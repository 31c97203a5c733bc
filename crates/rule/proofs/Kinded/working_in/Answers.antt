use mathlib.Core.Path.{refl}
use Rattle.rule.specs.Header.{working_of}
use Rattle.rule.proofs.Kinded.working_in.Goals as goal

pub returns : goal.returns
unfolding working_of
returns c = refl
