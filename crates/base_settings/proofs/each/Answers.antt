use mathlib.Core.Path.{refl}
use Rattle.base.specs.SetsHeld.{set_of}
use Rattle.base_settings.proofs.each.Goals as goal

pub returns : goal.returns
unfolding set_of
returns c = refl
