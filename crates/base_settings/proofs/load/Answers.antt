use mathlib.Core.Path.{sym}
use native.Mathlib.Nat.{add-zero}
use Rattle.base.specs.SetsHeld.{set_of}
use Rattle.base.specs.SetsHeldLaws.{sets_words}
use Rattle.base_settings.proofs.load.Goals as goal

pub returns : goal.returns
unfolding set_of
returns c = sym (rw add-zero at (sets_words c.args.words.now c.args.i c.requires))
