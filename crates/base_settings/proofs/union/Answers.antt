use mathlib.Core.Path.{refl, sym}
use Rattle.base.specs.BitJoinedLaws.{joined_or}
use Rattle.base.specs.SetsHeld.{words_of, set_of}
use Rattle.base_settings.proofs.Fits.{fits}
use Rattle.base_settings.proofs.union.Goals as goal

pub returns : goal.returns
unfolding set_of
returns c = sym (joined_or (words_of c.args.a) (words_of c.args.b) (fits c.args.a c.well_formed.0.1.1) (fits c.args.b c.well_formed.1.0.1.1) refl)
