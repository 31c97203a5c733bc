use mathlib.Core.Path.{refl, sym, ap, ◌∙◌}
use Prim.Native.Nat.{ℕ}
use lib.Bits.{bit_and, and_lt}
use lib.Dec.{eqb}
use Rattle.base.specs.BitJoinedLaws.{fit_by, joined_and}
use Rattle.base.specs.SetsHeld.{words_of, set_of}
use Rattle.base_settings.proofs.Fits.{fits, none_in}
use Rattle.base_settings.proofs.excludes.Goals as goal

pub returns : goal.returns
unfolding set_of
returns c = let a = words_of c.args.a in
    let b = words_of c.args.b in
    let fa = fits c.args.a c.well_formed.0.1.1 in
    let fb = fits c.args.b c.well_formed.1.0.1.1 in
    none_in _ (fit_by bit_and and_lt a b fa fb) ∙ ap (λ (x : ℕ). eqb x 0) (sym (joined_and a b fa fb refl))
