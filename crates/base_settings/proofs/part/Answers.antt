use mathlib.Core.Path.{◌≡◌, refl, sym, ap, ◌∙◌}
use lib.Bits.{bit_and, bit_xor, and_lt}
use Rattle.base.specs.BitWords.{joined, wordwise}
use Rattle.base.specs.BitJoinedLaws.{fit_by, joined_and, joined_xor}
use Rattle.base.specs.SetLimits.{set_settings}
use Rattle.base.specs.Sets.{given}
use Rattle.base.specs.SetLaws.{given_rest}
use Rattle.base.specs.SetsHeld.{words_of, set_of}
use Rattle.base.specs.SetsHeldLaws.{set_below}
use Rattle.base_settings.proofs.Fits.{fits}
use Rattle.base_settings.proofs.part.Goals as goal

pub returns : goal.returns
unfolding set_of
returns c = let t = c.args.t in
    let s = c.args.s in
    let m = words_of c.giving-m.result in
    let fs = fits s c.well_formed.1.0.1.1 in
    let fm = fits c.giving-m.result c.giving-m.type_inv.1.1 in
    let g : joined (wordwise bit_and (words_of s) m) ≡ given set_settings t (set_of s) =
    sym (joined_and (words_of s) m fs fm refl) ∙ ap (bit_and (set_of s)) c.giving-m.ensures in record {
      given = g;
      without = sym (joined_xor (words_of s) (wordwise bit_and (words_of s) m) fs (fit_by bit_and and_lt (words_of s) m fs fm) refl)
          ∙ ap (bit_xor (set_of s)) g ∙ given_rest set_settings t (set_of s) (set_below s fs);
    }
