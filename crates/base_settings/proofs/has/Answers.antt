use mathlib.Core.Path.{sym, ap, ◌∙◌}
use Prim.Native.Nat.{ℕ, ◌%◌}
use Rattle.base.specs.Bits.{bit}
use Rattle.base.specs.BitJoinedLaws.{joined_bit}
use Rattle.base.specs.SetsHeld.{words_of, set_of}
use Rattle.base_settings.proofs.Fits.{fits}
use Rattle.base_settings.proofs.has.Goals as goal

pub returns : goal.returns
unfolding set_of
returns c = let s = c.args.s in
    let j = c.args.j in
    c.bit_of.ensures ∙ ap (λ (x : ℕ). bit x (j % 64)) c.word.ensures ∙ sym (joined_bit (words_of s) (fits s c.well_formed.0.1.1) j)
