use mathlib.Core.List.{[], ◌∷◌}
use Prim.Native.Nat.{suc}
use Rattle.base.specs.Bits.{collect}
use Rattle.base.specs.BitWords.{joined}
use Rattle.base.specs.BitJoinedLaws.{every_word}
use Rattle.base.specs.SetsHeld.{set_of}
use Rattle.base_settings.proofs.Fits.{fits}
use Rattle.base_settings.proofs.is_whole.Goals as goal

pub returns : goal.returns
unfolding set_of joined collect
returns c = let s = c.args.s in
    let f = fits s c.well_formed.0.1.1 in
    every_word s.w0 (s.w1 ∷ s.w2 ∷ s.w3 ∷ []) (f 0) (λ i. f (suc i))
