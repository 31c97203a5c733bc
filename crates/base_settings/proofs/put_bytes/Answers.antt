use mathlib.Core.Path.{sym, ap, ◌∙◌}
use mathlib.Core.List.{List, [], ◌∷◌}
use Prim.Native.Nat.{ℕ}
use native.Mathlib.Omega.{arith}
use Rattle.base.specs.Buffers.{over}
use Rattle.base.specs.SetsHeld.{words_of, set_of}
use Rattle.base_settings.proofs.Fits.{fits}
use Rattle.base_settings.proofs.Bytes.{word_more, written_all}
use Rattle.base_settings.proofs.put_bytes.Goals as goal

pub returns : goal.returns
unfolding set_of
returns c = let s = c.args.s in
    let d = c.args.out.now in
    let room = c.requires in
    let two = word_more s.w2 (s.w3 ∷ []) d _ _ (omega (arith, room)) c.put64.ensures c.put64-2.ensures in
    let three = word_more s.w1 (s.w2 ∷ s.w3 ∷ []) d _ _ (omega (arith, room)) two c.put64-3.ensures in
    word_more s.w0 (s.w1 ∷ s.w2 ∷ s.w3 ∷ []) d _ _ (omega (arith, room)) three c.put64-4.ensures
    ∙ ap (λ (b : List ℕ). over b d) (sym (written_all (words_of s) (fits s c.well_formed.1.0.1.1)))
