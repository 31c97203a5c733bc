use mathlib.Core.Path.{◌≡◌, sym, ap, ◌∙◌}
use mathlib.Core.List.{[], ◌∷◌}
use Prim.Native.Nat.{ℕ, ◌-◌, ◌%◌, ◌^◌, ◌<◌}
use native.Mathlib.Omega.{arith}
use lib.Pow.{pow-lt}
use borrow.Author.Rules.{rules}
use Rattle.base.specs.Bits.{bit}
use Rattle.base.specs.BitLaws.{collect_not, collect_first}
use Rattle.base.specs.BitJoinedLaws.{joined_low}
use Rattle.base.specs.Sets.{giving, lacking, movers}
use Rattle.base.specs.SetsHeld.{set_of}
use Rattle.base.specs.declared.Set.{Set}
use Rattle.base_settings.proofs.Fits.{fits}
use Rattle.base_settings.proofs.word_movers.Goals as goal

-- the lowest word of the settings that give t the bit 1 is those of 64 settings
mask : (m : Set) (t : ℕ) → m.w0 < 2 ^ 64 → set_of m ≡ giving 256 t → m.w0 ≡ giving 64 t
unfolding set_of
mask m t h e =
    sym (joined_low m.w0 (m.w1 ∷ m.w2 ∷ m.w3 ∷ []) h) ∙ ap (λ (x : ℕ). x % 2 ^ 64) e ∙ collect_first 64 256 (λ j. bit j t) (omega arith)

pub overflow_shr-result : goal.overflow_shr-result
overflow_shr-result c = rw c.power-far.ensures (pow-lt {i = c.args.t} {j = 6} (search rules))

pub returns : goal.returns
unfolding movers
returns c = let t = c.args.t in
    let m = c.giving-m.result in
    let e = mask m t (fits m c.giving-m.type_inv.1.1 0) c.giving-m.ensures in
    let low : 2 ^ 64 - 1 - m.w0 ≡ lacking 64 t = omega (arith, e, collect_not 64 (λ j. bit j t)) in
    rw (c.power-far.ensures, low)
