use mathlib.Core.Path.{◌≡◌, refl, sym, ap, ◌∙◌}
use Prim.Native.Nat.{ℕ, ◌≤◌, ◌<◌}
use native.Mathlib.Omega.{arith}
use Rattle.base.specs.Bits.{collect}
use Rattle.base.specs.BitWords.{joined}
use Rattle.base.specs.SetLimits.{set_settings}
use Rattle.base.specs.Sets.{giving}
use Rattle.base.specs.SetsHeld.{set_of}
use Rattle.base_settings.proofs.giving.Goals as goal

-- of eight conditions none of the first seven
from-4 : (t : ℕ) → (t ≡ 0 → ⊥) → (t ≡ 1 → ⊥) → (t ≡ 2 → ⊥) → (t ≡ 3 → ⊥) → 4 ≤ t
from-4 t a b c d = omega arith

last : (t : ℕ) → 4 ≤ t → t < 8 → (t ≡ 4 → ⊥) → (t ≡ 5 → ⊥) → (t ≡ 6 → ⊥) → t ≡ 7
last t h l a b c = omega arith

-- the masks of condition k, worked out from their definition, are those of t where t is k
mask : (t k : ℕ) {m : ℕ} → t ≡ k → giving set_settings k ≡ m → m ≡ giving set_settings t
mask t k e g = sym g ∙ ap (giving set_settings) (sym e)

pub returns-in-0 : goal.returns-in-0
unfolding collect joined
returns-in-0 c = c.each.ensures ∙ mask c.args.t 0 (omega arith) refl

pub returns-in-1 : goal.returns-in-1
unfolding collect joined
returns-in-1 c = c.each-in-1.ensures ∙ mask c.args.t 1 (omega arith) refl

pub returns-in-2 : goal.returns-in-2
unfolding collect joined
returns-in-2 c = c.each-in-2.ensures ∙ mask c.args.t 2 (omega arith) refl

pub returns-in-3 : goal.returns-in-3
unfolding collect joined
returns-in-3 c = c.each-in-3.ensures ∙ mask c.args.t 3 (omega arith) refl

pub returns-in-4 : goal.returns-in-4
unfolding collect joined
returns-in-4 c = c.each-in-4.ensures ∙ mask c.args.t 4 (omega arith) refl

pub returns-in-5 : goal.returns-in-5
unfolding collect joined
returns-in-5 c = c.each-in-5.ensures ∙ mask c.args.t 5 (omega arith) refl

pub returns-in-6 : goal.returns-in-6
unfolding collect joined set_of
returns-in-6 c = mask c.args.t 6 (omega arith) refl

pub returns-in_default : goal.returns-in_default
unfolding collect joined set_of
returns-in_default c = let t = c.args.t in
    let r = c.in_default.in_default-own.rest in
    let low = from-4 t r.0.0.0.0.0.0.1 r.0.0.0.0.0.1 r.0.0.0.0.1 r.0.0.0.1 in
    mask t 7 (last t low c.requires r.0.0.1 r.0.1 r.1) refl
