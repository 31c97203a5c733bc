-- The list at each gate that the backward pass reaches: where the pass ends, and that a gate's set is final when the pass reaches it.
use Rattle.std.specs.Prelude.{ℕ, zero, suc, ◌≤◌, ◌≡◌, refl, List, Bool, get_or}
use Rattle.std.proofs.Common.{sym, ap, ◌∙◌}
use Rattle.circuit.specs.Gates.{Gates, Earlier}
use Rattle.base.specs.Settings.{Setting}
use Rattle.base.specs.Interface.{SetsOf}
use Rattle.circuit_needed.specs.Pass.{pass_sets}
use Rattle.circuit_needed.specs.PassLaws.{pass_final}
use Rattle.circuit_needed.specs.Reaching.{Reaching, begun, handed}

module _ {J : Type 0} {setting : J → Setting} {S : Type 0} {has : S → J → Bool} (𝓢 : SetsOf J setting S has) (C : Gates) (n : ℕ) (M₀ : List S) where
  open 𝓢 use {empty}

  -- from wherever the pass is, it goes on to its end,
  pub reaches_end : (k : ℕ) {M : List S} → Reaching 𝓢 C n M₀ k M → Reaching 𝓢 C n M₀ 0 (pass_sets 𝓢 C k M)
  reaches_end zero r = r
  reaches_end (suc i) r = reaches_end i (handed r)

  -- which is that of the whole pass
  pub reached_end : {k : ℕ} {M : List S} → Reaching 𝓢 C n M₀ k M → pass_sets 𝓢 C k M ≡ pass_sets 𝓢 C n M₀
  reached_end begun = refl
  reached_end (handed r) = reached_end r

  -- the set of the gate that is reached, and that of every gate after it, is the one that the pass ends with
  pub reached_final : Earlier C → {k : ℕ} {M : List S} → Reaching 𝓢 C n M₀ k M → (g : ℕ) → k ≤ suc g → get_or M g empty ≡ get_or (pass_sets 𝓢 C n M₀) g empty
  reached_final e {k = k} {M = M} r g l = sym (pass_final 𝓢 C e k M g l) ∙ ap (λ (L : List S). get_or L g empty) (reached_end r)
