-- Document 02, C-14, "a single backward pass over one list of sets that is changed in place": the list at each gate that the pass reaches, and the
-- sets that gates hand on. That each gate's set is final when the pass reaches it: ReachingLaws.
use Rattle.std.specs.Prelude.{ℕ, zero, suc, ◌^◌, List, Bool, length, get_or}
use Rattle.circuit.specs.Gates.{Gates, gate_at, conditions}
use Rattle.circuit.specs.Limits.{most_conditions}
use Rattle.circuit.specs.PlainCircuit.{gates_of}
use Rattle.base.specs.Settings.{Setting}
use Rattle.base.specs.Interface.{SetsOf}
use Rattle.base.specs.SettingNumbers.{numbers}
use Rattle.circuit_needed.specs.Needed.{wanted_of}
use Rattle.circuit_needed.specs.Pass.{hand, wanted_sets}

module _ {J : Type 0} {setting : J → Setting} {S : Type 0} {has : S → J → Bool} (𝓢 : SetsOf J setting S has) where
  open 𝓢 use {empty}

  -- the pass over the gates below n begins with the list M₀; its list is M when the gates below k are left, and then it reaches gate k - 1, which hands on the set that it has
  pub data Reaching (C : Gates) (n : ℕ) (M₀ : List S) : ℕ → List S → Type 0 where
    begun : Reaching C n M₀ n M₀
    handed : {i : ℕ} {M : List S} → Reaching C n M₀ (suc i) M → Reaching C n M₀ i (hand 𝓢 (gate_at C i) (get_or M i empty) M)

  -- the gates below k, downwards, each handing on the set that the list F has for it
  abbrev pub hand_from : Gates → List S → ℕ → List S → List S
  hand_from C F zero M = M
  hand_from C F (suc i) M = hand_from C F i (hand 𝓢 (gate_at C i) (get_or F i empty) M)

-- the pass over a rule's gates, sets held as numbers
abbrev pub RuleReaching : List ℕ → ℕ → List ℕ → Type 0
RuleReaching s k M =
    let S = numbers (2 ^ most_conditions) (conditions (gates_of s)) in
    Reaching S (gates_of s) (length (gates_of s)) (wanted_sets S (gates_of s) (wanted_of s)) k M
