-- The backward pass over sets of most_settings settings held as numbers, in the form that the code goes: every step a union, a given or a without.
use Rattle.std.specs.Prelude.{ℕ, ◌≤◌, ◌≡◌, List, [], ◌∷◌, length, get_or, set}
use Rattle.circuit.specs.Gates.{Gates, gate_at, Earlier, conditions}
use Rattle.circuit.specs.Limits.{most_gates, most_conditions, most_settings}
use Rattle.base.specs.Sets.{union}
use Rattle.base.specs.SettingNumbers.{numbers}
use Rattle.circuit_needed.specs.Held.{gates_in}
use Rattle.circuit_needed.specs.Ranks.{ranks_of}
use Rattle.circuit_needed.specs.Pass.{hand, pass_sets}
use Rattle.circuit_needed.specs.Reaching.{Reaching, hand_from}

-- put the set s to that of gate a
abbrev pub add_number : ℕ → ℕ → List ℕ → List ℕ
add_number a s M = set M a (union (get_or M a 0) s)

-- put the set s to those of the listed gates
unfoldable pub add_numbers : List ℕ → ℕ → List ℕ → List ℕ
add_numbers [] s M = M
add_numbers (a ∷ l) s M = add_numbers l s (add_number a s M)

-- gate i hands its set on
unfoldable pub hand_gate : Gates → ℕ → List ℕ → List ℕ
hand_gate C i M = hand (numbers most_settings (conditions C)) (gate_at C i) (get_or M i 0) M

-- the pass over the gates below k, downwards
unfoldable pub pass_gates : Gates → ℕ → List ℕ → List ℕ
pass_gates C k M = pass_sets (numbers most_settings (conditions C)) C k M

-- the list at the gate that the pass reaches
abbrev pub ReachingGates : Gates → ℕ → List ℕ → ℕ → List ℕ → Type 0
ReachingGates C n M₀ k M = Reaching (numbers most_settings (conditions C)) C n M₀ k M

-- the gates below k, downwards, each handing on the set that the list F has for it
unfoldable pub hand_gates_from : Gates → List ℕ → ℕ → List ℕ → List ℕ
hand_gates_from C F k M = hand_from (numbers most_settings (conditions C)) C F k M

-- what the pass is given: gates in quads, at most 256, arguments before their gates, no more conditions than there may be, and their numbers
pub record Passable (quads ranks : List ℕ) (count : ℕ) : Type 0 where
  pub room : count ≤ most_gates
  pub earlier : Earlier (gates_in quads count)
  pub few : length (conditions (gates_in quads count)) ≤ most_conditions
  pub placed : ranks ≡ ranks_of (gates_in quads count) most_gates
