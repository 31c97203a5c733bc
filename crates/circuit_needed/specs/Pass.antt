-- Document 01, "Needed gates (000 Def. 4)": a gate's precondition is the set of settings under which it is needed. One backward pass finds
-- the preconditions of all gates: it goes from the last gate to the first over one list of sets, changed in place, and hands each gate's set on to what the gate asks for.
-- It is liveness by backward data-flow analysis; gates read only earlier ones, so that one pass is enough.
use Rattle.std.specs.Prelude.{ℕ, zero, suc, ◌^◌, refl, List, [], ◌∷◌, Bool, true, false, not, ◌&&◌, ◌||◌, length, get_or, set, replicate}
use Rattle.circuit.specs.Gates.{Gate, start, word, bit, operation, choice, Gates, gate_at, conditions}
use Rattle.circuit.specs.Limits.{most_conditions}
use Rattle.circuit.specs.PlainCircuit.{gates_of}
use Rattle.base.specs.Settings.{Setting}
use Rattle.base.specs.Interface.{SetsOf}
use Rattle.base.specs.SettingNumbers.{numbers}
use Rattle.circuit_needed.specs.Needed.{wanted_of}

-- the pass, for any way to hold sets of settings
module _ {J : Type 0} {setting : J → Setting} {S : Type 0} {has : S → J → Bool} (𝓢 : SetsOf J setting S has) where
  open 𝓢 use {empty, whole, join, given, without}

  -- put the set s to that of gate a
  abbrev pub add : ℕ → S → List S → List S
  add a s M = set M a (join (get_or M a empty) s)

  abbrev pub add_all : List ℕ → S → List S → List S
  add_all [] s M = M
  add_all (a ∷ l) s M = add_all l s (add a s M)

  -- a gate whose set is s hands it to its arguments; a choice hands its values only the settings that pick them
  abbrev pub hand : Gate → S → List S → List S
  hand (start x) s M = M
  hand (word n) s M = M
  hand (bit b) s M = M
  hand (operation op l) s M = add_all l s M
  hand (choice c a b) s M = add b (without c s) (add a (given c s) (add c s M))

  -- the pass over the gates below k, downwards
  abbrev pub pass_sets : Gates → ℕ → List S → List S
  pass_sets C zero M = M
  pass_sets C (suc i) M = pass_sets C i (hand (gate_at C i) (get_or M i empty) M)

  -- the list that the pass begins with: what is wanted from the start has every setting
  abbrev pub wanted_sets : Gates → List ℕ → List S
  wanted_sets C wanted = add_all wanted whole (replicate (length C) empty)

  -- the whole pass: the set of each gate is its precondition
  unfoldable pub preconditions : Gates → List ℕ → List S
  preconditions C wanted = pass_sets C (length C) (wanted_sets C wanted)

-- the sets of one setting: it is in or out
abbrev pub alone : (σ : Setting) → SetsOf (Unit {0}) (λ j. σ) Bool (λ s j. s)
alone σ = record {
  empty = false;
  whole = true;
  join = λ s t. s || t;
  given = λ c s. s && σ c;
  without = λ c s. s && not (σ c);
  has_empty = λ j. refl;
  has_whole = λ j. refl;
  has_join = λ s t j. refl;
  has_given = λ c s j. refl;
  has_without = λ c s j. refl;
}

-- is gate g needed under σ? For a gate the precondition as a test of settings
unfoldable pub needed : Gates → List ℕ → ℕ → Setting → Bool
needed C wanted g σ = get_or (preconditions (alone σ) C wanted) g false

-- the preconditions held as numbers of 2 ^ n bits, for n conditions or fewer: bit j is setting j
unfoldable pub precondition_sets : ℕ → Gates → List ℕ → List ℕ
precondition_sets n C wanted = preconditions (numbers (2 ^ n) (conditions C)) C wanted

-- the precondition of gate g so held
abbrev pub precondition_of : ℕ → Gates → List ℕ → ℕ → ℕ
precondition_of n C wanted g = get_or (precondition_sets n C wanted) g 0

-- the preconditions of a rule's gates, held as numbers of 256 bits (document 02, C-17)
abbrev pub rule_preconditions : List ℕ → List ℕ
rule_preconditions s = precondition_sets most_conditions (gates_of s) (wanted_of s)
