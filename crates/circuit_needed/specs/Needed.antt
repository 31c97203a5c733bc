-- Document 01, "Needed gates (000 Def. 4)": which gates are needed under a setting. A setting gives each condition, named by its gate, 0 or 1 freely.
-- Needed is what compilers call live, here under each setting of the branch conditions apart.
use Rattle.std.specs.Prelude.{ℕ, List, [], ◌∷◌, map, cond, get_or}
use Rattle.base.specs.Lists.{◌∈◌}
use Rattle.rule.specs.Header.{result_variables}
use Rattle.circuit.specs.Gates.{Gate, start, word, bit, operation, choice, Gates, gate_at}
use Rattle.circuit.specs.PlainCircuit.{outputs_of}
use Rattle.base.specs.Settings.{Setting}

-- what a gate, once needed, needs in its turn: its arguments, but of a choice only the condition and the value that the setting picks
abbrev pub asks : Setting → Gate → List ℕ
asks σ (start x) = []
asks σ (word n) = []
asks σ (bit b) = []
asks σ (operation op l) = l
asks σ (choice c a b) = c ∷ cond (σ c) a b ∷ []

-- gate g is needed under σ: it is wanted from the start, or a needed gate asks for it
pub data Needed (C : Gates) (wanted : List ℕ) (σ : Setting) : ℕ → Type 0 where
  from_start : {g : ℕ} → g ∈ wanted → Needed C wanted σ g
  asked : {g h : ℕ} → Needed C wanted σ h → g ∈ asks σ (gate_at C h) → Needed C wanted σ g

-- of the outputs of a rule's variables, those of its result variables
abbrev pub wanted_among : List ℕ → List ℕ → List ℕ
wanted_among s outputs = map (λ x. get_or outputs x 0) (result_variables s)

-- what a rule wants from the start, the roots of liveness. Document 02, C-13: "Only the other variables' last gates are needed from the start", not the working ones'
unfoldable pub wanted_of : List ℕ → List ℕ
wanted_of s = wanted_among s (outputs_of s)

-- two gates exclude each other, are mutually exclusive, if no setting needs both
abbrev pub Exclude : Gates → List ℕ → ℕ → ℕ → Type 0
Exclude C wanted g h = (σ : Setting) → Needed C wanted σ g → Needed C wanted σ h → ⊥
