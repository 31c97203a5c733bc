-- Document 01, "The plain circuit (000 Def. 1 and App. C)": gates, and the figures that they are worked out to, gate by gate.
use Rattle.std.specs.Prelude.{ℕ, ◌+◌, ◌<◌, ◌≡◌, List, [], ◌∷◌, map, cond, length, get_or}
use Rattle.base.specs.Lists.{◌∈◌, elem, keep, upto}
use Rattle.base.specs.Runs.{run_at}
use Rattle.base.specs.Codes.{entry_of, choice_cost}
use Rattle.base.specs.Results.{is_one, result_on}
use Rattle.base.specs.declared.Operation.{Operation}

-- gates name their arguments by gate number: nodes of a data-flow graph; a choice is a multiplexer
pub data Gate : Type 0 where
  start : ℕ → Gate  -- a variable's starting value
  word : ℕ → Gate  -- a written constant, 11
  bit : ℕ → Gate  -- a written constant, 12
  operation : Operation → List ℕ → Gate  -- 20 to 27 and the arguments, in the order in which it takes them
  choice : ℕ → ℕ → ℕ → Gate  -- condition, first value, second value

-- the gates in order of making: gate i is element i
abbrev pub Gates : Type 0
Gates = List Gate

-- gate i; past the end a constant, which asks for nothing
abbrev pub gate_at : Gates → ℕ → Gate
gate_at C i = get_or C i (word 0)

-- the gates that a gate reads
abbrev pub arguments : Gate → List ℕ
arguments (start x) = []
arguments (word n) = []
arguments (bit b) = []
arguments (operation op l) = l
arguments (choice c a b) = c ∷ a ∷ b ∷ []

-- every gate's arguments are made before it
abbrev pub Earlier : Gates → Type 0
Earlier C = (i a : ℕ) → a ∈ arguments (gate_at C i) → a < i

-- the figure of a gate, from the variables' inputs and the figures v of other gates
abbrev pub figure : List ℕ → (ℕ → ℕ) → Gate → ℕ
figure inputs v (start x) = get_or inputs x 0
figure inputs v (word n) = n
figure inputs v (bit b) = b
figure inputs v (operation op l) = result_on op (map v l)
figure inputs v (choice c a b) = cond (is_one (v c)) (v a) (v b)

-- the figure of gate i on the inputs
unfoldable pub figure_at : List ℕ → Gates → ℕ → ℕ
figure_at inputs C i = run_at 0 (figure inputs) C i

-- "Cost of a circuit", of a plain one: operations by the table, choice 3, others 0
abbrev pub cost_of : Gate → ℕ
cost_of (start x) = 0
cost_of (word n) = 0
cost_of (bit b) = 0
cost_of (operation op l) = (entry_of op).cost
cost_of (choice c a b) = choice_cost

unfoldable pub costs : Gates → ℕ
costs [] = 0
costs (k ∷ C) = cost_of k + costs C

-- c is a condition: it stands first in a choice gate
abbrev pub Condition : Gates → ℕ → Type 0
Condition C c = (i : ℕ) × (a : ℕ) × (b : ℕ) × (gate_at C i ≡ choice c a b)

-- the gates standing first in a choice gate, in gate order, perhaps more than once
abbrev pub heads : Gates → List ℕ
heads [] = []
heads (start x ∷ C) = heads C
heads (word n ∷ C) = heads C
heads (bit b ∷ C) = heads C
heads (operation op l ∷ C) = heads C
heads (choice c a b ∷ C) = c ∷ heads C

-- "Conditions are the distinct gates standing first in a choice gate, numbered from 0 in rising gate number": condition t is element t
unfoldable pub conditions : Gates → List ℕ
conditions C = keep (λ c. elem c (heads C)) (upto (length C))
