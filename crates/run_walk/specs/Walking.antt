-- Inner: the contracts of a direct run over a rule's bytes (document 01, "The rule file": "A direct run is fed the rule's bytes and V inputs"):
-- each function is promised against the tree that reading gives of the part that it runs, and ends at the place after that part.
use Rattle.std.specs.Prelude.{ℕ, ◌≤◌, ◌≡◌, List}
use Rattle.base.specs.Parsing.{Parsed, parsed}
use Rattle.rule.specs.Limits.{most_variables}
use Rattle.rule.specs.Header.{variables, HasKinds}
use Rattle.rule.specs.Tree.{Expr, Block}
use Rattle.rule.specs.Blocks.{read_block}
use Rattle.circuit.specs.Running.{figure_of, run_block}
use Rattle.run_walk.specs.declared.Value.{Value}

-- what every part rests on: a kind byte for each variable, and no more of them than there are figures
abbrev pub VariablesFit : List ℕ → Type 0
VariablesFit s = HasKinds s × (variables s ≤ most_variables)

-- the expression m was read up to the place of v, and on the figures f its figure is that of v
pub record WorkedOut (f : List ℕ) (m : Parsed Expr) (v : Value) : Type 0 where
  pub what : Expr
  pub read : m ≡ parsed what v.next
  pub is : v.figure ≡ figure_of f what

-- m was read up to `next`, and running it takes the figures f to g
pub record Ran {A : Type 0} (run : A → List ℕ → List ℕ) (m : Parsed A) (f : List ℕ) (next : ℕ) (g : List ℕ) : Type 0 where
  pub what : A
  pub read : m ≡ parsed what next
  pub figures : g ≡ run what f

-- m was read up to `next`
pub record Passed {A : Type 0} (m : Parsed A) (next : ℕ) : Type 0 where
  pub what : A
  pub read : m ≡ parsed what next

-- loop invariant, amid a block: what is left of it at `here`, run on the figures g, is what the whole of it from `at` gives on f
pub record AmidBlock (s : List ℕ) (nest at : ℕ) (f : List ℕ) (here : ℕ) (g : List ℕ) : Type 0 where
  pub whole : Block
  pub rest : Block
  pub last : ℕ
  pub read : read_block s nest at ≡ parsed whole last
  pub left : read_block s nest here ≡ parsed rest last
  pub same : run_block whole f ≡ run_block rest g
