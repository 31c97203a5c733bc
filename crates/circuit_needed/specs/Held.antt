-- Inner, for document 01, "The plain circuit (000 Def. 1 and App. C)": the gates that lie in a lent array, four numbers a gate, read back; and the costs of their codes.
use Rattle.std.specs.Prelude.{ℕ, zero, suc, ◌+◌, ◌*◌, ◌≤◌, ◌≡◌, List, [], ◌∷◌, ◌++◌, map, cond, length, get_or, take, eqb}
use Rattle.base.specs.Lists.{upto}
use Rattle.base.specs.Codes.{entry_of, code_of, choice_cost}
use Rattle.base.specs.declared.Code.{Code}
use Rattle.base.specs.declared.Form.{Form}
use Rattle.base.specs.declared.Form.TheVariants.{End, Assign, Skip, Branch, Variable, Word, Bit, Apply, Unknown}
use Rattle.circuit.specs.Gates.{Gate, start, word, bit, operation, choice, Gates, gate_at}

-- a choice's code
abbrev pub choice_code : ℕ
choice_code = 0x30

-- the codes of operations
abbrev pub Applies : ℕ → Type 0
Applies code = (0x20 ≤ code) × (code ≤ 0x27)

-- 11, 12 and 20 to 27 mean what they mean in a rule, any other code a starting value; a: the first number, l: the arguments
abbrev pub of_form : Form → ℕ → List ℕ → Gate
of_form End a l = start a
of_form Assign a l = start a
of_form Skip a l = start a
of_form Branch a l = start a
of_form Variable a l = start a
of_form Word a l = word a
of_form Bit a l = bit a
of_form (Apply op) a l = operation op l
of_form Unknown a l = start a

-- the arguments of an operation: as many of the numbers as the table says
abbrev pub arguments_of : Code → ℕ → ℕ → List ℕ
arguments_of code a b = take code.arity (a ∷ b ∷ [])

-- the gate of four numbers
unfoldable pub gate_of : ℕ → ℕ → ℕ → ℕ → Gate
gate_of code a b c = cond (eqb code choice_code) (choice a b c) (of_form (code_of code).form a (arguments_of (code_of code) a b))

-- the four numbers of gate i
abbrev pub code_at : List ℕ → ℕ → ℕ
code_at quads i = get_or quads (4 * i) 0

abbrev pub first_at : List ℕ → ℕ → ℕ
first_at quads i = get_or quads (4 * i + 1) 0

abbrev pub second_at : List ℕ → ℕ → ℕ
second_at quads i = get_or quads (4 * i + 2) 0

abbrev pub third_at : List ℕ → ℕ → ℕ
third_at quads i = get_or quads (4 * i + 3) 0

-- gate i of the quads
unfoldable pub gate_in : List ℕ → ℕ → Gate
gate_in quads i = gate_of (code_at quads i) (first_at quads i) (second_at quads i) (third_at quads i)

-- the first n gates of the quads
unfoldable pub gates_in : List ℕ → ℕ → Gates
gates_in quads zero = []
gates_in quads (suc n) = gates_in quads n ++ (gate_in quads n ∷ [])

-- "Cost of a circuit", by a gate's code: operations by the table, choice 3, others 0
unfoldable pub code_cost : ℕ → ℕ
code_cost code = cond (eqb code choice_code) choice_cost (code_of code).cost

-- the costs of all codes below 40, in hexadecimal
unfoldable pub cost_table : List ℕ
cost_table = map code_cost (upto 64)

-- an operation has as many arguments as the table says
abbrev pub ShapedGate : Gate → Type 0
ShapedGate (start x) = Unit {0}
ShapedGate (word n) = Unit {0}
ShapedGate (bit b) = Unit {0}
ShapedGate (operation op l) = length l ≡ (entry_of op).arity
ShapedGate (choice c a b) = Unit {0}

abbrev pub Shaped : Gates → Type 0
Shaped C = (i : ℕ) → ShapedGate (gate_at C i)
