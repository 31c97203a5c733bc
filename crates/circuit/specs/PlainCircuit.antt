-- Document 01, "The plain circuit (000 Def. 1 and App. C)": making the gates of a rule.
use Rattle.std.specs.Prelude.{ℕ, List, [], ◌∷◌, ◌++◌, map, Bool, false, ◌&&◌, ◌||◌, cond, length, get_or, set, eqb, ltb}
use Rattle.base.specs.Lists.{keep, upto}
use Rattle.base.specs.Codes.{commutes}
use Rattle.base.specs.declared.Operation.{Operation}
use Rattle.base.specs.Parsing.{Parsed, parsed, refused}
use Rattle.rule.specs.Header.{variables}
use Rattle.rule.specs.Tree.{Expr, variable, word, bit, one, two, Statement, assign, skip, branch, Block, end, then}
use Rattle.rule.specs.Rule.{read_rule}
use Rattle.circuit.specs.Gates.{Gate, start, operation, choice, Gates, costs}
use Rattle.circuit.specs.Gates as gate

-- the gates made so far, and each variable's present gate: the one that stands for it now
pub record Making : Type 0 where
  pub gates : Gates
  pub present : List ℕ

-- the gates made so far, and the gate that an expression stands for
pub record Made : Type 0 where
  pub gates : Gates
  pub place : ℕ

-- one gate more, standing for itself
abbrev pub add : Gates → Gate → Made
add C k = record { gates = C ++ (k ∷ []); place = length C }

-- Document 02, C-12: of an operation whose arguments, as written, are the gates a and b, does its gate take the second first?
-- Where it commutes the lower-numbered comes first. The one place that says it
abbrev pub turned : Operation → ℕ → ℕ → Bool
turned op a b = commutes op && ltb b a

-- the arguments in the order in which the gate takes them
abbrev pub in_order : Operation → ℕ → ℕ → List ℕ
in_order op a b = cond (turned op a b) (b ∷ a ∷ []) (a ∷ b ∷ [])

-- the gate of that operation
unfoldable pub apply_gate : Operation → ℕ → ℕ → Gate
apply_gate op a b = operation op (in_order op a b)

-- Arguments are made left to right, then their operation. Each written constant is a gate;
-- a variable makes none and stands for its present gate.
unfoldable pub make_expr : Expr → List ℕ → Gates → Made
make_expr (variable x) present C = record { gates = C; place = get_or present x 0 }
make_expr (word n) present C = add C (gate.word n)
make_expr (bit b) present C = add C (gate.bit b)
make_expr (one op e) present C =
    let m = make_expr e present C in
    add m.gates (operation op (m.place ∷ []))
make_expr (two op d e) present C =
    let m = make_expr d present C in
    let n = make_expr e present m.gates in
    add n.gates (apply_gate op m.place n.place)

-- variable x is assigned somewhere in the block, inner ifs counted, and x := x too
unfoldable mutual
  pub assigns_in : Statement → ℕ → Bool
  assigns_in (assign y e) x = eqb x y
  assigns_in skip x = false
  assigns_in (branch c b d) x = assigns b x || assigns d x

  pub assigns : Block → ℕ → Bool
  assigns end x = false
  assigns (then t b) x = assigns_in t x || assigns b x

-- a choice gate (condition, first value, second value) for variable x, which it stands for from now on
abbrev pub choose : ℕ → List ℕ → List ℕ → ℕ → Making → Making
choose c first second x m =
    record {
      gates = m.gates ++ (choice c (get_or first x 0) (get_or second x 0) ∷ []);
      present = set m.present x (length m.gates);
    }

-- one for each variable of the list, in its order
unfoldable pub choices : ℕ → List ℕ → List ℕ → List ℕ → Making → Making
choices c first second [] m = m
choices c first second (x ∷ l) m = choices c first second l (choose c first second x m)

-- "each variable assigned in either block, in rising number", of v variables
abbrev pub assigned_in : Block → Block → ℕ → List ℕ
assigned_in b d v = keep (λ x. assigns b x || assigns d x) (upto v)

-- the variables as before, after these gates
abbrev pub as_before : Making → Gates → Making
as_before m C = record { gates = C; present = m.present }

unfoldable mutual
  -- For an if: the condition, the first block, the second block (starting from the variables as before the first), then the choices.
  pub make_statement : Statement → Making → Making
  make_statement (assign x e) m =
      let n = make_expr e m.present m.gates in
      record { gates = n.gates; present = set m.present x n.place }
  make_statement skip m = m
  make_statement (branch c b d) m =
      let n = make_expr c m.present m.gates in
      let first = make_block b (as_before m n.gates) in
      let second = make_block d (as_before m first.gates) in
      choices n.place first.present second.present (assigned_in b d (length m.present)) (as_before m second.gates)

  pub make_block : Block → Making → Making
  make_block end m = m
  make_block (then t b) m = make_block b (make_statement t m)

-- the parts of an if, by name: its condition, its first block, its second
abbrev pub condition_made : Expr → Making → Made
condition_made c m = make_expr c m.present m.gates

abbrev pub first_made : Expr → Block → Making → Making
first_made c b m = make_block b (as_before m (condition_made c m).gates)

abbrev pub second_made : Expr → Block → Block → Making → Making
second_made c b d m = make_block d (as_before m (first_made c b m).gates)

-- Gates 0 to V−1 are the variables' starting values.
abbrev pub starts : ℕ → Making
starts v = record { gates = map start (upto v); present = upto v }

-- the plain circuit of a block over v variables; at the end the present gates are the outputs: every variable's last gate
abbrev pub plain_of : ℕ → Block → Making
plain_of v b = make_block b (starts v)

-- the plain circuit of a rule, once read; a refused rule has none
abbrev pub plain_read : ℕ → Parsed Block → Making
plain_read v (parsed b n) = plain_of v b
plain_read v (refused number place) = record { gates = []; present = [] }

-- the plain circuit of a rule's bytes
unfoldable pub plain_circuit : List ℕ → Making
plain_circuit s = plain_read (variables s) (read_rule s)

-- the gates and the outputs of a rule, how many gates it has, and the cost before fusing
abbrev pub gates_of : List ℕ → Gates
gates_of s = (plain_circuit s).gates

abbrev pub outputs_of : List ℕ → List ℕ
outputs_of s = (plain_circuit s).present

abbrev pub gate_count : List ℕ → ℕ
gate_count s = length (gates_of s)

abbrev pub cost_before : List ℕ → ℕ
cost_before s = costs (gates_of s)
