-- Equations by constructor of the tree, each by its definition: what proofs of code that goes statement by statement cite.
use Rattle.std.specs.Prelude.{ℕ, ◌≡◌, refl, List, true, false, length, get_or, set}
use Rattle.base.specs.Results.{result_of, is_one}
use Rattle.base.specs.declared.Operation.{Operation}
use Rattle.rule.specs.Tree.{Expr, variable, word, bit, one, two, Statement, assign, skip, branch, Block, end, then}
use Rattle.circuit.specs.Running.{figure_of, run_statement, run_block}
use Rattle.circuit.specs.PlainCircuit.{Making, make_expr, choices, assigned_in, as_before, make_statement, condition_made, first_made, second_made}

-- The direct run.

pub figure_variable : (f : List ℕ) (x : ℕ) → figure_of f (variable x) ≡ get_or f x 0
unfolding figure_of
figure_variable f x = refl

pub figure_word : (f : List ℕ) (n : ℕ) → figure_of f (word n) ≡ n
unfolding figure_of
figure_word f n = refl

pub figure_bit : (f : List ℕ) (b : ℕ) → figure_of f (bit b) ≡ b
unfolding figure_of
figure_bit f b = refl

pub figure_one : (f : List ℕ) (op : Operation) (e : Expr) → figure_of f (one op e) ≡ result_of op (figure_of f e) 0
unfolding figure_of
figure_one f op e = refl

pub figure_two : (f : List ℕ) (op : Operation) (d e : Expr) → figure_of f (two op d e) ≡ result_of op (figure_of f d) (figure_of f e)
unfolding figure_of
figure_two f op d e = refl

pub run_assign : (x : ℕ) (e : Expr) (f : List ℕ) → run_statement (assign x e) f ≡ set f x (figure_of f e)
unfolding run_statement
run_assign x e f = refl

pub run_skip : (f : List ℕ) → run_statement skip f ≡ f
unfolding run_statement
run_skip f = refl

pub run_first : (c : Expr) (b d : Block) (f : List ℕ) → is_one (figure_of f c) ≡ true → run_statement (branch c b d) f ≡ run_block b f
unfolding run_statement
run_first c b d f h = rw h

pub run_second : (c : Expr) (b d : Block) (f : List ℕ) → is_one (figure_of f c) ≡ false → run_statement (branch c b d) f ≡ run_block d f
unfolding run_statement
run_second c b d f h = rw h

pub run_end : (f : List ℕ) → run_block end f ≡ f
unfolding run_block
run_end f = refl

pub run_then : (t : Statement) (b : Block) (f : List ℕ) → run_block (then t b) f ≡ run_block b (run_statement t f)
unfolding run_block
run_then t b f = refl

-- Making gates.

pub make_assign : (x : ℕ) (e : Expr) (m : Making) → make_statement (assign x e) m
    ≡ record { gates = (make_expr e m.present m.gates).gates; present = set m.present x (make_expr e m.present m.gates).place }
unfolding make_statement
make_assign x e m = refl

pub make_branch : (c : Expr) (b d : Block) (m : Making) → make_statement (branch c b d) m
    ≡ choices (condition_made c m).place (first_made c b m).present (second_made c b d m).present (assigned_in b d (length m.present))
    (as_before m (second_made c b d m).gates)
unfolding make_statement
make_branch c b d m = refl
