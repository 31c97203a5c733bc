-- Making the plain circuit: gates are only appended.
use Rattle.std.specs.Prelude.{ℕ, ◌≤◌, ◌≡◌, refl, List, [], ◌∷◌, ◌++◌, length}
use Rattle.std.proofs.Common.{sym, ap, ◌∙◌, append_assoc, append-nil, arith, length-append}
use Rattle.rule.specs.Tree.{Expr, variable, word, bit, one, two, Statement, assign, skip, branch, Block, end, then}
use Rattle.circuit.specs.Gates.{Gate, Gates}
use Rattle.circuit.specs.PlainCircuit.{Making, make_expr, choose, choices, assigned_in, as_before, make_statement, make_block, condition_made, first_made, second_made}

-- C is B with gates appended
pub record Extends (B C : Gates) : Type 0 where
  pub more : Gates
  pub grown : C ≡ B ++ more

pub extends_same : (C : Gates) → Extends C C
extends_same C = record { more = []; grown = sym (append-nil C) }

pub extends_add : (C : Gates) (k : Gate) → Extends C (C ++ (k ∷ []))
extends_add C k = record { more = k ∷ []; grown = refl }

pub extends_trans : {B C D : Gates} → Extends B C → Extends C D → Extends B D
extends_trans {B} x y =
    record { more = x.more ++ y.more; grown = y.grown ∙ ap (λ (l : Gates). l ++ y.more) x.grown ∙ append_assoc B x.more y.more }

pub extends_length : {B C : Gates} → Extends B C → length B ≤ length C
extends_length x = rw (x.grown, length-append) (omega arith)

-- an expression only appends gates
pub expr_extends : (e : Expr) (p : List ℕ) (C : Gates) → Extends C (make_expr e p C).gates
unfolding make_expr
expr_extends (variable x) p C = extends_same C
expr_extends (word n) p C = extends_add C _
expr_extends (bit b) p C = extends_add C _
expr_extends (one op e) p C = extends_trans (expr_extends e p C) (extends_add _ _)
expr_extends (two op d e) p C =
    extends_trans (expr_extends d p C) (extends_trans (expr_extends e p (make_expr d p C).gates) (extends_add _ _))

pub choices_extend : (c : ℕ) (p q l : List ℕ) (m : Making) → Extends m.gates (choices c p q l m).gates
unfolding choices
choices_extend c p q [] m = extends_same m.gates
choices_extend c p q (x ∷ l) m = extends_trans (extends_add m.gates _) (choices_extend c p q l (choose c p q x m))

-- and so do statements and blocks
mutual
  unfolding make_statement

  pub statement_extends : (t : Statement) (m : Making) → Extends m.gates (make_statement t m).gates
  statement_extends (assign x e) m = expr_extends e m.present m.gates
  statement_extends skip m = extends_same m.gates
  statement_extends (branch c b d) m =
      extends_trans (expr_extends c m.present m.gates)
      (extends_trans (block_extends b (as_before m (condition_made c m).gates))
      (extends_trans (block_extends d (as_before m (first_made c b m).gates))
      (choices_extend (condition_made c m).place (first_made c b m).present (second_made c b d m).present (assigned_in b d (length m.present))
      (as_before m (second_made c b d m).gates))))

  pub block_extends : (b : Block) (m : Making) → Extends m.gates (make_block b m).gates
  block_extends end m = extends_same m.gates
  block_extends (then t b) m = extends_trans (statement_extends t m) (block_extends b (make_statement t m))
