-- What was read, by the form of its first byte: an expression is opened by a variable, a word, a bit or an operation, a statement by an assignment, a skip or an if.
use Rattle.std.specs.Prelude.{ℕ, ◌≡◌, refl, List, get_or}
use Rattle.std.proofs.Common.{subst}
use Rattle.base.specs.Codes.{code_of}
use Rattle.base.specs.declared.Kind.{Kind}
use Rattle.base.specs.declared.Code.{Code}
use Rattle.base.specs.declared.Operation.{Operation}
use Rattle.base.specs.declared.Form.{Form}
use Rattle.base.specs.declared.Form.TheVariants.{End, Assign, Skip, Branch, Variable, Word, Bit, Apply, Unknown}
use Rattle.base.specs.Parsing.{Parsed, IsRead}
use Rattle.rule.specs.Tree.{Expr, Block}
use Rattle.rule.specs.Expressions.{expr_form, read_expr}
use Rattle.rule.specs.ExpressionLaws.{below}
use Rattle.rule.specs.FirstByte.{expr_taken}
use Rattle.rule.specs.Blocks.{statement_form, read_block, read_statement}
use Rattle.rule.specs.BlockLaws.{statement_as}

pub expr_opens : (deep : ℕ) (s : List ℕ) (want : Kind) (at : ℕ) → IsRead (read_expr deep s want at) → (c : Code) → c ≡ code_of (get_or s at 0)
    → (c.form ≡ Variable → ⊥) → (c.form ≡ Word → ⊥) → (c.form ≡ Bit → ⊥) → ((op : Operation) → c.form ≡ Apply op → ⊥) → ⊥
expr_opens deep s want at h c e = go c.form (expr_taken deep s want at h c e c.form refl)
  where
    go : (f : Form) → IsRead (expr_form f s (below deep s) want deep at) → (f ≡ Variable → ⊥) → (f ≡ Word → ⊥) → (f ≡ Bit → ⊥) → ((op : Operation) → f ≡ Apply op → ⊥) → ⊥
    go End h v w b o = h
    go Assign h v w b o = h
    go Skip h v w b o = h
    go Branch h v w b o = h
    go Variable h v w b o = v refl
    go Word h v w b o = w refl
    go Bit h v w b o = b refl
    go (Apply op) h v w b o = o op refl
    go Unknown h v w b o = h

pub statement_opens : (s : List ℕ) (nest at : ℕ) → IsRead (read_statement s nest at) → (c : Code) → c ≡ code_of (get_or s at 0)
    → (c.form ≡ Assign → ⊥) → (c.form ≡ Skip → ⊥) → (c.form ≡ Branch → ⊥) → ⊥
statement_opens s nest at h c e = go c.form (subst IsRead (statement_as s nest at c c.form e refl) h)
  where
    go : (f : Form) → IsRead (statement_form f (read_block s) s nest at) → (f ≡ Assign → ⊥) → (f ≡ Skip → ⊥) → (f ≡ Branch → ⊥) → ⊥
    go End h a k b = h
    go Assign h a k b = a refl
    go Skip h a k b = k refl
    go Branch h a k b = b refl
    go Variable h a k b = h
    go Word h a k b = h
    go Bit h a k b = h
    go (Apply op) h a k b = h
    go Unknown h a k b = h
