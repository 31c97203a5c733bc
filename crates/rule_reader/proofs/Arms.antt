-- The last arm of a `match` on a form: no arm before it names the form, so it opens no expression, or no statement.
use Rattle.std.proofs.Common.{◌≡◌, ℕ, List, refl}
use Rattle.base.specs.declared.Kind.{Kind}
use Rattle.base.specs.declared.Operation.{Operation}
use Rattle.base.specs.declared.Form.{Form}
use Rattle.base.specs.declared.Form.TheVariants.{End, Assign, Skip, Branch, Variable, Word, Bit, Apply, Unknown}
use Rattle.base.specs.Parsing.{Parsed, refused}
use Rattle.rule.specs.Tree.{Expr, Block}
use Rattle.rule.specs.Expressions.{expr_form}
use Rattle.rule.specs.Blocks.{statement_form}

pub no_expression : (f : Form) (s : List ℕ) (argument : Kind → ℕ → Parsed Expr) (want : Kind) (deep at : ℕ)
    → (f ≡ Variable → ⊥) → (f ≡ Word → ⊥) → (f ≡ Bit → ⊥) → ((op : Operation) → f ≡ Apply op → ⊥)
    → expr_form f s argument want deep at ≡ refused 5 at
no_expression End s argument want deep at v w b a = refl
no_expression Assign s argument want deep at v w b a = refl
no_expression Skip s argument want deep at v w b a = refl
no_expression Branch s argument want deep at v w b a = refl
no_expression Variable s argument want deep at v w b a = absurd (v refl)
no_expression Word s argument want deep at v w b a = absurd (w refl)
no_expression Bit s argument want deep at v w b a = absurd (b refl)
no_expression (Apply op) s argument want deep at v w b a = absurd (a op refl)
no_expression Unknown s argument want deep at v w b a = refl

pub no_statement : (f : Form) (block : ℕ → ℕ → Parsed Block) (s : List ℕ) (nest at : ℕ)
    → (f ≡ Assign → ⊥) → (f ≡ Skip → ⊥) → (f ≡ Branch → ⊥)
    → statement_form f block s nest at ≡ refused 5 at
no_statement End block s nest at a k b = refl
no_statement Assign block s nest at a k b = absurd (a refl)
no_statement Skip block s nest at a k b = absurd (k refl)
no_statement Branch block s nest at a k b = absurd (b refl)
no_statement Variable block s nest at a k b = refl
no_statement Word block s nest at a k b = refl
no_statement Bit block s nest at a k b = refl
no_statement (Apply op) block s nest at a k b = refl
no_statement Unknown block s nest at a k b = refl
