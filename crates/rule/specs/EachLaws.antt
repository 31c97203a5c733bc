-- The relations on trees: a fact of every expression follows from another, and only the kinds of the variables count.
use Rattle.std.specs.Prelude.{ℕ, ◌<◌, ◌≡◌}
use Rattle.std.proofs.Common.{sym, subst, ◌∙◌}
use Rattle.base.specs.Codes.{entry_of}
use Rattle.base.specs.declared.Kind.{Kind}
use Rattle.base.specs.declared.Kind.TheVariants as kind
use Rattle.rule.specs.Tree.{Expr, variable, word, bit, one, two, Statement, assign, skip, branch, Block, end, then}
use Rattle.rule.specs.Kinds.{Typed, EachExprIn, EachExpr}

-- two kindings of v variables that agree
module _ (v : ℕ) (kinds other : ℕ → Kind) (same : (x : ℕ) → x < v → kinds x ≡ other x) where
  module _ (P Q : Expr → Kind → Type 0) (to : (e : Expr) (k : Kind) → P e k → Q e k) where
    mutual
      each_in : (t : Statement) → EachExprIn v kinds P t → EachExprIn v other Q t
      each_in (assign x e) h = (h.0, subst (Q e) (same x h.0) (to e (kinds x) h.1))
      each_in skip h = tt
      each_in (branch c b d) h = (to c kind.Bit h.0, each_same b h.1, each_same d h.2)

      pub each_same : (b : Block) → EachExpr v kinds P b → EachExpr v other Q b
      each_same end h = tt
      each_same (then t b) h = (each_in t h.0, each_same b h.1)

  pub typed_same : (e : Expr) (k : Kind) → Typed v kinds e k → Typed v other e k
  typed_same (variable x) k h = (h.0, sym (same x h.0) ∙ h.1)
  typed_same (word n) k h = h
  typed_same (bit b) k h = h
  typed_same (one op e) k h = (h.0, h.1, typed_same e (entry_of op).takes h.2)
  typed_same (two op d e) k h = (h.0, h.1, typed_same d (entry_of op).takes h.2, typed_same e (entry_of op).takes h.3)
