-- Document 01, "The rule file": "arguments to result" of the operation table, as a relation on trees.
use Rattle.std.specs.Prelude.{ℕ, ◌<◌, ◌≡◌}
use Rattle.base.specs.Codes.{Fits, entry_of}
use Rattle.base.specs.declared.Kind.{Kind}
use Rattle.base.specs.declared.Kind.TheVariants as kind
use Rattle.rule.specs.Tree.{Expr, variable, word, bit, one, two, Statement, assign, skip, branch, Block, end, then}

-- every word constant of an expression is a word
abbrev pub WordsFit : Expr → Kind → Type 0
WordsFit (variable x) k = Unit {0}
WordsFit (word n) k = Fits kind.Word n
WordsFit (bit b) k = Unit {0}
WordsFit (one op e) k = WordsFit e (entry_of op).takes
WordsFit (two op d e) k = WordsFit d (entry_of op).takes × WordsFit e (entry_of op).takes

-- over v variables of these kinds
module _ (v : ℕ) (kinds : ℕ → Kind) where
  -- an expression of kind k: it names only the variables, and every argument is of the kind that its operation takes
  abbrev pub Typed : Expr → Kind → Type 0
  Typed (variable x) k = (x < v) × (kinds x ≡ k)
  Typed (word n) k = kind.Word ≡ k
  Typed (bit b) k = Fits kind.Bit b × (kind.Bit ≡ k)
  Typed (one op e) k = ((entry_of op).arity ≡ 1) × ((entry_of op).gives ≡ k) × Typed e (entry_of op).takes
  Typed (two op d e) k = ((entry_of op).arity ≡ 2) × ((entry_of op).gives ≡ k) × Typed d (entry_of op).takes × Typed e (entry_of op).takes

  -- P holds of every expression and its kind: an assign is of its variable's kind, an if asks a bit
  module _ (P : Expr → Kind → Type 0) where
    abbrev mutual
      pub EachExprIn : Statement → Type 0
      EachExprIn (assign x e) = (x < v) × P e (kinds x)
      EachExprIn skip = Unit {0}
      EachExprIn (branch c b d) = P c kind.Bit × EachExpr b × EachExpr d

      pub EachExpr : Block → Type 0
      EachExpr end = Unit {0}
      EachExpr (then t b) = EachExprIn t × EachExpr b

  -- the kinds of statements and blocks fit
  abbrev pub TypedStatement : Statement → Type 0
  TypedStatement = EachExprIn Typed

  abbrev pub TypedBlock : Block → Type 0
  TypedBlock = EachExpr Typed

  -- and so do their word constants
  abbrev pub WordsStatement : Statement → Type 0
  WordsStatement = EachExprIn WordsFit

  abbrev pub WordsBlock : Block → Type 0
  WordsBlock = EachExpr WordsFit
