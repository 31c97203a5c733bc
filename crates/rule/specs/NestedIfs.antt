-- Document 02, C-17, "ifs nest to 8 .. the ninth nested if": the bytes of a rule's block that lead, statement by statement, to a place inside n ifs, one within another.
use Rattle.std.specs.Prelude.{ℕ, suc, ◌+◌, ◌≤◌, List, [], ◌∷◌, ◌++◌, length}
use Rattle.base.specs.declared.Kind.{Kind}
use Rattle.base.specs.declared.Kind.TheVariants as kind
use Rattle.rule.specs.Tree.{Expr, Statement, Block}
use Rattle.rule.specs.Kinds.{Typed, WordsFit, EachExprIn, EachExpr}
use Rattle.rule.specs.Format.{expr_bytes, statement_bytes, block_bytes, kind_in, Shallow, nesting_in, nesting}

-- an expression of kind k as `WellFormed` has every expression of a rule with these kind bytes
abbrev pub WellExpr : List ℕ → Expr → Kind → Type 0
WellExpr kinds e k = Typed (length kinds) (kind_in kinds) e k × WordsFit e k × Shallow e k

-- a statement and a block that may stand where n ifs are around them: their expressions are so, and with those n their ifs nest to 8 at most
abbrev pub WellStatement : List ℕ → ℕ → Statement → Type 0
WellStatement kinds n t = EachExprIn (length kinds) (kind_in kinds) (WellExpr kinds) t × (n + nesting_in t ≤ 8)

abbrev pub WellBlock : List ℕ → ℕ → Block → Type 0
WellBlock kinds n b = EachExpr (length kinds) (kind_in kinds) (WellExpr kinds) b × (n + nesting b ≤ 8)

-- n is how many ifs are around the place. From the rule's first statement on, one step after another: past a statement, into the first block of an if, past that block into its second
pub data Leads (kinds : List ℕ) : ℕ → List ℕ → Type 0 where
  outset : Leads kinds 0 []
  past : {n : ℕ} {pre : List ℕ} → Leads kinds n pre → (t : Statement) → WellStatement kinds n t → Leads kinds n (pre ++ statement_bytes t)
  into_first : {n : ℕ} {pre : List ℕ} → Leads kinds n pre → (c : Expr) → WellExpr kinds c kind.Bit → Leads kinds (suc n) (pre ++ (0x03 ∷ expr_bytes c))
  into_second : {n : ℕ} {pre : List ℕ} → Leads kinds n pre → (c : Expr) → WellExpr kinds c kind.Bit → (b : Block) → WellBlock kinds (suc n) b
      → Leads kinds (suc n) (pre ++ (0x03 ∷ (expr_bytes c ++ block_bytes b)))
