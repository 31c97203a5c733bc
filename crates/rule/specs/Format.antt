-- Document 01, "The rule file": the bytes of a rule, from its kind bytes and its tree, and which rules are well-formed. No reader stands here.
use Rattle.std.specs.Prelude.{ℕ, suc, ◌≤◌, ◌<◌, max, List, [], ◌∷◌, ◌++◌, length, get_or, take, drop}
use Rattle.base.specs.Numbers.{bytes_of}
use Rattle.base.specs.Codes.{byte_of}
use Rattle.base.specs.declared.Kind.{Kind}
use Rattle.rule.specs.Limits.{most_rule_bytes, most_variables, last_kind, deepest, nested}
use Rattle.rule.specs.Header.{kind_of, mark, variables}
use Rattle.rule.specs.Tree.{Expr, variable, word, bit, one, two, Statement, assign, skip, branch, Block, end, then}
use Rattle.rule.specs.Kinds.{EachExpr, TypedBlock, WordsBlock}

-- in prefix form: 10 variable; 11 and four bytes, a word constant; 12 and 00 or 01, a bit constant; else an operation and its arguments
unfoldable pub expr_bytes : Expr → List ℕ
expr_bytes (variable x) = 0x10 ∷ x ∷ []
expr_bytes (word n) = 0x11 ∷ bytes_of 4 n
expr_bytes (bit b) = 0x12 ∷ b ∷ []
expr_bytes (one op e) = byte_of op ∷ expr_bytes e
expr_bytes (two op d e) = byte_of op ∷ (expr_bytes d ++ expr_bytes e)

-- 01 variable expression (assign); 02 (skip); 03 expression block block (if). A block is statements closed by 00.
unfoldable mutual
  pub statement_bytes : Statement → List ℕ
  statement_bytes (assign x e) = 0x01 ∷ x ∷ expr_bytes e
  statement_bytes skip = 0x02 ∷ []
  statement_bytes (branch c b d) = 0x03 ∷ (expr_bytes c ++ (block_bytes b ++ block_bytes d))

  pub block_bytes : Block → List ℕ
  block_bytes end = 0x00 ∷ []
  block_bytes (then t b) = statement_bytes t ++ block_bytes b

-- "RUL" and the version, V, V kind bytes
abbrev pub header_bytes : List ℕ → List ℕ
header_bytes kinds = mark ++ (length kinds ∷ kinds)

-- a rule file: its header, then its block
abbrev pub rule_bytes : List ℕ → Block → List ℕ
rule_bytes kinds b = header_bytes kinds ++ block_bytes b

-- the kind bytes of a file, and the kind that they give variable x
abbrev pub kind_bytes : List ℕ → List ℕ
kind_bytes s = take (variables s) (drop 6 s)

abbrev pub kind_in : List ℕ → ℕ → Kind
kind_in kinds x = kind_of (get_or kinds x 0)

-- a variable or constant alone is 1 deep
unfoldable pub depth : Expr → ℕ
depth (variable x) = 1
depth (word n) = 1
depth (bit b) = 1
depth (one op e) = suc (depth e)
depth (two op d e) = suc (max (depth d) (depth e))

-- an expression is at most 8 deep
abbrev pub Shallow : Expr → Kind → Type 0
Shallow e k = depth e ≤ deepest

-- how deep ifs nest
unfoldable mutual
  pub nesting_in : Statement → ℕ
  nesting_in (assign x e) = 0
  nesting_in skip = 0
  nesting_in (branch c b d) = suc (max (nesting b) (nesting d))

  pub nesting : Block → ℕ
  nesting end = 0
  nesting (then t b) = max (nesting_in t) (nesting b)

-- a rule that reading takes: each field is a sentence of "The rule file"
pub record WellFormed (kinds : List ℕ) (b : Block) : Type 0 where
  -- V is 1 to 32
  pub some : 1 ≤ length kinds
  pub few : length kinds ≤ most_variables
  -- every kind byte is 00 word or 01 bit, or 02 or 03 of a working one (C-13)
  pub known : (x : ℕ) → x < length kinds → get_or kinds x 0 ≤ last_kind
  -- every variable is one of V, every bit constant is 0 or 1, and the kinds of arguments and results fit
  pub typed : TypedBlock (length kinds) (kind_in kinds) b
  -- a word is 32 bits
  pub words : WordsBlock (length kinds) (kind_in kinds) b
  -- expressions are at most 8 deep, ifs nest at most 8 deep (C-17)
  pub shallow : EachExpr (length kinds) (kind_in kinds) Shallow b
  pub nests : nesting b ≤ nested
  -- at most 4,096 bytes
  pub size : length (rule_bytes kinds b) ≤ most_rule_bytes
