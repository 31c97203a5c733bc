-- Document 02, C-12: where an expression stands in a rule's block, by the grammar: the bytes of the block before it and after it.
-- So the bytes of a word constant, or a variable's number, are never taken for an operation.
use Rattle.std.specs.Prelude.{ℕ, List, [], ◌∷◌, ◌++◌}
use Rattle.base.specs.Codes.{byte_of}
use Rattle.base.specs.declared.Operation.{Operation}
use Rattle.rule.specs.Tree.{Expr, one, two, Statement, assign, branch, Block, then}
use Rattle.rule.specs.Format.{expr_bytes, statement_bytes, block_bytes}

-- e stands in an expression: it is the whole, or stands in an argument
pub data InExpr (e : Expr) : Expr → List ℕ → List ℕ → Type 0 where
  whole : InExpr e e [] []
  in_only : {op : Operation} {d : Expr} {pre post : List ℕ} → InExpr e d pre post → InExpr e (one op d) (byte_of op ∷ pre) post
  in_left : {op : Operation} {d f : Expr} {pre post : List ℕ} → InExpr e d pre post → InExpr e (two op d f) (byte_of op ∷ pre) (post ++ expr_bytes f)
  in_right : {op : Operation} {d f : Expr} {pre post : List ℕ} → InExpr e f pre post → InExpr e (two op d f) (byte_of op ∷ (expr_bytes d ++ pre)) post

-- e stands in a block: in the expression of an assign, the condition of an if, its first or its second block, or in the statements after
pub data InBlock (e : Expr) : Block → List ℕ → List ℕ → Type 0 where
  in_assign : {x : ℕ} {d : Expr} {b : Block} {pre post : List ℕ} → InExpr e d pre post → InBlock e (then (assign x d) b) (0x01 ∷ (x ∷ pre)) (post ++ block_bytes b)
  in_test : {c : Expr} {first second b : Block} {pre post : List ℕ} → InExpr e c pre post
      → InBlock e (then (branch c first second) b) (0x03 ∷ pre) (post ++ (block_bytes first ++ (block_bytes second ++ block_bytes b)))
  in_first : {c : Expr} {first second b : Block} {pre post : List ℕ} → InBlock e first pre post
      → InBlock e (then (branch c first second) b) (0x03 ∷ (expr_bytes c ++ pre)) (post ++ (block_bytes second ++ block_bytes b))
  in_second : {c : Expr} {first second b : Block} {pre post : List ℕ} → InBlock e second pre post
      → InBlock e (then (branch c first second) b) (0x03 ∷ (expr_bytes c ++ (block_bytes first ++ pre))) (post ++ block_bytes b)
  in_rest : {t : Statement} {b : Block} {pre post : List ℕ} → InBlock e b pre post → InBlock e (then t b) (statement_bytes t ++ pre) post
