-- Document 02, C-12: rules that "differ only in the order of two variables that are themselves the two arguments of such an operation", at any number of places.
use Rattle.std.specs.Prelude.{ℕ, ◌+◌, ◌≡◌, List, true, take}
use Rattle.base.specs.Codes.{commutes}
use Rattle.base.specs.declared.Operation.{Operation}
use Rattle.base.specs.Parsing.{Parsed, parsed, refused}
use Rattle.rule.specs.Header.{variables}
use Rattle.rule.specs.Tree.{Expr, variable, one, two, Statement, Block}
use Rattle.rule.specs.Tree as tree
use Rattle.rule.specs.Rule.{read_rule}

-- two expressions: the same; or the variables x and y against y and x, under an operation that commutes; or such in their arguments
pub data ExprUpToOrder : Expr → Expr → Type 0 where
  same : {e : Expr} → ExprUpToOrder e e
  turned : {op : Operation} {x y : ℕ} → commutes op ≡ true → ExprUpToOrder (two op (variable x) (variable y)) (two op (variable y) (variable x))
  in_one : {op : Operation} {d e : Expr} → ExprUpToOrder d e → ExprUpToOrder (one op d) (one op e)
  in_two : {op : Operation} {d e d' e' : Expr} → ExprUpToOrder d d' → ExprUpToOrder e e' → ExprUpToOrder (two op d e) (two op d' e')

-- two statements, two blocks: the same but for such expressions
mutual
  pub data StatementUpToOrder : Statement → Statement → Type 0 where
    assign : {x : ℕ} {d e : Expr} → ExprUpToOrder d e → StatementUpToOrder (tree.assign x d) (tree.assign x e)
    skip : StatementUpToOrder tree.skip tree.skip
    branch : {c c' : Expr} {b b' d d' : Block} → ExprUpToOrder c c' → BlockUpToOrder b b' → BlockUpToOrder d d' → StatementUpToOrder (tree.branch c b d)
        (tree.branch c' b' d')

  pub data BlockUpToOrder : Block → Block → Type 0 where
    end : BlockUpToOrder tree.end tree.end
    then : {t t' : Statement} {b b' : Block} → StatementUpToOrder t t' → BlockUpToOrder b b' → BlockUpToOrder (tree.then t b) (tree.then t' b')

-- what the two files are read to; a refused one is read to nothing
abbrev pub ReadUpToOrder : Parsed Block → Parsed Block → Type 0
ReadUpToOrder (parsed b n) (parsed d m) = BlockUpToOrder b d
ReadUpToOrder (parsed b n) (refused number place) = ⊥
ReadUpToOrder (refused number place) r = ⊥

-- two rule files: the same header, kinds and all, and blocks that differ only so
pub record OnlyOrder (s t : List ℕ) : Type 0 where
  pub headers : take (6 + variables s) s ≡ take (6 + variables s) t
  pub blocks : ReadUpToOrder (read_rule s) (read_rule t)
