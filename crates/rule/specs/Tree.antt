-- Document 01, "The rule file": what a rule says, once its bytes are read. The direct run and the plain circuit go by this tree.
use Rattle.std.specs.Prelude.{ℕ}
use Rattle.base.specs.declared.Operation.{Operation}

-- an expression: a variable or constant alone, or an operation and its one or two arguments
pub data Expr : Type 0 where
  variable : ℕ → Expr
  word : ℕ → Expr
  bit : ℕ → Expr
  one : Operation → Expr → Expr
  two : Operation → Expr → Expr → Expr

-- A branch is itself a block, so statements and blocks nest.
mutual
  pub data Statement : Type 0 where
    assign : ℕ → Expr → Statement
    skip : Statement
    branch : Expr → Block → Block → Statement

  pub data Block : Type 0 where
    end : Block
    then : Statement → Block → Block
