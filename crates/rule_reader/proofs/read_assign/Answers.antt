use Prim.Native.Nat.{◌+◌}
use native.Mathlib.Omega.{arith}
use mathlib.Core.Path.{ap, ◌∙◌}
use borrow.Author.Tests.{lt-ltb, le-ltb}
use Rattle.base.specs.declared.Kind.{Kind}
use Rattle.base.specs.Parsing.{step_of}
use Rattle.base.specs.Parsing.{Past}
use Rattle.rule.specs.Limits.{deepest}
use Rattle.rule.specs.Expressions.{read_expr}
use Rattle.rule.specs.Blocks.{read_assign}
use Rattle.rule.specs.BlockLaws.{assign_past}
use Rattle.rule_reader.proofs.read_assign.Goals as goal

pub returns-then-s-at : goal.returns-then-s-at
unfolding read_assign
returns-then-s-at c = rw (le-ltb _ _ c.if-s-at.true)

pub returns-then-variables-x : goal.returns-then-variables-x
unfolding read_assign
returns-then-variables-x c = rw (lt-ltb _ _ c.if-s-at.false, le-ltb _ _ (rw c.variables.ensures at c.if-variables-x.true))

pub returns-then-is_variable : goal.returns-then-is_variable
returns-then-is_variable c = let a = c.args in
    let k = c.kind_at-want in
    assign_past a.rule.bytes.now a.at c.if-s-at.false (rw c.variables.ensures at c.if-variables-x.false)
    (ap Past (omega arith) ∙ ((c.is_variable.ensures c.if-is_variable.true).1 ∙ ap (λ (k : Kind). step_of (read_expr deepest a.rule.bytes.now k (a.at + 2))) k.ensures))

pub returns : goal.returns
returns c = let a = c.args in
    assign_past a.rule.bytes.now a.at c.if-s-at.false (rw c.variables.ensures at c.if-variables-x.false)
    (c.read_expr.ensures ∙ ap (λ (k : Kind). step_of (read_expr deepest a.rule.bytes.now k (a.at + 2))) c.kind_at-want.ensures)

pub overflow_add-result-then-is_variable : goal.overflow_add-result-then-is_variable
overflow_add-result-then-is_variable c = omega (arith, (c.is_variable.ensures c.if-is_variable.true).0)
