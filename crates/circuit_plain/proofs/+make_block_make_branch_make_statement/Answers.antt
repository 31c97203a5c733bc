use mathlib.Core.Path.{refl}
use native.Mathlib.Omega.{arith}
use Prim.Native.Nat.{◌+◌}
use Rattle.base.specs.declared.Kind.TheVariants.{Bit}
use Rattle.base.specs.declared.Form.TheVariants as form
use Rattle.base.specs.ParsingLaws.{forward_read}
use Rattle.rule.specs.Limits.{deepest}
use Rattle.rule.specs.Expressions.{read_expr}
use Rattle.rule.specs.ExpressionLaws.{expr_forward}
use Rattle.rule.specs.FuelLaws.{block_forward, statement_forward}
use Rattle.rule.specs.BlockLaws.{statement_as}
use Rattle.rule.specs.FirstStatement.{block_inside}
use Rattle.circuit_make.specs.StatementLaws.{done_as, branch_level, test_taken, first_taken, second_taken, made_branch, statement_read_as, made_skip}
use Rattle.circuit_make.specs.BlockLaws.{walked_none, rest_taken, statement_taken, walked_all, walked_more}
use borrow.Author.Rules.{rules}
use Rattle.circuit.specs.OpenedLaws.{statement_opens}
use Rattle.circuit_plain.proofs.+make_block_make_branch_make_statement.Goals as goal

pub make_block-loop-here-preserved : goal.make_block-loop-here-preserved
make_block-loop-here-preserved t c = let e = c.make_statement-x.ensures in (
  walked_more _ _ _ _ _ _ _ _ _ _ _ c.loop-here.invariant.0 c.if-s-here-eq0.false _ _ _ _ _
      (forward_read _ (statement_forward _ _ _) e.made.read) e.made,
  e.small,
)

pub make_branch-make_block-x-requires : goal.make_branch-make_block-x-requires
make_branch-make_block-x-requires t c = let test = c.make_expr-test.ensures in (
  omega (arith, forward_read (read_expr deepest c.args.rule.bytes.now Bit (c.args.at + 1)) (expr_forward _ _ _ _) test.read),
  (first_taken _ _ _ c.requires.1 _ _ _ _ _ _ _ test),
)

pub make_branch-make_block-y-requires : goal.make_branch-make_block-y-requires
make_branch-make_block-y-requires t c = let test = c.make_expr-test.ensures in
    let first = c.make_block-x.ensures.made in
    let past = forward_read (read_expr deepest c.args.rule.bytes.now Bit (c.args.at + 1)) (expr_forward _ _ _ _) test.read in (
      omega (arith, past, forward_read _ (block_forward _ _ _) first.read),
      (second_taken _ _ _ c.requires.1 _ _ _ _ _ _ _ test _ _ _ _ _ first),
    )

pub make_branch-returns : goal.make_branch-returns
make_branch-returns t c = record {
  made = made_branch _ _ _ c.requires.1 _ _ _ _ _ _ _ c.make_expr-test.ensures _ _ _ _ _ c.make_block-x.ensures.made _ _ _ _ _ c.make_block-y.ensures.made
      c.args.rule.few _ _ _ _ refl (rw c.variables.ensures at c.make_choices-more.ensures);
  small = search rules;
}

pub make_block-bounds-s-here : goal.make_block-bounds-s-here
make_block-bounds-s-here t c = block_inside _ _ _ (rest_taken _ _ _ _ _ _ _ _ _ _ _ c.loop-here.invariant.0)

pub make_block-overflow_add-result : goal.make_block-overflow_add-result
make_block-overflow_add-result t c = omega (arith, block_inside _ _ _ (rest_taken _ _ _ _ _ _ _ _ _ _ _ c.loop-here.invariant.0))

pub make_block-returns-then-s-here-eq0 : goal.make_block-returns-then-s-here-eq0
make_block-returns-then-s-here-eq0 t c = record { made = walked_all _ _ _ _ _ _ _ _ _ _ _ c.loop-here.invariant.0 c.if-s-here-eq0.true; small = c.loop-here.invariant.1 }

pub make_block-make_statement-x-requires : goal.make_block-make_statement-x-requires
make_block-make_statement-x-requires t c = (
  omega (arith, c.loop-here.invariant.0.onward, block_inside _ _ _ (rest_taken _ _ _ _ _ _ _ _ _ _ _ c.loop-here.invariant.0)),
  ((block_inside _ _ _ (rest_taken _ _ _ _ _ _ _ _ _ _ _ c.loop-here.invariant.0), statement_taken _ _ _ _ _ _ _ _ _ _ _ c.loop-here.invariant.0 c.if-s-here-eq0.false)),
)

pub make_block-loop-here-smaller : goal.make_block-loop-here-smaller
make_block-loop-here-smaller t c =
    omega (arith, block_inside _ _ _ (rest_taken _ _ _ _ _ _ _ _ _ _ _ c.loop-here.invariant.0), forward_read _ (statement_forward _ _ _) c.make_statement-x.ensures.made.read)

pub make_branch-make_expr-test-requires : goal.make_branch-make_expr-test-requires
make_branch-make_expr-test-requires t c = (test_taken _ _ _ c.requires.1)

pub make_branch-overflow_sub-nest : goal.make_branch-overflow_sub-nest
make_branch-overflow_sub-nest t c = branch_level _ _ _ c.requires.1

pub make_branch-overflow_sub-nest-2 : goal.make_branch-overflow_sub-nest-2
make_branch-overflow_sub-nest-2 t c = branch_level _ _ _ c.requires.1

pub make_statement-make_assign-requires : goal.make_statement-make_assign-requires
make_statement-make_assign-requires t c = (statement_read_as _ _ _ _ c.code_of-c.ensures c.requires.1 form.Assign c.in-Assign.is)

pub make_statement-make_branch-requires : goal.make_statement-make_branch-requires
make_statement-make_branch-requires t c = (omega arith, ((c.requires.0, statement_read_as _ _ _ _ c.code_of-c.ensures c.requires.1 form.Branch c.in-Branch.is)))

pub make_statement-returns-in-Assign : goal.make_statement-returns-in-Assign
make_statement-returns-in-Assign t c =
    record { made = done_as _ _ _ _ _ (statement_as _ _ _ _ form.Assign c.code_of-c.ensures c.in-Assign.is) c.make_assign.ensures.made; small = c.make_assign.ensures.small }

pub make_statement-returns-in-Skip : goal.make_statement-returns-in-Skip
make_statement-returns-in-Skip t c = let p = c.passed.ensures in
    record { made = made_skip _ _ _ _ c.code_of-c.ensures c.in-Skip.is _ _ _ _ _ _ p.0 p.1.0 p.1.1; small = rw p.1.0 (search rules) }

pub make_statement-returns-in-Branch : goal.make_statement-returns-in-Branch
make_statement-returns-in-Branch t c =
    record { made = done_as _ _ _ _ _ (statement_as _ _ _ _ form.Branch c.code_of-c.ensures c.in-Branch.is) c.make_branch.ensures.made; small = c.make_branch.ensures.small }

pub make_statement-returns-in_default : goal.make_statement-returns-in_default
make_statement-returns-in_default t c = absurd
    (statement_opens _ _ _ c.requires.1 _ c.code_of-c.ensures c.in_default.not-Assign c.in_default.not-Skip c.in_default.not-Branch)
