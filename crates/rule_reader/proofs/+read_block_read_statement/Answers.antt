use mathlib.Core.Path.{refl, sym, ap, ◌∙◌}
use native.Mathlib.Omega.{arith}
use Rattle.base.specs.declared.Kind.TheVariants.{Bit}
use Rattle.base.specs.declared.Form.TheVariants as form
use Rattle.std.proofs.Common.{◌≡◌, get_or}
use Rattle.base.specs.Codes.{code_of}
use Rattle.base.specs.Parsing.{step_of}
use Rattle.base.specs.ParsingLaws.{forward_past}
use Rattle.rule.specs.Limits.{deepest}
use Rattle.rule.specs.Expressions.{read_expr}
use Rattle.rule.specs.ExpressionLaws.{expr_forward}
use Rattle.rule.specs.Blocks.{read_block, read_statement}
use Rattle.rule.specs.FuelLaws.{block_forward, statement_forward}
use Rattle.base.proofs.PassedLaws.{passed}
use Rattle.rule_reader.proofs.Arms.{no_statement}
use Rattle.rule.specs.BlockLaws.{statement_as, branch_deep, branch_refused, branch_first, branch_second, block_short, block_end, block_refused, block_more}
use borrow.Author.Rules.{rules}
use Prim.Native.Nat.{◌+◌, ◌-◌}
use Rattle.rule_reader.proofs.+read_block_read_statement.Goals as goal

pub read_block-loop-here-smaller : goal.read_block-loop-here-smaller
read_block-loop-here-smaller t c = let a = c.args in
    let l = c.loop-here in
    omega (arith, forward_past (read_statement a.rule.bytes.now a.nest l.here) (statement_forward a.rule.bytes.now a.nest l.here) c.in_ok-here.ensures)

pub read_block-loop-here-preserved : goal.read_block-loop-here-preserved
read_block-loop-here-preserved t c = let a = c.args in
    let l = c.loop-here in
    let step = c.in_ok-here.ensures in (
      omega (arith, forward_past (read_statement a.rule.bytes.now a.nest l.here) (statement_forward a.rule.bytes.now a.nest l.here) step),
      block_more a.rule.bytes.now a.nest l.here c.if-s-here.false c.if-s-here-eq0.false step ∙ l.invariant.1,
    )

-- a skip's own code: what is read there is one byte
pub read_block-loop-here-preserved-then-s-here-eq-SKIP : goal.read_block-loop-here-preserved-then-s-here-eq-SKIP
unfolding code_of
read_block-loop-here-preserved-then-s-here-eq-SKIP t c = let s = c.args.rule.bytes.now in
    let l = c.loop-here in
    let code : get_or s l.here 0 ≡ 0x02 = c.if-s-here-eq-SKIP.true in
    let step = ap step_of (sym (statement_as s c.args.nest l.here (code_of (get_or s l.here 0)) form.Skip refl (ap (λ n. (code_of n).form) code))) in (
      omega (arith, l.invariant.0),
      block_more s c.args.nest l.here c.if-s-here.false c.if-s-here-eq0.false step ∙ l.invariant.1,
    )

pub read_block-returns-in_err-here : goal.read_block-returns-in_err-here
read_block-returns-in_err-here t c = let a = c.args in
    let l = c.loop-here in
    passed _ _ c.from_residual.ensures.1
    (block_refused a.rule.bytes.now a.nest l.here c.if-s-here.false c.if-s-here-eq0.false c.in_err-here.ensures ∙ l.invariant.1)

pub read_statement-read_block-requires : goal.read_statement-read_block-requires
read_statement-read_block-requires t c = let a = c.args in
    omega (arith, forward_past (read_expr deepest a.rule.bytes.now Bit (a.at + 1)) (expr_forward deepest a.rule.bytes.now Bit (a.at + 1)) c.in-Ok.ensures)

pub read_statement-read_block-requires-in-Ok-read_block : goal.read_statement-read_block-requires-in-Ok-read_block
read_statement-read_block-requires-in-Ok-read_block t c = let a = c.args in
    let first = c.in-Ok.first in
    omega (
      arith,
      forward_past (read_expr deepest a.rule.bytes.now Bit (a.at + 1)) (expr_forward deepest a.rule.bytes.now Bit (a.at + 1)) c.in-Ok.ensures,
      forward_past (read_block a.rule.bytes.now (a.nest - 1) first) (block_forward a.rule.bytes.now (a.nest - 1) first) c.in-Ok-read_block.ensures,
    )

pub read_statement-returns-in-Ok-read_block : goal.read_statement-returns-in-Ok-read_block
read_statement-returns-in-Ok-read_block t c = let a = c.args in
    branch_second a.rule.bytes.now a.nest a.at c.code_of-c.result c.code_of-c.ensures c.in-Branch.is c.if-nest-eq0.false
    c.in-Ok.ensures c.in-Ok-read_block.ensures c.read_block-in-Ok-read_block.ensures

pub read_statement-returns-in-Err-read_block : goal.read_statement-returns-in-Err-read_block
read_statement-returns-in-Err-read_block t c = let a = c.args in
    branch_first a.rule.bytes.now a.nest a.at c.code_of-c.result c.code_of-c.ensures c.in-Branch.is c.if-nest-eq0.false
    c.in-Ok.ensures c.in-Err-read_block.ensures

pub read_statement-returns-in-Err : goal.read_statement-returns-in-Err
read_statement-returns-in-Err t c = let a = c.args in
    branch_refused a.rule.bytes.now a.nest a.at c.code_of-c.result c.code_of-c.ensures c.in-Branch.is c.if-nest-eq0.false c.in-Err.ensures

pub read_statement-returns-in_default : goal.read_statement-returns-in_default
read_statement-returns-in_default t c = let a = c.args in
    let code = c.code_of-c.result in
    ap step_of (sym (statement_as a.rule.bytes.now a.nest a.at code code.form c.code_of-c.ensures refl
    ∙ no_statement code.form (read_block a.rule.bytes.now) a.rule.bytes.now a.nest a.at c.in_default.not-Assign c.in_default.not-Skip c.in_default.not-Branch))

pub read_block-loop-here-init : goal.read_block-loop-here-init
read_block-loop-here-init t c = (search rules, refl)

pub read_block-returns-then-s-here : goal.read_block-returns-then-s-here
read_block-returns-then-s-here t c = let l = c.loop-here in ap step_of (sym (block_short _ _ _ c.if-s-here.true)) ∙ l.invariant.1

pub read_block-returns-then-s-here-eq0 : goal.read_block-returns-then-s-here-eq0
read_block-returns-then-s-here-eq0 t c = block_end _ _ _ c.if-s-here.false c.if-s-here-eq0.true ∙ c.loop-here.invariant.1

pub read_statement-returns-then-nest-eq0 : goal.read_statement-returns-then-nest-eq0
read_statement-returns-then-nest-eq0 t c = branch_deep _ _ _ _ c.code_of-c.ensures c.in-Branch.is c.if-nest-eq0.true

pub read_statement-returns-in-Assign : goal.read_statement-returns-in-Assign
read_statement-returns-in-Assign t c = c.read_assign.ensures ∙ ap step_of (sym (statement_as _ _ _ _ form.Assign c.code_of-c.ensures c.in-Assign.is))

pub read_statement-returns-in-Skip : goal.read_statement-returns-in-Skip
read_statement-returns-in-Skip t c = ap step_of (sym (statement_as _ _ _ _ form.Skip c.code_of-c.ensures c.in-Skip.is))
