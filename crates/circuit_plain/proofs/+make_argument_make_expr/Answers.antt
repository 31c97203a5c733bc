use mathlib.Core.Path.{sym, ap, ◌∙◌}
use native.Mathlib.Omega.{arith}
use Prim.Native.Nat.{◌+◌}
use Rattle.circuit.specs.OpenedLaws.{expr_opens}
use Rattle.base.specs.Parsing.{parsed}
use Rattle.rule.specs.Tree.{word}
use Rattle.rule.specs.FirstByte.{expr_inside, byte_variable, as_variable, as_word, as_bit}
use Rattle.circuit_make.specs.ExprLaws.{level, first_taken, second_taken, made_variable, made_word, made_bit, made_one, made_two}
use borrow.Author.Rules.{rules}
use Prim.Native.Nat.{ℕ}
use Rattle.circuit_plain.proofs.+make_argument_make_expr.Goals as goal

pub make_expr-make_argument-x-requires : goal.make_expr-make_argument-x-requires
make_expr-make_argument-x-requires t c = (
  omega (arith, level _ _ _ _ c.requires _ c.code_of-c.ensures _ c.in-Apply.is),
  (first_taken _ _ _ _ c.requires _ c.code_of-c.ensures _ c.in-Apply.is),
)

pub make_expr-make_argument-y-requires : goal.make_expr-make_argument-y-requires
make_expr-make_argument-y-requires t c = (
  omega (arith, level _ _ _ _ c.requires _ c.code_of-c.ensures _ c.in-Apply.is),
  second_taken _ _ _ _ c.requires _ c.code_of-c.ensures _ c.in-Apply.is _ _ _ _ _ _ _ c.make_argument-x.ensures c.if-c-eq1.false,
)

pub make_expr-returns-in-Variable : goal.make_expr-returns-in-Variable
make_expr-returns-in-Variable t c = rw c.make_variable.ensures (made_variable _ _ _ _ _ _ _ (as_variable _ _ _ _ c.requires _ c.code_of-c.ensures c.in-Variable.is).is)

pub make_expr-returns-in-Word : goal.make_expr-returns-in-Word
make_expr-returns-in-Word t c = let n = c.read32-n in
    made_word _ _ _ _ _ n.result _ _ _
    ((as_word _ _ _ _ c.requires _ c.code_of-c.ensures c.in-Word.is).is ∙ ap (λ (k : ℕ). parsed (word k) (c.args.at + 5)) (sym n.ensures)) c.push.ensures

pub make_expr-returns-in-Bit : goal.make_expr-returns-in-Bit
make_expr-returns-in-Bit t c = made_bit _ _ _ _ _ _ _ _ _ (as_bit _ _ _ _ c.requires _ c.code_of-c.ensures c.in-Bit.is).is c.push-in-Bit.ensures

pub make_expr-returns-then-c-eq1 : goal.make_expr-returns-then-c-eq1
make_expr-returns-then-c-eq1 t c = made_one _ _ _ _ c.requires _ c.code_of-c.ensures _ c.in-Apply.is _ _ _ _ _ _ _
    c.make_argument-x.ensures _ _ _ c.if-c-eq1.true c.byte_of.ensures c.push-then-c-eq1.ensures

pub make_expr-returns-else-c-eq1 : goal.make_expr-returns-else-c-eq1
make_expr-returns-else-c-eq1 t c = made_two _ _ _ _ c.requires _ c.code_of-c.ensures _ c.in-Apply.is _ _ _ _ _ _ _
    c.make_argument-x.ensures c.if-c-eq1.false _ _ _ _ c.make_argument-y.ensures _ _ c.apply_gate.ensures

pub make_argument-bounds-s-at : goal.make_argument-bounds-s-at
make_argument-bounds-s-at t c = expr_inside _ _ _ _ c.requires

pub make_argument-make_variable-requires : goal.make_argument-make_variable-requires
make_argument-make_variable-requires t c = let v = byte_variable _ _ _ _ c.requires c.if-s-at-eq-VARIABLE.true in (v.inside, omega (arith, v.range, c.args.rule.few))

pub make_argument-returns-then-s-at-eq-VARIABLE : goal.make_argument-returns-then-s-at-eq-VARIABLE
make_argument-returns-then-s-at-eq-VARIABLE t c = let v = byte_variable _ _ _ _ c.requires c.if-s-at-eq-VARIABLE.true in
    rw c.make_variable.ensures (made_variable _ _ _ _ _ _ _ v.is)

pub make_expr-bounds-s-at : goal.make_expr-bounds-s-at
make_expr-bounds-s-at t c = expr_inside _ _ _ _ c.requires

pub make_expr-make_variable-requires : goal.make_expr-make_variable-requires
make_expr-make_variable-requires t c = let v = as_variable _ _ _ _ c.requires _ c.code_of-c.ensures c.in-Variable.is in (v.inside, omega (arith, v.range, c.args.rule.few))

pub make_expr-overflow_add-at : goal.make_expr-overflow_add-at
make_expr-overflow_add-at t c = omega (arith, (as_word _ _ _ _ c.requires _ c.code_of-c.ensures c.in-Word.is).inside)

pub make_expr-read32-n-requires : goal.make_expr-read32-n-requires
make_expr-read32-n-requires t c = omega (arith, (as_word _ _ _ _ c.requires _ c.code_of-c.ensures c.in-Word.is).inside)

pub make_expr-overflow_add-result : goal.make_expr-overflow_add-result
make_expr-overflow_add-result t c = omega (arith, (as_word _ _ _ _ c.requires _ c.code_of-c.ensures c.in-Word.is).inside)

pub make_expr-overflow_add-n : goal.make_expr-overflow_add-n
make_expr-overflow_add-n t c = omega (arith, (as_bit _ _ _ _ c.requires _ c.code_of-c.ensures c.in-Bit.is).inside)

pub make_expr-bounds-s-at-in-Bit : goal.make_expr-bounds-s-at-in-Bit
make_expr-bounds-s-at-in-Bit t c = (as_bit _ _ _ _ c.requires _ c.code_of-c.ensures c.in-Bit.is).inside

pub make_expr-overflow_add-result-in-Bit : goal.make_expr-overflow_add-result-in-Bit
make_expr-overflow_add-result-in-Bit t c = omega (arith, (as_bit _ _ _ _ c.requires _ c.code_of-c.ensures c.in-Bit.is).inside)

pub make_expr-overflow_add-at-in-Apply : goal.make_expr-overflow_add-at-in-Apply
make_expr-overflow_add-at-in-Apply t c = omega (arith, expr_inside _ _ _ _ c.requires)

pub make_expr-overflow_sub-deep : goal.make_expr-overflow_sub-deep
make_expr-overflow_sub-deep t c = level _ _ _ _ c.requires _ c.code_of-c.ensures _ c.in-Apply.is

pub make_expr-overflow_sub-deep-else-c-eq1 : goal.make_expr-overflow_sub-deep-else-c-eq1
make_expr-overflow_sub-deep-else-c-eq1 t c = level _ _ _ _ c.requires _ c.code_of-c.ensures _ c.in-Apply.is

pub make_expr-returns-in_default : goal.make_expr-returns-in_default
make_expr-returns-in_default t c = absurd
    (expr_opens _ _ _ _ c.requires _ c.code_of-c.ensures c.in_default.not-Variable c.in_default.not-Word c.in_default.not-Bit c.in_default.not-Apply)
