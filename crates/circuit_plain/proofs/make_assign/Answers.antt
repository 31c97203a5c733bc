use borrow.Author.Rules.{rules}
use mathlib.Core.Path.{ap, subst⁻¹, ◌∙◌}
use native.Mathlib.Omega.{arith}
use Prim.Native.Nat.{ℕ, ◌+◌}
use lib.ListN.{get_or}
use Rattle.base.specs.declared.Kind.{Kind}
use Rattle.base.specs.Parsing.{IsRead}
use Rattle.base.specs.Sets.{has}
use Rattle.rule.specs.Limits.{deepest}
use Rattle.rule.specs.Expressions.{read_expr}
use Rattle.rule.specs.FirstStatement.{assign_read}
use Rattle.circuit_make.specs.ChoiceLaws.{only_bit}
use Rattle.circuit_make.specs.StatementLaws.{made_assign}
use Rattle.circuit_plain.proofs.make_assign.Goals as goal

pub overflow_add-x : goal.overflow_add-x
overflow_add-x c = let a = c.args in let r = assign_read a.rule.bytes.now a.at c.requires in omega (arith, r.inside)

pub bounds-s-at : goal.bounds-s-at
bounds-s-at c = let a = c.args in let r = assign_read a.rule.bytes.now a.at c.requires in r.inside

pub overflow_add-at : goal.overflow_add-at
overflow_add-at c = let a = c.args in let r = assign_read a.rule.bytes.now a.at c.requires in omega (arith, r.inside)

pub kind_at-requires : goal.kind_at-requires
kind_at-requires c = let a = c.args in
    let r = assign_read a.rule.bytes.now a.at c.requires in
    omega (arith, r.range, c.args.rule.kinds)

pub make_argument-value-requires : goal.make_argument-value-requires
make_argument-value-requires c = let a = c.args in
    let r = assign_read a.rule.bytes.now a.at c.requires in
    subst⁻¹ (λ (k : Kind). IsRead (read_expr deepest a.rule.bytes.now k (a.at + 2))) c.kind_at.ensures r.value

pub bounds-present-x : goal.bounds-present-x
bounds-present-x c = let a = c.args in
    let r = assign_read a.rule.bytes.now a.at c.requires in
    omega (arith, r.range, c.args.rule.few)

pub only-requires : goal.only-requires
only-requires c = let a = c.args in
    let r = assign_read a.rule.bytes.now a.at c.requires in
    omega (arith, r.range, c.args.rule.few)

pub returns : goal.returns
returns c = let a = c.args in record {
  made = made_assign a.rule.bytes.now a.at c.requires
      c.args.rule.few a.present.now a.quads.now a.count c.make_argument-value.result.next
      c.make_argument-value.result.gate.0 c.make_argument-value.result.count c.only.result _ c.kind_at.result
      c.kind_at.ensures c.make_argument-value.ensures
      (λ x. ap (λ (k : ℕ). has k x) c.only.ensures ∙ only_bit (get_or a.rule.bytes.now (a.at + 1) 0) x);
  small = search rules;
}
