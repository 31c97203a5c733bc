use mathlib.Core.Path.{refl}
use native.Mathlib.Omega.{arith}
use borrow.Author.Rules.{rules}
use Rattle.report.specs.PartLaws.{part_fits}
use Rattle.report_batch.specs.TakenLaws.{none_cut, some_whole, plan_behind, rule_missing, plan_missing, both_whole}
use Rattle.report_batch.proofs.entry_sizes.Goals as goal

pub returns-in_err-rule-clause-sizes : goal.returns-in_err-rule-clause-sizes
returns-in_err-rule-clause-sizes c = rw (rule_missing _ (none_cut _ _ c.in_err-rule.ensures.size)) (search rules)

-- the rule's part is whole, and so lies in the bytes
pub slice_bounds-part_size-count : goal.slice_bounds-part_size-count
slice_bounds-part_size-count c = let (t, e) = some_whole _ _ _ c.in_ok-rule.ensures.size in omega (arith, e, part_fits _ t)

pub slice_bounds-part_size-start : goal.slice_bounds-part_size-start
slice_bounds-part_size-start c = let (t, e) = some_whole _ _ _ c.in_ok-rule.ensures.size in omega (arith, e, part_fits _ t)

pub returns-in_err-plan-clause-sizes : goal.returns-in_err-plan-clause-sizes
returns-in_err-plan-clause-sizes c =
    let (t, e) = some_whole _ _ _ c.in_ok-rule.ensures.size in
    rw (plan_missing _ t (none_cut _ _ (rw (plan_behind _ _ e) at c.in_err-plan.ensures.size))) (search rules)

pub returns-clause-sizes : goal.returns-clause-sizes
returns-clause-sizes c =
    let (t, e) = some_whole _ _ _ c.in_ok-rule.ensures.size in
    let (u, f) = some_whole _ _ _ (rw (plan_behind _ _ e) at c.in_ok-plan.ensures.size) in
    rw (both_whole _ t u, e, f) refl
