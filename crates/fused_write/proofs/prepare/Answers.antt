use Rattle.std.proofs.Common.{arith}
use Rattle.base.proofs.PassedLaws.{passed_answer}
use Rattle.fused_write.specs.PreparedLaws.{rule_long, refused_prepared, check_taken, check_gates, check_before, arrays_turnable, bytes_few, counts_are}
use Rattle.fused_write.proofs.prepare.Goals as goal

pub returns-in_err-counts : goal.returns-in_err-counts
returns-in_err-counts c = record {
  answered = passed_answer _ _ c.from_residual.ensures.1 (refused_prepared _ _ _ c.in_err-counts.ensures.answer);
  handed =
      c.in_err-counts.ensures.handed;
}

pub bounds-rule-5 : goal.bounds-rule-5
bounds-rule-5 c = rule_long _ c.args.plan.now (check_taken _ _ _ c.in_ok-counts.ensures.answer)

pub measure-size-requires : goal.measure-size-requires
measure-size-requires c = record {
  count = _;
  conds = _;
  turnable = arrays_turnable _ _ (check_taken _ _ _ c.in_ok-counts.ensures.answer) _ _
      c.in_ok-counts.ensures.handed (λ i _. omega (arith, c.type_inv.rule i));
}

pub overflow_add-result : goal.overflow_add-result
overflow_add-result c = omega (
  arith,
  bytes_few _ _ (check_taken _ _ _ c.in_ok-counts.ensures.answer) _ _ c.in_ok-counts.ensures.handed _ (c.measure-size.ensures _
      _ (arrays_turnable _ _ (check_taken _ _ _ c.in_ok-counts.ensures.answer) _ _ c.in_ok-counts.ensures.handed (λ i _. omega (arith, c.type_inv.rule i)))),
)

pub overflow_add-result-2 : goal.overflow_add-result-2
overflow_add-result-2 c = omega (
  arith,
  bytes_few _ _ (check_taken _ _ _ c.in_ok-counts.ensures.answer) _ _ c.in_ok-counts.ensures.handed _ (c.measure-size.ensures
      _ _ (arrays_turnable _ _ (check_taken _ _ _ c.in_ok-counts.ensures.answer) _ _ c.in_ok-counts.ensures.handed (λ i _. omega (arith, c.type_inv.rule i)))),
  c.type_inv.rule 5,
)

pub returns : goal.returns
returns c = let t = check_taken _ _ _ c.in_ok-counts.ensures.answer in record {
  answered = rw c.from.ensures (counts_are _ _ (check_taken _ _ _ c.in_ok-counts.ensures.answer) _ _ c.in_ok-counts.ensures.handed _ (c.measure-size.ensures _ _
      (arrays_turnable _ _ (check_taken _ _ _ c.in_ok-counts.ensures.answer) _ _ c.in_ok-counts.ensures.handed (λ i _. omega (arith, c.type_inv.rule i)))) _ _
      (check_gates _ _ _ c.in_ok-counts.ensures.answer) (check_before _ _ _ c.in_ok-counts.ensures.answer));
  handed = c.in_ok-counts.ensures.handed;
}
