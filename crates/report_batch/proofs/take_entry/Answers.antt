use mathlib.Core.Path.{sym, ap, subst, ◌∙◌}
use native.Mathlib.Omega.{arith}
use Prim.Native.Nat.{ℕ, ◌+◌}
use Rattle.report.specs.LineLaws.{length_line_of}
use Rattle.report.specs.Bounds.{Costs}
use Rattle.report.specs.BoundLaws.{entry_costs}
use Rattle.report_batch.specs.TakenLaws.{none_cut, some_whole, quiet_took, quiet_does, entry_waits, one_sized, entry_does, entry_kept}
use Rattle.report_batch.proofs.take_entry.Goals as goal

pub returns-in_default-clause-done : goal.returns-in_default-clause-done
returns-in_default-clause-done c = let cut = none_cut _ _ (sym c.in_default.is ∙ c.entry_sizes.ensures.sizes) in
    quiet_does _ _ _ (quiet_took _ _ _ _ (entry_waits _ _ _ c.requires.0.1 cut) c.quiet.ensures)

pub answer_entry-answer-requires : goal.answer_entry-answer-requires
answer_entry-answer-requires c = let (whole, e) = some_whole _ _ _ c.in-Some.ensures.sizes in
    record { whole = whole; parts = (ap (λ (p : ℕ × ℕ). p.0) e, ap (λ (p : ℕ × ℕ). p.1) e) }

pub add-requires : goal.add-requires
add-requires c = (one_sized _ _ c.requires.0.0 c.requires.0.1, subst Costs (sym c.answer_entry-answer.ensures) (entry_costs _))

-- the fields of an answer are numbers of 64 bits, and one of 8, so its line has room
pub returns-clause-done : goal.returns-clause-done
returns-clause-done c =
    let line = length_line_of c.answer_entry-answer.result (omega arith, (omega arith, tt)) (omega arith, (omega arith, (omega arith, (omega arith, tt)))) in
    let (whole, e) = some_whole _ _ _ c.in-Some.ensures.sizes in
    entry_does _ _ _ _ _ _ _ c.requires.0.1 whole (ap (λ (p : ℕ × ℕ). p.0 + p.1) e) c.answer_entry-answer.ensures _ _ c.add.ensures
    (omega (arith, c.requires.1, line)) (c.write_line-printed.ensures.counted, c.write_line-printed.ensures.written)

pub returns-clause-kept : goal.returns-clause-kept
returns-clause-kept c =
    let (whole, e) = some_whole _ _ _ c.in-Some.ensures.sizes in
    entry_kept _ _ _ _ _ _ c.write_line-printed.result c.requires.0.1 whole (ap (λ (p : ℕ × ℕ). p.0 + p.1) e) c.answer_entry-answer.ensures c.requires.0.0
    c.add.ensures c.in-Some.ensures.small
