use native.Mathlib.Omega.{arith}
use Rattle.report.specs.PartLaws.{entry_fits}
use Rattle.report_batch.specs.TakenLaws.{answer_lent}
use Rattle.report_batch.proofs.answer_entry.Goals as goal

pub slice_bounds-count-end : goal.slice_bounds-count-end
slice_bounds-count-end c = omega (arith, entry_fits _ c.requires.whole, c.requires.parts)

pub overflow_add-rule-2 : goal.overflow_add-rule-2
overflow_add-rule-2 c = record { fits = omega (arith, entry_fits _ c.requires.whole, c.requires.parts, c.well_formed) }

pub slice_bounds-count-end-2 : goal.slice_bounds-count-end-2
slice_bounds-count-end-2 c = omega (arith, entry_fits _ c.requires.whole, c.requires.parts)

pub returns : goal.returns
returns c = answer_lent _ _ _ _ c.requires.parts.0 c.requires.parts.1 c.count.ensures
