use mathlib.Core.Path.{sym, ap, ◌∙◌}
use borrow.Author.Rules.{rules}
use Rattle.report_batch.specs.TakenLaws.{last_line, total_last, missing_last}
use Rattle.report.specs.Steps.{ending}
use Rattle.report_batch.proofs.finish.Goals as goal
use Rattle.report_batch.proofs.finish.Goals.{in_default-via-in-Entries+in_default, in_default-via-in_default}

pub returns-in-Entries-eq0-default : goal.returns-in-Entries-eq0-default
returns-in-Entries-eq0-default c = let n = c.in-Entries-eq0-default in
    let r = last_line c.args.progress _ _ _ _ (ap ending n.is ∙ total_last _ _ (sym n.field-0-is ∙ n.field-0-test)) (c.write_total.ensures.counted, c.write_total.ensures.written) in
    record { counted = r.0; written = r.1 }

pub returns-in_default : goal.returns-in_default
unfolding ending
returns-in_default c =
    let answer = rw c.at.ensures at c.from.ensures in
    let line = rw answer at c.write_line.ensures in
    elim c.in_default.branch [
      | in_default-via-in-Entries+in_default w ↦
          let n = w.in_default in
          let r = last_line c.args.progress _ _ _ _ (ap ending n.is ∙ missing_last _ _ (λ z. n.field-0-test.1 (n.field-0-is ∙ z))) (line.counted, line.written) in
          record { counted = r.0; written = r.1 }
      | in_default-via-in_default w ↦ let h = w.in_default in search rules
    ]
