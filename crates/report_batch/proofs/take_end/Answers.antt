use mathlib.Core.Path.{◌≡◌, sym, ap, ◌∙◌}
use mathlib.Core.Logic.{inl, inr}
use native.Mathlib.Omega.{arith}
use borrow.Author.Tests.{eqb-true, eqb-false}
use lib.ListN.{length}
use Rattle.report.specs.declared.Taken.{Taken}
use Rattle.report.specs.declared.Progress.TheVariants.{Entries}
use Rattle.report_batch.specs.TakenLaws.{end_none, end_left, quiet_took, same_nears, stop_nears}
use Rattle.report_batch.proofs.take_end.Goals as goal

pub returns-then-is_empty : goal.returns-then-is_empty
returns-then-is_empty c =
    let z : length c.args.s.now ≡ 0 = eqb-true _ _ (sym c.is_empty.ensures ∙ c.if-is_empty.true) in
    record {
      done = quiet_took _ _ _ _ (end_none _ _ z) c.quiet.ensures;
      kept = (rw c.quiet.ensures c.requires, same_nears _ _ c.quiet.ensures);
      few = λ t. inr (omega (arith, z));
    }

pub returns : goal.returns
returns c = record {
  done = quiet_took _ _ _ _ (end_left _ _ (eqb-false _ _ (sym c.is_empty.ensures ∙ c.if-is_empty.false))) c.quiet-2.ensures;
  kept = (rw c.quiet-2.ensures tt, stop_nears (Entries 0 c.args.sums) _ c.quiet-2.ensures);
  few = λ z. inl (ap (λ (r : Taken). r.progress) c.quiet-2.ensures);
}
