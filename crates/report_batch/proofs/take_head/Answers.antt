use mathlib.Core.Path.{◌≡◌, sym, ap, ◌∙◌}
use mathlib.Core.Logic.{inl, inr}
use Prim.Native.Nat.{ℕ}
use native.Mathlib.Omega.{arith}
use borrow.Author.Rules.{rules}
use borrow.Author.Tests.{le-leb, lt-leb}
use Rattle.report.specs.declared.Taken.{Taken}
use Rattle.report.specs.declared.Progress.TheVariants.{Head, Entries}
use Rattle.report.specs.Batch.{head_bytes, no_sums}
use Rattle.report.specs.Steps.{quiet}
use Rattle.report.specs.StepLaws.{head_short, head_wrong, head_past}
use Rattle.report_batch.specs.TakenLaws.{quiet_took, same_nears, stop_nears}
use Rattle.report.specs.Bounds.{most_wanted}
use Rattle.report_batch.proofs.take_head.Goals as goal

pub returns-then-s-lt-HEAD : goal.returns-then-s-lt-HEAD
returns-then-s-lt-HEAD c = record {
  done = quiet_took _ _ _ _ (head_short _ (lt-leb _ _ c.if-s-lt-HEAD.true)) c.quiet.ensures;
  kept = (rw c.quiet.ensures tt, same_nears _ _ c.quiet.ensures);
  few = λ z. inr (omega (arith, c.if-s-lt-HEAD.true));
}

pub returns-then-not-marked : goal.returns-then-not-marked
returns-then-not-marked c = record {
  done = quiet_took _ _ _ _ (head_wrong _ (le-leb _ _ c.if-s-lt-HEAD.false) (sym c.marked.ensures ∙ c.if-not-marked.true))
      c.quiet-then-not-marked.ensures;
  kept = (rw c.quiet-then-not-marked.ensures tt, stop_nears Head _ c.quiet-then-not-marked.ensures);
  few = λ z. inl (ap (λ (r : Taken). r.progress) c.quiet-then-not-marked.ensures);
}

pub returns : goal.returns
unfolding most_wanted
returns c =
    let s = c.args.s.now in
    let e = c.from-count.ensures ∙ c.read16.ensures in
    let none : c.default.result ≡ no_sums = search rules in
    let q = rw none at c.quiet-2.ensures in
    let past = head_past s (le-leb _ _ c.if-s-lt-HEAD.false) (sym c.marked.ensures ∙ c.if-not-marked.false) in
    record {
      done = quiet_took _ _ _ _ (past ∙ ap (λ (n : ℕ). quiet (Entries n no_sums) head_bytes) (sym e)) q;
      kept = rw q ((omega (arith, c.from-count.ensures), omega arith, omega arith), (omega (arith, c.from-count.ensures), λ z. omega (arith, c.from-count.ensures)));
      few = rw q (λ z. absurd (omega (arith, z)));
    }
