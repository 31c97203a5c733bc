use mathlib.Core.Path.{refl, ap, ◌∙◌}
use native.Mathlib.Omega.{arith}
use Rattle.std.specs.Prelude.{ℕ, ◌+◌, Some}
use Rattle.report.specs.PartLaws.{part_whole}
use Rattle.report_batch.specs.TakenLaws.{unmeasured}
use Rattle.report_batch.proofs.part_size.Goals as goal

pub returns-then-s-lt2-clause-size : goal.returns-then-s-lt2-clause-size
returns-then-s-lt2-clause-size c = rw (unmeasured _ c.if-s-lt2.true) refl

pub returns-clause-size : goal.returns-clause-size
returns-clause-size c = let e = c.from-size.ensures ∙ c.read16.ensures in
    rw (part_whole c.args.s.now c.if-s-lt2.false (omega (arith, e))) (ap (λ (n : ℕ). Some (2 + n)) e)
