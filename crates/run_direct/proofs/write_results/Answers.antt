use native.Mathlib.Omega.{arith}
use Rattle.std.proofs.Common.{refl}
use Rattle.run_direct.specs.WritingLaws.{writing_start, writing_length, writing_working, writing_result, writing_end}
use Rattle.run_direct.proofs.write_results.Goals as goal
use Rattle.run_direct.proofs.write_results.Goals.{then-working_at, else-working_at}

pub loop-x-init : goal.loop-x-init
loop-x-init c = writing_start _ _ _ c.args.rule.kinds c.args.rule.few c.requires

pub loop-x-preserved : goal.loop-x-preserved
loop-x-preserved c = let i = c.loop-x.invariant in
    let l = rw c.variables-x-end.ensures at c.loop-x-test.true in
    let e = c.working_at.ensures in
    elim c.if-working_at.branch [
      | then-working_at w ↦ writing_working _ _ _ _ _ i l _ _ refl _ e w.if-working_at.true w.results-is
      | else-working_at w ↦ writing_result _ _ _ _ _ i l _ _ refl _ e w.if-working_at.false w.results-is
    ]
