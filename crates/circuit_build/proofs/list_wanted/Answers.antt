use Rattle.std.proofs.Common.{arith}
use Rattle.circuit_build.specs.WantingLaws.{listing_start, listing_working, listing_result, listing_end}
use Rattle.circuit_build.proofs.list_wanted.Goals as goal
use Rattle.circuit_build.proofs.list_wanted.Goals.{then-not-working_at, else-not-working_at}

pub loop-x-preserved : goal.loop-x-preserved
loop-x-preserved c = let i = c.loop-x.invariant in
    let l = rw c.variables-x-end.ensures at c.loop-x-test.true in
    let e = c.working_at.ensures in
    elim c.if-not-working_at.branch [
      | then-not-working_at w ↦ rw w.k-is (listing_result _ _ _ _ _ _ i l e w.if-not-working_at.true)
      | else-not-working_at w ↦ rw w.k-is (listing_working _ _ _ _ _ _ i l e w.if-not-working_at.false)
    ]
