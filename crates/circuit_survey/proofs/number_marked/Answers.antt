use native.Mathlib.Omega.{arith}
use Rattle.circuit_needed.specs.RankLaws.{numbering_start, numbering_fits, numbering_one, numbering_none}
use Rattle.circuit_survey.proofs.number_marked.Goals as goal
use Rattle.circuit_survey.proofs.number_marked.Goals.{then-ranks-g-ne0, else-ranks-g-ne0}

pub loop-g-init : goal.loop-g-init
loop-g-init c = numbering_start _ _ c.requires

pub overflow_add-t : goal.overflow_add-t
overflow_add-t c = record { fits = omega (arith, numbering_fits _ _ _ _ _ c.loop-g.invariant) }

pub loop-g-preserved : goal.loop-g-preserved
loop-g-preserved c = let l = c.loop-g in
    let t = c.loop-g-test.true in
    elim c.if-ranks-g-ne0.branch [
      | then-ranks-g-ne0 w ↦ numbering_one _ _ _ _ _ _ _ l.invariant t w.if-ranks-g-ne0.true w.ranks-is w.t-is
      | else-ranks-g-ne0 w ↦ numbering_none _ _ _ _ _ _ _ l.invariant t w.if-ranks-g-ne0.false w.ranks-is w.t-is
    ]
