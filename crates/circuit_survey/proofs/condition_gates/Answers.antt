use native.Mathlib.Omega.{arith}
use Rattle.circuit_needed.specs.GatherLaws.{gathering_start, gathering_fits, gathering_one, gathering_none}
use Rattle.circuit_survey.proofs.condition_gates.Goals as goal
use Rattle.circuit_survey.proofs.condition_gates.Goals.{then-ranks-g-ne0, else-ranks-g-ne0}

pub loop-g-init : goal.loop-g-init
loop-g-init c = gathering_start _ _ _ c.requires

pub bounds-gates-t : goal.bounds-gates-t
bounds-gates-t c = gathering_fits _ _ _ _ _ c.loop-g.invariant c.loop-g-test.true c.if-ranks-g-ne0.true

pub offset_bounds-gates-t : goal.offset_bounds-gates-t
offset_bounds-gates-t c =
    let r = gathering_fits _ _ _ _ _ c.loop-g.invariant c.loop-g-test.true c.if-ranks-g-ne0.true in
    record { fits = omega (arith, r) }

pub overflow_add-t : goal.overflow_add-t
overflow_add-t c =
    let r = gathering_fits _ _ _ _ _ c.loop-g.invariant c.loop-g-test.true c.if-ranks-g-ne0.true in
    record { fits = omega (arith, r) }

pub loop-g-preserved : goal.loop-g-preserved
loop-g-preserved c = let i = c.loop-g.invariant in
    let l = c.loop-g-test.true in
    elim c.if-ranks-g-ne0.branch [
      | then-ranks-g-ne0 w ↦ gathering_one _ _ _ _ _ _ _ i l w.if-ranks-g-ne0.true w.gates-is w.t-is
      | else-ranks-g-ne0 w ↦ gathering_none _ _ _ _ _ _ _ i l w.if-ranks-g-ne0.false w.gates-is w.t-is
    ]
