use native.Mathlib.Omega.{arith}
use mathlib.Core.Path.{refl}
use Rattle.circuit_needed.specs.SurveyLaws.{survey_start, survey_bit, survey_inside, survey_few, survey_room, survey_choice, survey_other, survey_end}
use Rattle.circuit_survey.proofs.survey.Goals as goal
use Rattle.circuit_survey.proofs.survey.Goals.{then-code-eq-CHOICE, else-code-eq-CHOICE}

pub loop-i-init : goal.loop-i-init
loop-i-init c = survey_start _ _ _ c.requires

pub argument-c-requires : goal.argument-c-requires
argument-c-requires c = (
  omega (arith, c.loop-i.invariant.marking.room, c.loop-i-test.true),
  survey_inside _ _ _ _ _ _ c.loop-i.invariant c.loop-i-test.true _ c.if-code-eq-CHOICE.true refl,
)

pub bounds-ranks-at : goal.bounds-ranks-at
bounds-ranks-at c = rw c.index-at.ensures (survey_inside _ _ _ _ _ _ c.loop-i.invariant c.loop-i-test.true _ c.if-code-eq-CHOICE.true
    c.argument-c.ensures)

pub overflow_sub-conditions : goal.overflow_sub-conditions
overflow_sub-conditions c = survey_bit _ _ _ _ _ _ c.loop-i.invariant c.loop-i-test.true _

pub overflow_add-conditions : goal.overflow_add-conditions
overflow_add-conditions c = record { fits = omega (arith, survey_few _ _ _ _ _ _ c.loop-i.invariant c.loop-i-test.true) }

pub bounds-ranks-at-then-code-eq-CHOICE : goal.bounds-ranks-at-then-code-eq-CHOICE
bounds-ranks-at-then-code-eq-CHOICE c = rw c.index-at.ensures (survey_inside _ _ _ _ _ _ c.loop-i.invariant c.loop-i-test.true _
    c.if-code-eq-CHOICE.true c.argument-c.ensures)

pub overflow_add-cost : goal.overflow_add-cost
overflow_add-cost c = record { fits = omega (arith, survey_room _ _ _ _ _ _ c.loop-i.invariant c.loop-i-test.true _ c.listed_cost-cost.ensures) }

pub loop-i-preserved : goal.loop-i-preserved
loop-i-preserved c = let l = c.loop-i in
    let t = c.loop-i-test.true in
    elim c.if-code-eq-CHOICE.branch [
      | then-code-eq-CHOICE w ↦ survey_choice _ _ _ _ _ _ l.invariant t _ _ _ _ w.if-code-eq-CHOICE.true
          w.argument-c.ensures (rw w.index-at.ensures at w.ranks-is) (rw w.index-at.ensures at w.conditions-is) c.listed_cost-cost.ensures
      | else-code-eq-CHOICE w ↦ survey_other _ _ _ _ _ _ l.invariant t _ _ _ w.if-code-eq-CHOICE.false w.ranks-is w.conditions-is c.listed_cost-cost.ensures
    ]

pub returns : goal.returns
returns c = let r = survey_end _ _ _ _ _ _ c.loop-i.invariant c.loop-i-test.false in record { counted = r.0; cost = r.1.0; marked = r.1.1 }
