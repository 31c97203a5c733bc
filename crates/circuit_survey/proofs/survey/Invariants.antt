use Rattle.circuit_needed.specs.SurveyLaws.{Surveying}
use Rattle.circuit_survey.proofs.survey.Given as goal

abbrev pub invariant-loop-i : goal.invariant-loop-i
invariant-loop-i l = Surveying l.quads l.ranks l.count l.i l.conditions l.cost
