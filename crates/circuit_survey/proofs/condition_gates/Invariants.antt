use Rattle.circuit_needed.specs.GatherLaws.{GatheringConditions}
use Rattle.circuit_survey.proofs.condition_gates.Given as goal

abbrev pub invariant-loop-g : goal.invariant-loop-g
invariant-loop-g l = GatheringConditions l.ranks l.gates l.count l.g l.t
