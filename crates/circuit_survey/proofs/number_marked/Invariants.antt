use Rattle.circuit_needed.specs.RankLaws.{Numbering}
use Rattle.circuit_survey.proofs.number_marked.Given as goal

abbrev pub invariant-loop-g : goal.invariant-loop-g
invariant-loop-g l = Numbering l.initial.ranks l.ranks l.count l.g l.t
