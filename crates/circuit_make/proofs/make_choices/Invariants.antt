use Rattle.circuit_make.specs.Holding.{ChosenTo}
use Rattle.circuit_make.proofs.make_choices.Given as goal

abbrev pub invariant-loop-x : goal.invariant-loop-x
invariant-loop-x l = ChosenTo
    l.condition.0 l.first l.second l.assigned l.v l.initial.quads l.initial.present l.count l.x l.n l.quads l.present
