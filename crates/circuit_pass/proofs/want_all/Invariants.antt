use Rattle.base.specs.SetsHeld.{sets_in}
use Rattle.circuit_needed.specs.PassingLaws.{Wanting}
use Rattle.circuit_pass.proofs.want_all.Given as goal

abbrev pub invariant-loop-g : goal.invariant-loop-g
invariant-loop-g l = Wanting l.wanted (sets_in l.initial.sets) (sets_in l.sets) l.g-index
