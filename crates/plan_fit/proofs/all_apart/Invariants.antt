use Rattle.base.specs.SetsHeld.{set_of, sets_in}
use Rattle.plan_groups.specs.WalkLaws.{Parting}
use Rattle.plan_fit.proofs.all_apart.Given as goal

abbrev pub invariant-loop-k : goal.invariant-loop-k
invariant-loop-k l = Parting (sets_in l.circuit.needs) l.circuit.count l.plan l.at (set_of l.seen) l.k
