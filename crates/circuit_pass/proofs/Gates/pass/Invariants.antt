use Rattle.base.specs.SetsHeld.{sets_in}
use Rattle.circuit_needed.specs.PassingLaws.{WalkingBack}
use Rattle.circuit_pass.proofs.Gates.pass.Given as goal

abbrev pub invariant-loop-i : goal.invariant-loop-i
invariant-loop-i l = WalkingBack l.self.quads.now l.self.ranks.now (sets_in l.initial.sets) (sets_in l.sets) l.self.count l.i
