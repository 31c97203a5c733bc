use Rattle.base.specs.SetsHeld.{sets_in}
use Rattle.fused_group.specs.Joints.{members}
use Rattle.fused_size.specs.SumLaws.{Summing}
use Rattle.fused_size.proofs.rested_by.Given as goal

abbrev pub invariant-loop-i : goal.invariant-loop-i
invariant-loop-i l = Summing (sets_in l.joint.circuit.now.needs) (members l.joint) l.n l.i
