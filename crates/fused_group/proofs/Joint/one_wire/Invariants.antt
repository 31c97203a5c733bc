use Rattle.fused_gate.specs.Emitted.{wire_by}
use Rattle.fused_group.specs.AgreeLaws.{Agreeing}
use Rattle.fused_group.proofs.Joint.one_wire.Given as goal

abbrev pub invariant-loop-i : goal.invariant-loop-i
invariant-loop-i l = Agreeing l.self.circuit.now.quads (wire_by l.self.wiring) l.k l.self.plan.now l.self.at l.common.0 l.i
