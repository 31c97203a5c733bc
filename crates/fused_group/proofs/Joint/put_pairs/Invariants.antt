use Rattle.std.proofs.Common.{◌*◌}
use Rattle.fused_gate.specs.Emitted.{wire_by}
use Rattle.fused_group.specs.LoopLaws.{PairFilling}
use Rattle.fused_group.proofs.Joint.put_pairs.Given as goal

abbrev pub invariant-loop-i : goal.invariant-loop-i
invariant-loop-i l =
    PairFilling l.self.circuit.now.quads (wire_by l.self.wiring) l.first.0 l.k l.self.plan.now l.self.at l.out l.initial.out (4 * l.i) l.i
