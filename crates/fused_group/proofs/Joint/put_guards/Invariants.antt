use Rattle.base.specs.SetsHeld.{sets_in}
use Rattle.fused_gate.specs.Emitted.{wire_by}
use Rattle.fused_group.specs.LoopLaws.{GuardFilling}
use Rattle.fused_group.proofs.Joint.put_guards.Given as goal

abbrev pub invariant-loop-i : goal.invariant-loop-i
invariant-loop-i l =
    GuardFilling l.self.circuit.now.conditions (wire_by l.self.wiring) (sets_in l.self.circuit.now.needs) l.self.plan.now l.self.at l.out l.initial.out l.n l.i
