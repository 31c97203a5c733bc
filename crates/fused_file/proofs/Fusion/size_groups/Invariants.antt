use Rattle.base.specs.SetsHeld.{sets_in}
use Rattle.fused_file.specs.LoopLaws.{Measuring}
use Rattle.fused_file.proofs.Fusion.size_groups.Given as goal

abbrev pub invariant-loop-i : goal.invariant-loop-i
invariant-loop-i l =
    let f = l.self in
    Measuring f.plan.now f.circuit.now.quads (sets_in f.circuit.now.needs) f.grouping.now.group f.grouping.now.places f.grouping.now.order
    f.grouping.now.groups l.wires l.total l.i
