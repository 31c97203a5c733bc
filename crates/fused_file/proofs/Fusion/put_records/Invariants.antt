use Rattle.base.specs.SetsHeld.{sets_in}
use Rattle.fused_file.specs.LoopLaws.{PuttingGroups}
use Rattle.fused_file.proofs.Fusion.put_records.Given as goal

abbrev pub invariant-loop-i : goal.invariant-loop-i
invariant-loop-i l =
    let f = l.self in
    PuttingGroups f.plan.now f.circuit.now.quads f.circuit.now.count (sets_in f.circuit.now.needs) f.grouping.now.group f.grouping.now.places
    f.grouping.now.order f.grouping.now.groups l.out l.initial.out l.wires l.at l.first.0 l.i
