use Rattle.std.proofs.Common.{◌≡◌, sym, ◌∙◌}
use Rattle.base.specs.SetsHeld.{sets_in}
use Rattle.fused_gate.specs.Emitted.{wire_in}
use Rattle.fused_group.specs.JoinedLaws.{emit_count}
use Rattle.fused_file.specs.TurnLaws.{joined_many}
use Rattle.fused_file.specs.Fusions.{place_for}
use Rattle.fused_file.proofs.Fusion.put_group.Goals as goal

pub returns-clause-wired : goal.returns-clause-wired
returns-clause-wired c = let a = c.args in
    let f = a.self in
    let e = c.in-Some.ensures in
    let n : place_for f a.q.0 ≡ 0 → ⊥ = λ z. e.1 (e.0 ∙ z) in
    joined_many f.plan.now f.circuit.now.quads f.circuit.now.count (sets_in f.circuit.now.needs) (wire_in f.grouping.now.group a.wires.now)
    (place_for f a.q.0) a.q.0 a.first.0 n _
    (rw e.0 at c.records.ensures
    ∙ sym (emit_count f.circuit.now.quads f.circuit.now.count (sets_in f.circuit.now.needs) f.circuit.now.conditions f.grouping.now.group
    (wire_in f.grouping.now.group a.wires.now) a.first.0 f.plan.now (place_for f a.q.0) c.picks-picks.result (c.requires.1.1.joins n)
    (rw e.0 at c.picks-picks.ensures)))
