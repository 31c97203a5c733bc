use Rattle.fused_gate.specs.Emitted.{wire_by}
use Rattle.fused_group.specs.PartLaws.{none_put, place_none, place_room, place_put}
use Rattle.fused_group.proofs.Joint.put_place.Goals as goal

pub put_pick-requires : goal.put_pick-requires
put_pick-requires c = let j = c.args.self in
    (place_room j.circuit.now.quads (wire_by j.wiring) c.args.first.0 c.args.k j.plan.now j.at c.args.picked c.if-picked.true _ c.requires.0, c.requires.1)

pub returns-then-picked : goal.returns-then-picked
returns-then-picked c = let j = c.args.self in place_put j.circuit.now.quads (wire_by j.wiring) c.args.first.0 c.args.k j.plan.now j.at c.args.picked
    c.if-picked.true _ _ _ c.put_pick.ensures.counted c.put_pick.ensures.written

pub returns-else-picked : goal.returns-else-picked
returns-else-picked c = let j = c.args.self in none_put _ _ (place_none j.circuit.now.quads (wire_by j.wiring) c.args.first.0 c.args.k j.plan.now j.at c.args.picked
    c.if-picked.false)
