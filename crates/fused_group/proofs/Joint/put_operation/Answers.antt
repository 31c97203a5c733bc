use Rattle.std.proofs.Common.{◌≡◌, ◌∙◌, refl, Bool, true, false, cond, arith}
use mir.Val.{bool_byte}
use Rattle.fused_group.specs.PartLaws.{one_most, operation_room, operation_put}
use Rattle.fused_group.specs.JoinedLaws.{first_member}
use Rattle.fused_gate.specs.Emitted.{wire_by}
use Rattle.fused_group.proofs.Joint.put_operation.Goals as goal

-- a flag as a number
byte_is : (b : Bool) → bool_byte b ≡ cond b 1 0
byte_is true = refl
byte_is false = refl

pub bounds-self-i : goal.bounds-self-i
bounds-self-i c = omega (arith, (first_member _ _ _ _ _ c.requires.1.0 (c.index-i.ensures ∙ c.member.ensures)).0)

pub overflow_cast-self : goal.overflow_cast-self
overflow_cast-self c = record { fits = omega (arith, (first_member _ _ _ _ _ c.requires.1.0 (c.index-i.ensures ∙ c.member.ensures)).1) }

pub overflow_add-after : goal.overflow_add-after
overflow_add-after c = record { fits = omega (arith, byte_is c.args.picks.first, one_most c.args.picks.first) }

pub put_binary-requires : goal.put_binary-requires
put_binary-requires c = let j = c.args.self in
    operation_room j.circuit.now.quads (wire_by j.wiring) c.args.first.0 j.plan.now j.at c.args.picks _ c.requires.1.0.coded c.requires.0

pub returns : goal.returns
returns c = let j = c.args.self in
    let n = c.from.ensures ∙ c.size.ensures in
    operation_put j.circuit.now.quads (wire_by j.wiring) c.args.first.0 j.plan.now j.at c.args.picks _ _ _ _ _ _ c.requires.1.0.coded
    (c.index-i.ensures ∙ c.member.ensures) (rw n at c.argument_wire-a.ensures) (c.from-2.ensures ∙ byte_is c.args.picks.first) (rw n at c.argument_wire-b.ensures)
    c.put_binary.ensures
