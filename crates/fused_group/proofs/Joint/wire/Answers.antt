use Rattle.std.proofs.Common.{refl}
use Rattle.fused_group.specs.LoopLaws.{member_argument}
use Rattle.fused_group.specs.AgreeLaws.{value_at}
use Rattle.fused_gate.specs.Emitted.{wire_by}
use Rattle.fused_group.proofs.Joint.wire.Goals as goal

pub of-requires : goal.of-requires
of-requires c = rw c.argument.ensures (member_argument _ _ _ _ _ _ _ c.requires.0 refl c.requires.1).1

pub returns : goal.returns
returns c = let j = c.args.self in
    value_at j.circuit.now.quads (wire_by j.wiring) c.args.k j.plan.now j.at _ _ _ c.requires.1 refl (rw c.argument.ensures at c.of.ensures)
