use Rattle.base.specs.SetsHeld.{sets_in}
use Rattle.fused_gate.specs.Emitted.{wire_by}
use Rattle.fused_group.specs.PartLaws.{none_put, kept_all, kept_none}
use Rattle.fused_group.specs.Joints.{members}
use Rattle.fused_group.proofs.Joint.put_kept.Goals as goal

pub put_guards-requires : goal.put_guards-requires
put_guards-requires c = let j = c.args.self in (
  rw (kept_all j.circuit.now.conditions (wire_by j.wiring) (sets_in j.circuit.now.needs) (members j) c.args.picks _ c.any.ensures c.if-any.true) at c.requires.0,
  c.requires.1,
)

pub returns-then-any : goal.returns-then-any
returns-then-any c = let j = c.args.self in
    rw (kept_all j.circuit.now.conditions (wire_by j.wiring) (sets_in j.circuit.now.needs) (members j) c.args.picks _ c.any.ensures c.if-any.true) c.put_guards.ensures

pub returns-else-any : goal.returns-else-any
returns-else-any c = let j = c.args.self in none_put _ _ (kept_none j.circuit.now.conditions (wire_by j.wiring) (sets_in j.circuit.now.needs) (members j)
    c.args.picks _ c.any.ensures c.if-any.false)
