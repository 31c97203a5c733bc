use Rattle.std.proofs.Common.{ap, ℕ, ◌+◌, ◌*◌, arith}
use Rattle.fused_gate.specs.Emitted.{wire_by}
use Rattle.fused_group.specs.LoopLaws.{pairs_count}
use Rattle.fused_group.specs.GuardLaws.{pick_put}
use Rattle.fused_group.specs.Joints.{pairs_for}
use Rattle.fused_group.proofs.Joint.put_pick.Goals as goal

pub size-size-requires : goal.size-size-requires
size-size-requires c = omega (arith, c.requires.1.0.lies.within)

pub returns : goal.returns
returns c = let j = c.args.self in record {
  counted = ap (λ (n : ℕ). 2 + 4 * n) c.size-size.ensures;
  written = pick_put (pairs_for j c.args.first.0 c.args.k) _ _ _ _ (pairs_count j.circuit.now.quads (wire_by j.wiring) c.args.first.0 c.args.k j.plan.now j.at)
      c.requires.0 (rw c.size-size.ensures at c.put_short.ensures) c.put_pairs.ensures;
}
