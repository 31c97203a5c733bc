use Rattle.std.proofs.Common.{◌<◌, ◌∙◌, arith, rules}
use Rattle.base.specs.SetsHeld.{sets_in}
use Rattle.fused_gate.specs.Emitted.{wire_by}
use Rattle.fused_size.specs.Sizes.{one_of}
use Rattle.fused_size.specs.JoinedSizes.{joined_first, kept_small, place_small, sums_fit, joined_sized}
use Rattle.fused_size.proofs.size_joined.Goals as goal

pub bounds-joint-index : goal.bounds-joint-index
bounds-joint-index c = omega (arith, (joined_first _ _ _ _ _ c.requires (c.index.ensures ∙ c.member.ensures)).0)

pub overflow_cast-code : goal.overflow_cast-code
overflow_cast-code c = record { fits = omega (arith, (joined_first _ _ _ _ _ c.requires (c.index.ensures ∙ c.member.ensures)).1) }

pub add-requires : goal.add-requires
add-requires c = let j = c.args.joint in
    let s = sums_fit _ _ _ (one_of 5 c.code_of.result.cost) (kept_small (sets_in j.circuit.now.needs) j.plan.now j.at c.picks-picks.result _ (omega (
      arith,
      c.size-size.ensures,
      c.size-size.type_inv,
    )) c.size_kept-kept.ensures)
    (place_small _ _ _ (omega (arith, c.size-size.ensures, c.size-size.type_inv)) c.size_place-first.ensures)
    (place_small _ _ _ (omega (arith, c.size-size.ensures, c.size-size.type_inv)) c.size_place-second.ensures)
    (let o : c.code_of.result.cost < 65536 = search rules in (omega arith, (omega arith, omega (arith, o)))) in
    s.0

pub add-requires-2 : goal.add-requires-2
add-requires-2 c = let j = c.args.joint in
    let s = sums_fit _ _ _ (one_of 5 c.code_of.result.cost) (kept_small (sets_in j.circuit.now.needs) j.plan.now j.at c.picks-picks.result _ (omega (
      arith,
      c.size-size.ensures,
      c.size-size.type_inv,
    )) c.size_kept-kept.ensures)
    (place_small _ _ _ (omega (arith, c.size-size.ensures, c.size-size.type_inv)) c.size_place-first.ensures)
    (place_small _ _ _ (omega (arith, c.size-size.ensures, c.size-size.type_inv)) c.size_place-second.ensures)
    (let o : c.code_of.result.cost < 65536 = search rules in (omega arith, (omega arith, omega (arith, o)))) in
    rw c.add.ensures s.1.0

pub add-requires-3 : goal.add-requires-3
add-requires-3 c = let j = c.args.joint in
    let s = sums_fit _ _ _ (one_of 5 c.code_of.result.cost) (kept_small (sets_in j.circuit.now.needs) j.plan.now j.at c.picks-picks.result _ (omega (
      arith,
      c.size-size.ensures,
      c.size-size.type_inv,
    )) c.size_kept-kept.ensures)
    (place_small _ _ _ (omega (arith, c.size-size.ensures, c.size-size.type_inv)) c.size_place-first.ensures)
    (place_small _ _ _ (omega (arith, c.size-size.ensures, c.size-size.type_inv)) c.size_place-second.ensures)
    (let o : c.code_of.result.cost < 65536 = search rules in (omega arith, (omega arith, omega (arith, o)))) in
    rw (c.add-2.ensures, c.add.ensures, c.one-operation.ensures) s.1.1

pub returns : goal.returns
returns c = let j = c.args.joint in
    rw (c.add-3.ensures, c.add-2.ensures, c.add.ensures, c.one-operation.ensures)
    (joined_sized j.circuit.now.quads (sets_in j.circuit.now.needs) j.plan.now j.wiring.group.now (wire_by j.wiring) j.at _ _ _ _ _ _ c.requires
    c.picks-picks.ensures (c.index.ensures ∙ c.member.ensures) c.code_of.ensures c.size_kept-kept.ensures
    (rw c.size-size.ensures at c.size_place-first.ensures) (rw c.size-size.ensures at c.size_place-second.ensures))
