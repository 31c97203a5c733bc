use Rattle.std.proofs.Common.{◌-◌, ◌+◌, ◌*◌, ◌≤◌, length, refl, arith, rules}
use borrow.Rule.Slice.PartMut.{put_mid}
use Rattle.base.specs.SetsHeld.{set_of}
use Rattle.base.specs.SettingListsLaws.{rested_are, rested_lists}
use Rattle.fused_group.specs.GuardLaws.{guard_put, guard_room, guard_fits, guard_last}
use Rattle.fused_gate.specs.Emitted.{wire_by}
use Rattle.fused_group.proofs.Joint.put_guard.Goals as goal

pub put_rested-requires : goal.put_rested-requires
put_rested-requires c = let j = c.args.self in
    let r = c.rested-r.ensures in
    let e = rested_are (set_of c.args.s) c.rested-r.result r.counted r.listed in (
      (rw e (guard_room j.circuit.now.conditions (wire_by j.wiring) (set_of c.args.s) _ _ _ c.requires.0 c.put_short.ensures), c.requires.1),
      rested_lists _ _
          r.counted r.listed,
    )

pub slice_bounds-put_bytes-count : goal.slice_bounds-put_bytes-count
slice_bounds-put_bytes-count c = let j = c.args.self in
    let f = guard_fits j.circuit.now.conditions (wire_by j.wiring) (set_of c.args.s) _ _ _ _ c.rested-r.ensures.counted c.requires.0 c.put_short.ensures
    (rw (rested_are (set_of c.args.s) c.rested-r.result c.rested-r.ensures.counted c.rested-r.ensures.listed) at c.put_rested.ensures) in omega (arith, f)

pub slice_bounds-put_bytes-start : goal.slice_bounds-put_bytes-start
slice_bounds-put_bytes-start c = let j = c.args.self in
    let e = c.put_short.new.out in
    let f = guard_fits j.circuit.now.conditions (wire_by j.wiring) (set_of c.args.s) _ _ _ _ c.rested-r.ensures.counted c.requires.0 c.put_short.ensures
    (rw (rested_are (set_of c.args.s) c.rested-r.result c.rested-r.ensures.counted c.rested-r.ensures.listed) at c.put_rested.ensures) in
    let z : 2 + 2 * c.rested-r.result.count ≤ length (put_mid 2 (length e - 2) e c.put_rested.new.out) = omega (arith, f) in search rules

pub table-requires : goal.table-requires
table-requires c = let r = c.rested-r.ensures in (r.counted, r.chosen)

pub put_bytes-requires : goal.put_bytes-requires
put_bytes-requires c = let j = c.args.self in
    guard_last j.circuit.now.conditions (wire_by j.wiring) (set_of c.args.s) _ _ _ _ c.rested-r.ensures.counted c.requires.0 c.put_short.ensures
    (rw (rested_are (set_of c.args.s) c.rested-r.result c.rested-r.ensures.counted c.rested-r.ensures.listed) at c.put_rested.ensures)

pub returns : goal.returns
returns c = let j = c.args.self in
    guard_put j.circuit.now.conditions (wire_by j.wiring) (set_of c.args.s) _ _ _ _ _ _ _ c.rested-r.ensures.counted refl c.table.ensures c.requires.0 c.put_short.ensures
    (rw (rested_are (set_of c.args.s) c.rested-r.result c.rested-r.ensures.counted c.rested-r.ensures.listed) at c.put_rested.ensures) c.put_bytes.ensures
