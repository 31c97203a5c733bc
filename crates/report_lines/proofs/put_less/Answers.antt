use mathlib.Core.List.{List, ◌∷◌}
use Prim.Native.Nat.{ℕ, ◌-◌, ◌≤◌, ◌<◌}
use native.Mathlib.Omega.{arith}
use lib.ListN.{length, length-set}
use Rattle.report.specs.Line.{decimal}
use Rattle.report.specs.Total.{spaced_less}
use Rattle.report.specs.TotalLaws.{less_positive, less_negative, less_room, put_less}
use Rattle.report_lines.proofs.put_less.Goals as goal

-- the buffer has a space, a sign and the digits
room : (before after : ℕ) (out : List ℕ) → length (spaced_less before after) ≤ length out → before < after → length (32 ∷ 45 ∷ decimal (after - before)) ≤ length out
room before after out r h = rw (less_negative before after h) at r

pub put_spaced-requires : goal.put_spaced-requires
put_spaced-requires c = rw (less_positive c.args.before c.args.after c.if-after-before.true) at c.requires

pub returns-then-after-before : goal.returns-then-after-before
returns-then-after-before c = rw (less_positive c.args.before c.args.after c.if-after-before.true) c.put_spaced.ensures

pub bounds-out-0 : goal.bounds-out-0
bounds-out-0 c = omega (arith, room c.args.before c.args.after c.args.out.now c.requires c.if-after-before.false)

pub bounds-out-1 : goal.bounds-out-1
bounds-out-1 c = simp length-set (omega (arith, room c.args.before c.args.after c.args.out.now c.requires c.if-after-before.false))

pub slice_bounds-put_decimal-count : goal.slice_bounds-put_decimal-count
slice_bounds-put_decimal-count c = simp length-set (omega (arith, room c.args.before c.args.after c.args.out.now c.requires c.if-after-before.false))

pub slice_bounds-put_decimal-start : goal.slice_bounds-put_decimal-start
slice_bounds-put_decimal-start c = simp length-set (omega (arith, room c.args.before c.args.after c.args.out.now c.requires c.if-after-before.false))

pub put_decimal-requires : goal.put_decimal-requires
put_decimal-requires c = less_room (c.args.after - c.args.before) _ _ c.args.out.now (omega (arith, room c.args.before c.args.after c.args.out.now c.requires c.if-after-before.false))

pub overflow_add-result : goal.overflow_add-result
overflow_add-result c = record { fits = omega (arith, room c.args.before c.args.after c.args.out.now c.requires c.if-after-before.false, c.put_decimal.ensures.counted, c.well_formed) }

pub returns : goal.returns
returns c =
    let fits = room c.args.before c.args.after c.args.out.now c.requires c.if-after-before.false in
    let r = put_less (c.args.after - c.args.before) _ c.args.out.now _ fits c.put_decimal.ensures.counted c.put_decimal.ensures.written in
    rw (less_negative c.args.before c.args.after c.if-after-before.false) (record { counted = r.0; written = r.1 })
