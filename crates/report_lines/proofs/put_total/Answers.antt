use native.Mathlib.Omega.{arith}
use Rattle.report.specs.TotalLaws.{length_total, total_fits, total_room, total_put}
use Rattle.report_lines.proofs.put_total.Goals as goal

pub put_front-n-requires : goal.put_front-n-requires
put_front-n-requires c = omega (arith, length_total c.args.sums.accepted c.args.sums.refused c.args.sums.before c.args.sums.after, c.requires)

pub slice_bounds-put_less-count : goal.slice_bounds-put_less-count
slice_bounds-put_less-count c = omega (
  arith,
  total_fits c.args.sums.accepted c.args.sums.refused c.args.sums.before c.args.sums.after c.args.out.now _ _ c.requires c.put_front-n.ensures.counted c.put_front-n.ensures.written,
)

pub slice_bounds-put_less-start : goal.slice_bounds-put_less-start
slice_bounds-put_less-start c = omega (
  arith,
  total_fits c.args.sums.accepted c.args.sums.refused c.args.sums.before c.args.sums.after c.args.out.now _ _ c.requires c.put_front-n.ensures.counted c.put_front-n.ensures.written,
)

pub put_less-k-requires : goal.put_less-k-requires
put_less-k-requires c = total_room c.args.sums.accepted c.args.sums.refused c.args.sums.before c.args.sums.after
    c.args.out.now _ _ c.requires c.put_front-n.ensures.counted c.put_front-n.ensures.written

-- the end of the line is a number of 64 bits, since the buffer's length is
pub overflow_add-out : goal.overflow_add-out
overflow_add-out c = let e = length_total c.args.sums.accepted c.args.sums.refused c.args.sums.before c.args.sums.after in
    record { fits = omega (arith, e, c.put_front-n.ensures.counted, c.put_less-k.ensures.counted) }

pub bounds-out-n : goal.bounds-out-n
bounds-out-n c = omega (
  arith,
  total_fits c.args.sums.accepted c.args.sums.refused c.args.sums.before c.args.sums.after c.args.out.now _ _ c.requires c.put_front-n.ensures.counted c.put_front-n.ensures.written,
  c.put_less-k.ensures.counted,
)

pub overflow_add-result : goal.overflow_add-result
overflow_add-result c = let e = length_total c.args.sums.accepted c.args.sums.refused c.args.sums.before c.args.sums.after in
    record { fits = omega (arith, e, c.put_front-n.ensures.counted, c.put_less-k.ensures.counted) }

pub overflow_add-result-2 : goal.overflow_add-result-2
overflow_add-result-2 c = let e = length_total c.args.sums.accepted c.args.sums.refused c.args.sums.before c.args.sums.after in
    record { fits = omega (arith, e, c.put_front-n.ensures.counted, c.put_less-k.ensures.counted) }

pub returns : goal.returns
returns c = let r = total_put c.args.sums.accepted c.args.sums.refused c.args.sums.before c.args.sums.after c.args.out.now _ _ c.requires c.put_front-n.ensures.counted c.put_front-n.ensures.written
    _ _ c.put_less-k.ensures.counted c.put_less-k.ensures.written in record { counted = r.0; written = r.1 }
