use mathlib.Core.Path.{ap, ◌∙◌}
use mathlib.Core.List.{List}
use Prim.Native.Nat.{ℕ, ◌≤◌}
use native.Mathlib.Omega.{arith}
use lib.ListN.{length, set, length-set}
use borrow.Author.Rules.{rules}
use Rattle.base.specs.BufferLaws.{length_over}
use Rattle.report.specs.Line.{spaced}
use Rattle.report.specs.LineLaws.{length_spaced}
use Rattle.report.specs.PutLaws.{behind_room, put_behind}
use Rattle.report_lines.proofs.put_spaced.Goals as goal

pub bounds-out-0 : goal.bounds-out-0
bounds-out-0 c = omega (arith, length_spaced c.args.n, c.requires)

pub slice_bounds-put_decimal-count : goal.slice_bounds-put_decimal-count
slice_bounds-put_decimal-count c = simp length-set (omega (arith, length_spaced c.args.n, c.requires))

pub slice_bounds-put_decimal-start : goal.slice_bounds-put_decimal-start
slice_bounds-put_decimal-start c = let z : 1 ≤ length (set c.args.out.now 0 32) = simp length-set (omega (arith, length_spaced c.args.n, c.requires)) in
    search rules

pub put_decimal-requires : goal.put_decimal-requires
put_decimal-requires c = behind_room c.args.n c.args.out.now c.requires

pub overflow_add-result : goal.overflow_add-result
overflow_add-result c = record { fits = omega (arith, length_spaced c.args.n, c.requires, c.put_decimal.ensures.counted, c.well_formed) }

pub shape_of-out : goal.shape_of-out
shape_of-out c = let put = put_behind c.args.n _ c.args.out.now _ c.requires c.put_decimal.ensures.counted c.put_decimal.ensures.written in
    ap (λ (l : List ℕ). length l) put.1 ∙ length_over (spaced c.args.n) c.args.out.now c.requires

pub returns : goal.returns
returns c = let r = put_behind _ _ _ _ c.requires c.put_decimal.ensures.counted c.put_decimal.ensures.written in record { counted = r.0; written = r.1 }
