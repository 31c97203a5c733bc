use Rattle.std.proofs.Common.{◌*◌, ◌≤◌, length, arith, rules}
use Rattle.base.specs.FillLaws.{filling_same}
use Rattle.fused_file.specs.Fusions.{output_by}
use Rattle.fused_file.specs.OutputLaws.{outputs_start, outputs_fits, outputs_room, outputs_step, outputs_end}
use Rattle.fused_file.proofs.put_outputs.Goals as goal

pub loop-x-init : goal.loop-x-init
loop-x-init c = outputs_start (output_by c.args.rule.bytes.now c.args.outputs.now c.args.wiring) _ _ c.requires.1

pub output_of-w-requires : goal.output_of-w-requires
output_of-w-requires c = let l = rw c.variables-x-end.ensures at c.loop-x-test.true in (l, c.requires.0.placed _ l)

pub slice_bounds-put16-count : goal.slice_bounds-put16-count
slice_bounds-put16-count c = omega (
  arith,
  outputs_fits (output_by c.args.rule.bytes.now c.args.outputs.now c.args.wiring) _ _ _ _ c.loop-x.invariant (rw c.variables-x-end.ensures at c.loop-x-test.true) _
      c.from.ensures,
)

pub slice_bounds-put16-start : goal.slice_bounds-put16-start
slice_bounds-put16-start c = let z : 2 * c.from.result ≤ length c.loop-x.out = omega (
  arith,
  outputs_fits (output_by c.args.rule.bytes.now c.args.outputs.now
      c.args.wiring) _ _ _ _ c.loop-x.invariant (rw c.variables-x-end.ensures at c.loop-x-test.true) _ c.from.ensures,
) in search rules

pub put16-requires : goal.put16-requires
put16-requires c = outputs_room (output_by c.args.rule.bytes.now c.args.outputs.now c.args.wiring) _ _ _ _ c.loop-x.invariant (rw c.variables-x-end.ensures at c.loop-x-test.true) _ c.from.ensures

pub loop-x-preserved : goal.loop-x-preserved
loop-x-preserved c = outputs_step (output_by c.args.rule.bytes.now c.args.outputs.now c.args.wiring) _ _ _ _ c.loop-x.invariant
    (rw c.variables-x-end.ensures at c.loop-x-test.true) _ c.from.ensures _ _
    c.output_of-w.ensures c.put16.ensures

pub shape_of-out : goal.shape_of-out
shape_of-out c = filling_same _ _ _ _ _ _ c.loop-x.invariant (rw c.variables-x-end.ensures at c.loop-x-test.false)

pub returns : goal.returns
returns c = outputs_end (output_by c.args.rule.bytes.now c.args.outputs.now c.args.wiring) _ _ _ _ c.loop-x.invariant (rw c.variables-x-end.ensures at c.loop-x-test.false)
