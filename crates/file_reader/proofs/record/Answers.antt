use Rattle.std.proofs.Common.{rules, ◌+◌, ◌≤◌, length, arith}
use Rattle.file.specs.ReadLaws.{part_inside}
use Rattle.file_reader.proofs.record.Goals as goal

pub overflow_add-end : goal.overflow_add-end
overflow_add-end c = let p = c.part_of-start in
    let h : p.result.start + p.result.length ≤ length c.args.file.now =
    omega (arith, part_inside c.args.file.now c.args.wire.0, p.ensures.start, p.ensures.length) in
    search rules

pub slice_bounds-result-end : goal.slice_bounds-result-end
slice_bounds-result-end c = omega (arith, part_inside c.args.file.now c.args.wire.0, c.part_of-start.ensures.start, c.part_of-start.ensures.length)
