use Rattle.std.proofs.Common.{◌+◌, ◌≤◌, length, rules}
use Rattle.fused_group.specs.BehindLaws.{front_room, behind_fits, behind_room, behind_all, behind_put}
use Rattle.fused_group.proofs.Joint.put_fused.Goals as goal

pub put_picks-n-requires : goal.put_picks-n-requires
put_picks-n-requires c = (front_room _ _ _ c.requires.0, c.requires.1)

pub slice_bounds-put_operation-count : goal.slice_bounds-put_operation-count
slice_bounds-put_operation-count c = behind_fits _ _ _ c.requires.0 _ _ c.put_picks-n.ensures.counted c.put_picks-n.ensures.written

pub put_operation-requires : goal.put_operation-requires
put_operation-requires c = (behind_room _ _ _ c.requires.0 _ _ c.put_picks-n.ensures.counted c.put_picks-n.ensures.written, c.requires.1)

pub overflow_add-result : goal.overflow_add-result
overflow_add-result c = let z : c.put_picks-n.result + c.put_operation.result ≤ length c.args.out.now = behind_all _ _ _ c.requires.0 _ _
    c.put_picks-n.ensures.counted c.put_picks-n.ensures.written _ c.put_operation.ensures.counted in search rules

pub returns : goal.returns
returns c = behind_put _ _ _ c.requires.0 _ _ c.put_picks-n.ensures.counted c.put_picks-n.ensures.written _ c.put_operation.ensures.counted _
    c.put_operation.ensures.written
