use Rattle.std.proofs.Common.{◌+◌, ◌≤◌, length, rules}
use Rattle.fused_group.specs.BehindLaws.{front_room, behind_fits, behind_room, behind_all, behind_put}
use Rattle.fused_group.proofs.Joint.put_picks.Goals as goal

pub put_place-n-requires : goal.put_place-n-requires
put_place-n-requires c = (front_room _ _ _ c.requires.0, (c.requires.1.0.zero_paired, c.requires.1.1))

pub slice_bounds-put_place-count : goal.slice_bounds-put_place-count
slice_bounds-put_place-count c = behind_fits _ _ _ c.requires.0 _ _ c.put_place-n.ensures.counted c.put_place-n.ensures.written

pub put_place-requires : goal.put_place-requires
put_place-requires c = (behind_room _ _ _ c.requires.0 _ _ c.put_place-n.ensures.counted c.put_place-n.ensures.written, (c.requires.1.0.one_paired, c.requires.1.1))

pub overflow_add-result : goal.overflow_add-result
overflow_add-result c = let z : c.put_place-n.result + c.put_place.result ≤ length c.args.out.now = behind_all _ _ _ c.requires.0 _ _ c.put_place-n.ensures.counted
    c.put_place-n.ensures.written _ c.put_place.ensures.counted in search rules

pub returns : goal.returns
returns c = behind_put _ _ _ c.requires.0 _ _ c.put_place-n.ensures.counted c.put_place-n.ensures.written _ c.put_place.ensures.counted _ c.put_place.ensures.written
