use Rattle.std.proofs.Common.{◌+◌, ◌≤◌, length, rules}
use Rattle.fused_group.specs.BehindLaws.{front_room, behind_fits, behind_room, behind_all, behind_put}
use Rattle.fused_group.specs.JoinedLaws.{fusing, emit_is}
use Rattle.fused_group.proofs.Joint.put.Goals as goal

pub put_kept-n-requires : goal.put_kept-n-requires
put_kept-n-requires c = (
  front_room _ _ _ (rw (emit_is _ _ _ _ _ _ _ _ _ _ c.requires.1.0 c.requires.1.2) at c.requires.0),
  (
    c.requires.1.0.joinable.lies,
    c.requires.1.0.guarded,
  ),
)

pub slice_bounds-put_fused-count : goal.slice_bounds-put_fused-count
slice_bounds-put_fused-count c = behind_fits _ _ _ (rw (emit_is _ _ _ _ _ _ _ _ _ _ c.requires.1.0 c.requires.1.2) at c.requires.0) _ _ c.put_kept-n.ensures.counted
    c.put_kept-n.ensures.written

pub slice_bounds-put_fused-start : goal.slice_bounds-put_fused-start
slice_bounds-put_fused-start c = let z : c.put_kept-n.result ≤ length c.put_kept-n.new.out = behind_fits _ _ _ (rw (emit_is _ _ _ _ _ _ _ _ _ _ c.requires.1.0
    c.requires.1.2) at c.requires.0) _ _ c.put_kept-n.ensures.counted c.put_kept-n.ensures.written in search rules

pub put_fused-requires : goal.put_fused-requires
put_fused-requires c = (
  behind_room _ _ _ (rw (emit_is _ _ _ _ _ _ _ _ _ _ c.requires.1.0 c.requires.1.2) at c.requires.0) _ _ c.put_kept-n.ensures.counted
      c.put_kept-n.ensures.written,
  (fusing _ _ _ _ c.requires.1.0.joinable, c.requires.1.1),
)

pub overflow_add-result : goal.overflow_add-result
overflow_add-result c = let z : c.put_kept-n.result + c.put_fused.result ≤ length c.args.out.now = behind_all _ _ _ (rw (emit_is _ _ _ _ _ _ _ _ _ _ c.requires.1.0
    c.requires.1.2) at c.requires.0) _ _ c.put_kept-n.ensures.counted c.put_kept-n.ensures.written _ c.put_fused.ensures.counted in search rules

pub returns : goal.returns
returns c = rw (emit_is _ _ _ _ _ _ _ _ _ _ c.requires.1.0 c.requires.1.2) (behind_put _ _ _ (rw (emit_is _ _ _ _ _ _ _ _ _ _ c.requires.1.0 c.requires.1.2) at
    c.requires.0) _ _ c.put_kept-n.ensures.counted c.put_kept-n.ensures.written _ c.put_fused.ensures.counted _ c.put_fused.ensures.written)
