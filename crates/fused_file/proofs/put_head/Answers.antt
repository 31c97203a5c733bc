use Rattle.fused_file.specs.OutputLaws.{head_put}
use Rattle.fused_file.proofs.put_head.Goals as goal

pub returns : goal.returns
returns c = head_put _ _ c.requires _ c.copy_from_slice.ensures.after _ _ c.put16.ensures
