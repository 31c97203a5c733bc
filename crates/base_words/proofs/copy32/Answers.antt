use Rattle.base.specs.Buffers.{over}
use Rattle.base_words.proofs.copy32.Goals as goal

pub returns : goal.returns
unfolding over
returns c = rw c.copy_from_slice.ensures.after
