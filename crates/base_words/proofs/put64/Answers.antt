-- The two halves, the second in the rest of the buffer.
use Rattle.base_words.proofs.Halves.{halves}
use Rattle.base_words.proofs.put64.Goals as goal

pub returns : goal.returns
returns c = halves 4 4 _ _ _ _ c.requires
    c.put32.ensures c.put32-2.ensures
