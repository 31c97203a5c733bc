-- The two halves, the second in the rest of the buffer.
use Rattle.base_words.proofs.Halves.{halves}
use Rattle.base_words.proofs.put32.Goals as goal

pub returns : goal.returns
returns c = halves 2 2 _ _ _ _ c.requires
    c.put16.ensures c.put16-2.ensures
