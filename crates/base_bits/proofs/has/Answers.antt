use Rattle.base.specs.BitWords.{bit_in}
use Rattle.base_bits.proofs.has.Goals as goal

pub returns : goal.returns
unfolding bit_in
returns c = c.bit_of.ensures
