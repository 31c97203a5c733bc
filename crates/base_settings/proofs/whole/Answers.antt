use Rattle.base.specs.Bits.{collect}
use Rattle.base.specs.BitWords.{joined}
use Rattle.base_settings.proofs.whole.Goals as goal

pub returns : goal.returns
unfolding collect joined
returns c = c.each.ensures
