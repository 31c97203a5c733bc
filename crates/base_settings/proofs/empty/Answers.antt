use Rattle.base.specs.BitWords.{joined}
use Rattle.base_settings.proofs.empty.Goals as goal

pub returns : goal.returns
unfolding joined
returns c = c.each.ensures
