use Rattle.std.proofs.Common.{◌∙◌}
use Rattle.fused_write.proofs.count.Goals as goal

pub returns : goal.returns
returns c = c.from.ensures ∙ c.prepare.ensures.answered
