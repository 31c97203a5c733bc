use mathlib.Core.Path.{◌∙◌}
use Rattle.plan.specs.NumberLaws.{member_at}
use Rattle.plan_member.proofs.member.Goals as goal

pub returns : goal.returns
returns c = c.read16.ensures ∙ member_at _ _ _ c.requires.1
