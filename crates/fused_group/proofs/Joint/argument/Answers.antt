use Rattle.std.proofs.Common.{◌∙◌}
use Rattle.fused_group.specs.LoopLaws.{member_argument}
use Rattle.fused_group.proofs.Joint.argument.Goals as goal

pub argument-requires : goal.argument-requires
argument-requires c = let r = member_argument _ _ _ _ _ _ _ c.requires.0 (c.index-g.ensures ∙ c.member.ensures) c.requires.1 in (r.0, r.1.0)

pub returns : goal.returns
returns c = rw (← (c.index-g.ensures ∙ c.member.ensures)) c.argument.ensures
