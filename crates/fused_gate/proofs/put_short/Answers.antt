use mathlib.Core.List.{◌∷◌, []}
use Rattle.base.specs.BufferLaws.{sets_over}
use Rattle.fused_gate.proofs.put_short.Goals as goal

pub returns : goal.returns
returns c = sets_over (c.args.code ∷ c.args.x ∷ []) _ c.requires
