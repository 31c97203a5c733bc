use mathlib.Core.List.{◌∷◌, []}
use Rattle.base.specs.BufferLaws.{sets_over}
use Rattle.fused_gate.proofs.put_byte.Goals as goal

pub returns : goal.returns
returns c = sets_over (c.args.x ∷ []) _ c.requires
