use mathlib.Core.List.{◌∷◌, []}
use mathlib.Core.Path.{refl}
use Rattle.fused_gate.specs.ByteLaws.{wire_behind}
use Rattle.fused_gate.proofs.put_unary.Goals as goal

pub returns : goal.returns
returns c = wire_behind (c.args.code ∷ []) [] _ 1 _ _ _ refl
    c.requires c.put_byte.ensures
    c.put16.ensures
