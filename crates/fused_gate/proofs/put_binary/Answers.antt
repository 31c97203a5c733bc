use mathlib.Core.List.{◌∷◌, []}
use mathlib.Core.Path.{refl}
use Rattle.fused_gate.specs.ByteLaws.{wire_behind}
use Rattle.fused_gate.proofs.put_binary.Goals as goal

pub returns : goal.returns
returns c = wire_behind (c.args.code ∷ [])
    (c.args.a.0 ∷ []) _ 3 _ _ _ refl
    c.requires c.put_unary.ensures
    c.put16.ensures
