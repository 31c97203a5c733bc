use mathlib.Core.List.{◌∷◌, []}
use mathlib.Core.Path.{refl}
use Rattle.fused_gate.specs.ByteLaws.{wire_behind}
use Rattle.fused_gate.proofs.put_choice.Goals as goal

pub returns : goal.returns
returns c = wire_behind (0x30 ∷ [])
    (c.args.c.0 ∷
    c.args.a.0 ∷ []) _ 5 _ _ _ refl
    c.requires c.put_binary.ensures
    c.put16.ensures
