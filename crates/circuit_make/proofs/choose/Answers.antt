use mathlib.Core.Path.{refl}
use Rattle.circuit.specs.Gates.{choice}
use Rattle.circuit_make.specs.ChoiceLaws.{pushed_chose}
use Rattle.circuit_make.proofs.choose.Goals as goal

pub returns : goal.returns
returns c = let a = c.args in
    pushed_chose (choice a.condition.0 a.first.0 a.second.0) 0x30 a.condition.0 a.first.0 a.second.0 a.x a.quads.now a.present.now
    a.count _ c.push-more.result c.requires (λ s. refl) c.push-more.ensures
