use mathlib.Core.Path.{refl}
use Rattle.circuit_needed.specs.PassingLaws.{wanting_start, wanting_inside, wanting_step}
use Rattle.circuit_pass.proofs.want_all.Goals as goal

pub loop-g-init : goal.loop-g-init
loop-g-init c = wanting_start _ _ c.requires

pub add_whole-requires : goal.add_whole-requires
add_whole-requires c = wanting_inside _ _ _ _ _ c.loop-g.invariant c.loop-g-test.true refl

pub loop-g-preserved : goal.loop-g-preserved
loop-g-preserved c = wanting_step _ _ _ _ _ _ c.loop-g.invariant c.loop-g-test.true refl c.add_whole.ensures
