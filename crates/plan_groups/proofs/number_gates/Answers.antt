use Rattle.plan_groups.specs.TableLaws.{counting_start, counting_end}
use Rattle.plan_groups.proofs.number_gates.Goals as goal

pub loop-g-init : goal.loop-g-init
loop-g-init c = counting_start _ _ c.requires.0 c.requires.1

pub returns : goal.returns
returns c = counting_end _ _ _ c.loop-g.invariant c.loop-g-test.false
