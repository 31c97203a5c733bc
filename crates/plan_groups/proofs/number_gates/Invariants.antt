use Rattle.plan_groups.specs.TableLaws.{CountingGates}
use Rattle.plan_groups.proofs.number_gates.Given as goal

abbrev pub invariant-loop-g : goal.invariant-loop-g
invariant-loop-g l = CountingGates l.count l.group l.g
