use Rattle.std.proofs.Common.{◌*◌}
use Rattle.plan_waits.specs.Reads.{arguments_at}
use Rattle.plan_waits.specs.ArgumentLaws.{Putting}
use Rattle.plan_waits.proofs.wait_arguments.Given as goal

abbrev pub invariant-loop-k : goal.invariant-loop-k
invariant-loop-k l = Putting l.grouping.group (arguments_at l.circuit.quads l.i) l.initial.waits (4 * l.p.0) l.waits l.k
