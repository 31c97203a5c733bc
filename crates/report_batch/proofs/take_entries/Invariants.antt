use Prim.Native.Nat.{◌-◌}
use lib.ListN.{length}
use Rattle.report_batch.specs.DrainLaws.{Draining}
use Rattle.report_batch.proofs.take_entries.Given as goal

abbrev pub invariant-loop-out : goal.invariant-loop-out
invariant-loop-out l = Draining l.initial.reached l.s l.initial.out l.reached l.bytes l.printed l.out

abbrev pub decreases-loop-out : goal.decreases-loop-out
decreases-loop-out l = length l.s - l.bytes
