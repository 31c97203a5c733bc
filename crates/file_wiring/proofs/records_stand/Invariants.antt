use Rattle.file_wiring.specs.LoopLaws.{AmidRecords}
use Rattle.file_wiring.proofs.records_stand.Given as goal

abbrev pub invariant-loop-i : goal.invariant-loop-i
invariant-loop-i l = AmidRecords l.file l.v l.count l.kinds l.at l.i
