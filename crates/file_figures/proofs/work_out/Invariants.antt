use Rattle.file_figures.specs.Working.{AmidRecords}
use Rattle.file_figures.proofs.work_out.Given as goal

abbrev pub invariant-loop-i : goal.invariant-loop-i
invariant-loop-i l = AmidRecords l.file l.inputs l.initial.figures l.figures l.kinds l.at l.i
