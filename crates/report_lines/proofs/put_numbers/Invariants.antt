use Rattle.report.specs.PutLaws.{Numbered}
use Rattle.report_lines.proofs.put_numbers.Given as goal

abbrev pub invariant-loop-n : goal.invariant-loop-n
invariant-loop-n l = Numbered l.numbers l.out l.initial.out l.at l.n-index
