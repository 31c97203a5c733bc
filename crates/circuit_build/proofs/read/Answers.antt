use Rattle.std.proofs.Common.{refl}
use Rattle.base.proofs.PassedLaws.{passed_answer}
use Rattle.circuit_build.specs.MakingLaws.{made_earlier, whole_answer, read_taken, read_answer}
use Rattle.circuit_build.proofs.read.Goals as goal

pub returns-in_err-read : goal.returns-in_err-read
returns-in_err-read c = passed_answer _ _ c.from_residual.ensures.1 (read_answer _ _ c.in_err-read.ensures)

pub whole-requires : goal.whole-requires
whole-requires c = (made_earlier _ _ _ _ (read_taken _ c.in_ok-read.ensures) c.make_rule-count.ensures, refl)

pub returns : goal.returns
returns c = whole_answer _ (read_taken _ c.in_ok-read.ensures) _ _ _ c.make_rule-count.ensures _ c.whole.ensures.0
