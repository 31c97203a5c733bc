use Rattle.base.proofs.PassedLaws.{passed_answer}
use Rattle.fused_write.specs.WriteLaws.{refused_writes, short_writes, file_writes}
use Rattle.fused_write.proofs.try_write.Goals as goal

pub returns-in_err-counts : goal.returns-in_err-counts
returns-in_err-counts c = let r = refused_writes _ _ _ _ c.in_err-counts.ensures.answered in
    record { answer = passed_answer _ _ c.from_residual.ensures.1 r.0; file = r.1 }

pub returns-then-out-counts : goal.returns-then-out-counts
returns-then-out-counts c = let w = short_writes _ _ _ _ c.in_ok-counts.ensures.answered c.if-out-counts.true in record { answer = rw c.at.ensures w.0; file = w.1 }

pub put-requires : goal.put-requires
put-requires c = (c.if-out-counts.false, c.in_ok-counts.ensures)

pub returns : goal.returns
returns c = let r = file_writes _ _ _ _ c.in_ok-counts.ensures.answered c.if-out-counts.false _ c.put.ensures in record { answer = r.0; file = r.1 }
