use native.Mathlib.Omega.{arith}
use Rattle.file.specs.ReadLaws.{part_wide}
use Rattle.linnet.proofs.linnet_record.Goals as goal

pub returns-in-Err : goal.returns-in-Err
returns-in-Err c = let r = part_wide _ _ (omega (arith, c.in-Err.ensures)) in record { start = r.0; length = r.1.0; bytes = r.1.1 }
