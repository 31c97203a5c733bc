use Rattle.std.proofs.Common.{length, zero-add, arith}
use Rattle.std.proofs.Math.Seq.{take-length}
use Rattle.base.specs.BitByteLaws.{bit_byte}
use Rattle.file_figures.proofs.table_has.Goals as goal

pub returns : goal.returns
returns c = let t = c.args.table.now in
    rw (take-length, zero-add) at (bit_byte t (λ i _. (c.type_inv.table i).fits) 0 (length t) c.args.j (omega arith) c.requires)
