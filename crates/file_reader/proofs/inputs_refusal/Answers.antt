use Rattle.std.proofs.Common.{arith}
use Rattle.file.specs.FormatLaws.{row_passed}
use Rattle.file_reader.proofs.inputs_refusal.Goals as goal

pub bounds-file-5 : goal.bounds-file-5
bounds-file-5 c = omega (arith, (row_passed _ c.requires).head.long)
