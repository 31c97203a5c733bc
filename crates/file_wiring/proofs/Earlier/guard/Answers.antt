use Rattle.std.proofs.Common.{◌≡◌, ◌+◌, ◌-◌, ◌*◌, length-drop, arith}
use Rattle.std.proofs.lemmas.List.{length-take}
use Rattle.file.specs.Versions.{table_bytes}
use Rattle.file.specs.FileFigures.{version_in}
use Rattle.file.specs.VersionLaws.{wires_few}
use Rattle.file_wiring.specs.TableLaws.{used_few}
use Rattle.file_wiring.proofs.Earlier.guard.Goals as goal

pub table_fits-requires : goal.table_fits-requires
table_fits-requires c =
    let ver = version_in c.args.self.file.now in
    let size : c.table_bytes.result ≡ table_bytes ver = rw (c.table_bytes.ensures, c.from.ensures) in
    let n : c.args.at + 2 * c.from-d.result + c.table_bytes.result - (c.args.at + 2 * c.from-d.result) ≡ table_bytes ver = omega (arith, size) in (
      omega (arith, wires_few ver),
      rw (n, length-take, length-drop) (omega (arith, used_few ver c.args.count c.requires.1)),
    )
