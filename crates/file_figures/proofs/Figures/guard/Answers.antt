use Rattle.std.proofs.Common.{◌≡◌, ◌+◌, ◌-◌, ◌*◌, ◌∙◌, length-drop, arith}
use Rattle.std.proofs.lemmas.List.{length-take}
use Rattle.base.specs.Bits.{bit_of}
use Rattle.file.specs.Versions.{table_bytes}
use Rattle.file.specs.FileFigures.{version_in}
use Rattle.file.specs.VersionLaws.{number_bit}
use Rattle.file_figures.proofs.Figures.guard.Goals as goal

pub table_has-requires : goal.table_has-requires
table_has-requires c =
    let ver = version_in c.args.self.file.now in
    let size : c.table_bytes.result ≡ table_bytes ver = rw (c.table_bytes.ensures, c.from-2.ensures) in
    let n : c.args.at + 2 * c.from.result + c.table_bytes.result - (c.args.at + 2 * c.from.result) ≡ table_bytes ver = omega (arith, size) in
    rw (n, length-take, length-drop) (omega (arith, c.requires.1, number_bit ver _ c.args.count c.requires.0 c.guard_number-j.ensures.1))

pub returns : goal.returns
returns c =
    let ver = version_in c.args.self.file.now in
    let size : c.table_bytes.result ≡ table_bytes ver = rw (c.table_bytes.ensures, c.from-2.ensures) in
    let n : c.args.at + 2 * c.from.result + c.table_bytes.result - (c.args.at + 2 * c.from.result) ≡ table_bytes ver = omega (arith, size) in
    let b : c.from-3.result ≡ bit_of c.table_has.result = grind arith in
    b ∙ rw (c.table_has.ensures, n, c.from.ensures, c.guard_number-j.ensures.0)
