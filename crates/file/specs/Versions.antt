-- Document 01, "The fused circuit file", and document 02, C-17: the versions of a circuit file and what each fixes: "the reader takes both versions, each with its own guard size".
use Rattle.std.specs.Prelude.{ℕ, cond, eqb}
use Rattle.file.specs.declared.Version as enum
use Rattle.file.specs.declared.Version.TheVariants.{One, Two}

-- the enum of the code: 00 01 and 00 02
abbrev pub Version : Type 0
Version = enum.Version

abbrev pub one : Version
one = One

abbrev pub two : Version
two = Two

-- the last byte of the version
abbrev pub version_byte : Version → ℕ
version_byte One = 0x01
version_byte Two = 0x02

-- the version that such a byte names; a file with any other is refused (row 60)
abbrev pub version_of : ℕ → Version
version_of b = cond (eqb b (version_byte one)) one two

-- a guard reads at most so many wires
abbrev pub most_guard_wires : Version → ℕ
most_guard_wires One = 6
most_guard_wires Two = 8

-- so that its table of two to that power bits has its bytes (`table_bits`, VersionLaws)
abbrev pub table_bytes : Version → ℕ
table_bytes One = 8
table_bytes Two = 32

-- the version that is written
abbrev pub written_version : Version
written_version = two
