-- Document 02, C-17, "A file still fits in 16,384 bytes": what records come to at most, in the version that is written.
use Rattle.std.specs.Prelude.{ℕ, ◌+◌, ◌*◌, ◌/◌}
use Rattle.rule.specs.Limits.{most_variables}
use Rattle.circuit.specs.Limits.{most_gates}
use Rattle.file.specs.Versions.{written_version, most_guard_wires, table_bytes}
use Rattle.file.specs.FileFigures.{first_record}

-- the bytes of a guard
abbrev pub most_guard_bytes : ℕ
most_guard_bytes = 2 + 2 * most_guard_wires written_version + table_bytes written_version

-- those of two gates that are joined: two guards, two picks of two pairs and an operation; a larger group has no more to two gates
abbrev pub most_bytes_of_two : ℕ
most_bytes_of_two = 2 * most_guard_bytes + 2 * (2 + 2 * 4) + 5

-- those of the most gates
abbrev pub most_record_bytes : ℕ
most_record_bytes = most_gates / 2 * most_bytes_of_two

-- those of a file: the bytes before its records, theirs, and an output for each of the most variables
abbrev pub most_fused_bytes : ℕ
most_fused_bytes = first_record + most_record_bytes + 2 * most_variables
