-- Document 01, "The fused circuit file": the figures of a circuit file, worked out from its bytes record by record.
use Rattle.std.specs.Prelude.{ℕ, zero, suc, ◌+◌, ◌*◌, List, [], ◌∷◌, map, cond, eqb, length, get_or}
use Rattle.base.specs.Numbers.{number_at}
use Rattle.base.specs.Codes.{operation_of, code_of}
use Rattle.base.specs.declared.Kind.TheVariants as kind
use Rattle.file.specs.Records.{Pair, Record, input, word, bit, operation, choice, pick, guard}
use Rattle.file.specs.WireFigures.{wire_figure}
use Rattle.file.specs.Versions.{Version, version_of, table_bytes}
use Rattle.file.specs.CircuitFile.{record_bytes, no_wire}

-- the version of a file, by its fifth byte: a guard is read as that version writes it
abbrev pub version_in : List ℕ → Version
version_in f = version_of (get_or f 4 0)

-- n two-byte wires from the place at on
abbrev pub wires_at : ℕ → List ℕ → ℕ → List ℕ
wires_at zero f at = []
wires_at (suc n) f at = number_at 2 f at ∷ wires_at n f (at + 2)

-- n pairs from the place at on
abbrev pub pairs_at : ℕ → List ℕ → ℕ → List Pair
pairs_at zero f at = []
pairs_at (suc n) f at = record { guarding = number_at 2 f at; value = number_at 2 f (at + 2) } ∷ pairs_at n f (at + 4)

-- the record that begins at a place, as `record_bytes` writes it: by its first byte, 20 to 27 what is none of the others
unfoldable pub record_at : List ℕ → ℕ → Record
record_at f at =
    let b = get_or f at 0 in
    cond (eqb b 0x00) (input kind.Word (get_or f (at + 1) 0))
    (cond (eqb b 0x01) (input kind.Bit (get_or f (at + 1) 0))
    (cond (eqb b 0x11) (word (number_at 4 f (at + 1)))
    (cond (eqb b 0x12) (bit (get_or f (at + 1) 0))
    (cond (eqb b 0x30) (choice (number_at 2 f (at + 1)) (number_at 2 f (at + 3)) (number_at 2 f (at + 5)))
    (cond (eqb b 0x31) (pick (pairs_at (get_or f (at + 1) 0) f (at + 2)))
    (cond (eqb b 0x32) (guard (wires_at (get_or f (at + 1) 0) f (at + 2)) (number_at (table_bytes (version_in f)) f (at + 2 + 2 * get_or f (at + 1) 0)))
    (operation (operation_of b) (wires_at (code_of b).arity f (at + 1)))))))))

-- how many bytes it has: those of the record that is read there
unfoldable pub size_at : List ℕ → ℕ → ℕ
size_at f at = length (record_bytes (version_in f) (record_at f at))

-- n records from the place at on, and the place after them
abbrev pub records_from : ℕ → List ℕ → ℕ → List Record
records_from zero f at = []
records_from (suc n) f at = record_at f at ∷ records_from n f (at + size_at f at)

abbrev pub place_after : ℕ → List ℕ → ℕ → ℕ
place_after zero f at = at
place_after (suc n) f at = place_after n f (at + size_at f at)

-- V, the wire count, the records and the output wires of a file
abbrev pub first_record : ℕ
first_record = 8

abbrev pub file_variables : List ℕ → ℕ
file_variables f = get_or f 5 0

abbrev pub wire_count : List ℕ → ℕ
wire_count f = number_at 2 f 6

unfoldable pub file_records : List ℕ → List Record
file_records f = records_from (wire_count f) f first_record

unfoldable pub file_outputs : List ℕ → List ℕ
file_outputs f = wires_at (file_variables f) f (place_after (wire_count f) f first_record)

-- "A variable's figure is that of its output wire". Document 02, C-13: where that is FF FF, "running writes 0 for it"
unfoldable pub output_figure : List ℕ → List Record → ℕ → ℕ
output_figure inputs R w = cond (eqb w no_wire) 0 (wire_figure inputs R w)

-- what running the file writes, for every variable
unfoldable pub file_figures : List ℕ → List ℕ → List ℕ
file_figures f inputs = map (output_figure inputs (file_records f)) (file_outputs f)
