-- Document 01, "Examples": 3, the file of R1 with P1: no row refuses it, and its figures, computed from its bytes; document 02, C-11: picks with several guards at 1; C-13: outputs that name no wire;
-- C-17: guards in both versions; C-18: no pick between equal wires.
use Rattle.std.specs.Prelude.{ℕ, ◌^◌, ◌≡◌, refl, List, [], ◌∷◌, ◌++◌, map, length, set, replicate}
use Rattle.base.specs.Numbers.{number, bytes_of}
use Rattle.base.specs.Results.{result_of}
use Rattle.base.specs.Codes.{operation_of, code_of}
use Rattle.base.specs.declared.Kind.TheVariants as kind
use Rattle.file.specs.Versions.{Version, one, two}
use Rattle.file.specs.Records.{input, guard}
use Rattle.file.specs.CircuitFile.{file_bytes}
use Rattle.file.specs.WireKinds.{wire_kind}
use Rattle.file.specs.WireFigures.{wire_figure, pick_sum}
use Rattle.file.specs.FileFigures.{record_at, size_at, file_records, file_outputs, file_figures, output_figure}
use Rattle.file.specs.CircuitRows.{headed, whole_at, laid, stands, standing, circuit_row}

-- the file of R1 with P1, a record a line, a guard's table on two lines of its own; document 02, C-18: "R1 with P1 (example 3)
-- now gives 114 bytes": both members have wire 2 at the second place
abbrev pub file3 : List ℕ
file3 =
    0x43 ∷ 0x49 ∷ 0x52 ∷ 0x00 ∷ 0x02 ∷ 0x03 ∷ 0x00 ∷ 0x08
    ∷ 0x01 ∷ 0x00
    ∷ 0x00 ∷ 0x01
    ∷ 0x00 ∷ 0x02
    ∷ 0x32 ∷ 0x01 ∷ 0x00 ∷ 0x00
    ∷ 0x00 ∷ 0x00 ∷ 0x00 ∷ 0x00 ∷ 0x00 ∷ 0x00 ∷ 0x00 ∷ 0x00 ∷ 0x00 ∷ 0x00 ∷ 0x00 ∷ 0x00 ∷ 0x00 ∷ 0x00 ∷ 0x00 ∷ 0x00
    ∷ 0x00 ∷ 0x00 ∷ 0x00 ∷ 0x00 ∷ 0x00 ∷ 0x00 ∷ 0x00 ∷ 0x00 ∷ 0x00 ∷ 0x00 ∷ 0x00 ∷ 0x00 ∷ 0x00 ∷ 0x00 ∷ 0x00 ∷ 0x02
    ∷ 0x32 ∷ 0x01 ∷ 0x00 ∷ 0x00
    ∷ 0x00 ∷ 0x00 ∷ 0x00 ∷ 0x00 ∷ 0x00 ∷ 0x00 ∷ 0x00 ∷ 0x00 ∷ 0x00 ∷ 0x00 ∷ 0x00 ∷ 0x00 ∷ 0x00 ∷ 0x00 ∷ 0x00 ∷ 0x00
    ∷ 0x00 ∷ 0x00 ∷ 0x00 ∷ 0x00 ∷ 0x00 ∷ 0x00 ∷ 0x00 ∷ 0x00 ∷ 0x00 ∷ 0x00 ∷ 0x00 ∷ 0x00 ∷ 0x00 ∷ 0x00 ∷ 0x00 ∷ 0x01
    ∷ 0x31 ∷ 0x02 ∷ 0x00 ∷ 0x03 ∷ 0x00 ∷ 0x01 ∷ 0x00 ∷ 0x04 ∷ 0x00 ∷ 0x02
    ∷ 0x22 ∷ 0x00 ∷ 0x05 ∷ 0x00 ∷ 0x02
    ∷ 0x30 ∷ 0x00 ∷ 0x00 ∷ 0x00 ∷ 0x06 ∷ 0x00 ∷ 0x06
    ∷ 0x00 ∷ 0x00 ∷ 0x00 ∷ 0x07 ∷ 0x00 ∷ 0x02
    ∷ []

pub example_3_size : length file3 ≡ 114
example_3_size = refl

-- no row refuses it, and its figures, from its bytes
pub example_3_row : circuit_row file3 ≡ 0
unfolding number bytes_of operation_of code_of record_at size_at file_records file_outputs wire_kind headed whole_at laid stands standing circuit_row
example_3_row = refl

pub example_3_run : map (λ x. file_figures file3 (x ∷ 6 ∷ 7 ∷ [])) (0 ∷ 1 ∷ []) ≡ (0 ∷ 49 ∷ 7 ∷ []) ∷ (1 ∷ 42 ∷ 7 ∷ []) ∷ []
unfolding number bytes_of operation_of code_of result_of record_at size_at file_records file_outputs wire_kind wire_figure file_figures output_figure pick_sum
example_3_run = refl

-- the file of R1 with P1 as it was written before C-18, with a pick for each argument place: document 02, C-17: "example 3 becomes 124 bytes"
abbrev pub file3_all_picks : List ℕ
file3_all_picks =
    0x43 ∷ 0x49 ∷ 0x52 ∷ 0x00 ∷ 0x02 ∷ 0x03 ∷ 0x00 ∷ 0x09
    ∷ 0x01 ∷ 0x00
    ∷ 0x00 ∷ 0x01
    ∷ 0x00 ∷ 0x02
    ∷ 0x32 ∷ 0x01 ∷ 0x00 ∷ 0x00
    ∷ 0x00 ∷ 0x00 ∷ 0x00 ∷ 0x00 ∷ 0x00 ∷ 0x00 ∷ 0x00 ∷ 0x00 ∷ 0x00 ∷ 0x00 ∷ 0x00 ∷ 0x00 ∷ 0x00 ∷ 0x00 ∷ 0x00 ∷ 0x00
    ∷ 0x00 ∷ 0x00 ∷ 0x00 ∷ 0x00 ∷ 0x00 ∷ 0x00 ∷ 0x00 ∷ 0x00 ∷ 0x00 ∷ 0x00 ∷ 0x00 ∷ 0x00 ∷ 0x00 ∷ 0x00 ∷ 0x00 ∷ 0x02
    ∷ 0x32 ∷ 0x01 ∷ 0x00 ∷ 0x00
    ∷ 0x00 ∷ 0x00 ∷ 0x00 ∷ 0x00 ∷ 0x00 ∷ 0x00 ∷ 0x00 ∷ 0x00 ∷ 0x00 ∷ 0x00 ∷ 0x00 ∷ 0x00 ∷ 0x00 ∷ 0x00 ∷ 0x00 ∷ 0x00
    ∷ 0x00 ∷ 0x00 ∷ 0x00 ∷ 0x00 ∷ 0x00 ∷ 0x00 ∷ 0x00 ∷ 0x00 ∷ 0x00 ∷ 0x00 ∷ 0x00 ∷ 0x00 ∷ 0x00 ∷ 0x00 ∷ 0x00 ∷ 0x01
    ∷ 0x31 ∷ 0x02 ∷ 0x00 ∷ 0x03 ∷ 0x00 ∷ 0x01 ∷ 0x00 ∷ 0x04 ∷ 0x00 ∷ 0x02
    ∷ 0x31 ∷ 0x02 ∷ 0x00 ∷ 0x03 ∷ 0x00 ∷ 0x02 ∷ 0x00 ∷ 0x04 ∷ 0x00 ∷ 0x02
    ∷ 0x22 ∷ 0x00 ∷ 0x05 ∷ 0x00 ∷ 0x06
    ∷ 0x30 ∷ 0x00 ∷ 0x00 ∷ 0x00 ∷ 0x07 ∷ 0x00 ∷ 0x07
    ∷ 0x00 ∷ 0x00 ∷ 0x00 ∷ 0x08 ∷ 0x00 ∷ 0x02
    ∷ []

-- it is read and run as it was
pub example_3_picks : (length file3_all_picks ≡ 124) × (circuit_row file3_all_picks ≡ 0)
unfolding number bytes_of operation_of code_of record_at size_at file_records file_outputs wire_kind headed whole_at laid stands standing circuit_row
example_3_picks = (refl, refl)

pub example_3_picks_run : map (λ x. file_figures file3_all_picks (x ∷ 6 ∷ 7 ∷ [])) (0 ∷ 1 ∷ []) ≡ (0 ∷ 49 ∷ 7 ∷ []) ∷ (1 ∷ 42 ∷ 7 ∷ []) ∷ []
unfolding number bytes_of operation_of code_of result_of record_at size_at file_records file_outputs wire_kind wire_figure file_figures output_figure pick_sum
example_3_picks_run = refl

-- that circuit in version 00 01, as it was written before C-17: 76 bytes
abbrev pub file3_in_one : List ℕ
file3_in_one =
    0x43 ∷ 0x49 ∷ 0x52 ∷ 0x00 ∷ 0x01 ∷ 0x03 ∷ 0x00 ∷ 0x09
    ∷ 0x01 ∷ 0x00
    ∷ 0x00 ∷ 0x01
    ∷ 0x00 ∷ 0x02
    ∷ 0x32 ∷ 0x01 ∷ 0x00 ∷ 0x00 ∷ 0x00 ∷ 0x00 ∷ 0x00 ∷ 0x00 ∷ 0x00 ∷ 0x00 ∷ 0x00 ∷ 0x02
    ∷ 0x32 ∷ 0x01 ∷ 0x00 ∷ 0x00 ∷ 0x00 ∷ 0x00 ∷ 0x00 ∷ 0x00 ∷ 0x00 ∷ 0x00 ∷ 0x00 ∷ 0x01
    ∷ 0x31 ∷ 0x02 ∷ 0x00 ∷ 0x03 ∷ 0x00 ∷ 0x01 ∷ 0x00 ∷ 0x04 ∷ 0x00 ∷ 0x02
    ∷ 0x31 ∷ 0x02 ∷ 0x00 ∷ 0x03 ∷ 0x00 ∷ 0x02 ∷ 0x00 ∷ 0x04 ∷ 0x00 ∷ 0x02
    ∷ 0x22 ∷ 0x00 ∷ 0x05 ∷ 0x00 ∷ 0x06
    ∷ 0x30 ∷ 0x00 ∷ 0x00 ∷ 0x00 ∷ 0x07 ∷ 0x00 ∷ 0x07
    ∷ 0x00 ∷ 0x00 ∷ 0x00 ∷ 0x08 ∷ 0x00 ∷ 0x02
    ∷ []

-- its figures, from its bytes
pub example_3_one_run : map (λ x. file_figures file3_in_one (x ∷ 6 ∷ 7 ∷ [])) (0 ∷ 1 ∷ []) ≡ (0 ∷ 49 ∷ 7 ∷ []) ∷ (1 ∷ 42 ∷ 7 ∷ []) ∷ []
unfolding number bytes_of operation_of code_of result_of record_at size_at file_records file_outputs wire_kind wire_figure file_figures output_figure pick_sum
example_3_one_run = refl

-- no row refuses it
pub example_3_one_row : circuit_row file3_in_one ≡ 0
unfolding number bytes_of operation_of code_of record_at size_at file_records file_outputs wire_kind headed whole_at laid stands standing circuit_row
example_3_one_row = refl

-- the same records and outputs are read from both
pub example_3_same : (file_records file3_all_picks ≡ file_records file3_in_one) × (file_outputs file3_all_picks ≡ file_outputs file3_in_one)
unfolding number bytes_of operation_of code_of record_at size_at file_records file_outputs
example_3_same = (refl, refl)

-- Document 02, C-11: "A pick with several guards at 1". A file made by hand, a record a line: a bit, two words, a pick of both words and a pick of the bit twice, each under the bit.
abbrev pub file_of_sums : List ℕ
file_of_sums =
    0x43 ∷ 0x49 ∷ 0x52 ∷ 0x00 ∷ 0x01 ∷ 0x03 ∷ 0x00 ∷ 0x05
    ∷ 0x01 ∷ 0x00
    ∷ 0x00 ∷ 0x01
    ∷ 0x00 ∷ 0x02
    ∷ 0x31 ∷ 0x02 ∷ 0x00 ∷ 0x00 ∷ 0x00 ∷ 0x01 ∷ 0x00 ∷ 0x00 ∷ 0x00 ∷ 0x02
    ∷ 0x31 ∷ 0x02 ∷ 0x00 ∷ 0x00 ∷ 0x00 ∷ 0x00 ∷ 0x00 ∷ 0x00 ∷ 0x00 ∷ 0x00
    ∷ 0x00 ∷ 0x04 ∷ 0x00 ∷ 0x03 ∷ 0x00 ∷ 0x02
    ∷ []

pub sums_row : circuit_row file_of_sums ≡ 0
unfolding number bytes_of operation_of code_of record_at size_at file_records file_outputs wire_kind headed whole_at laid stands standing circuit_row
sums_row = refl

-- "the sum of their values modulo 4,294,967,296, or modulo 2 for bits": 1 and 1 are 0, 6 and 7 are 13, 4,294,967,295 and 7 are 6; with no guard at 1 it is 0
pub sums_run : map (λ x. file_figures file_of_sums x) ((0 ∷ 6 ∷ 7 ∷ []) ∷ (1 ∷ 6 ∷ 7 ∷ []) ∷ (1 ∷ 4294967295 ∷ 7 ∷ []) ∷ [])
    ≡ (0 ∷ 0 ∷ 7 ∷ []) ∷ (0 ∷ 13 ∷ 7 ∷ []) ∷ (0 ∷ 6 ∷ 7 ∷ []) ∷ []
unfolding number bytes_of operation_of code_of result_of record_at size_at file_records file_outputs wire_kind wire_figure file_figures output_figure pick_sum
sums_run = refl

-- Document 02, C-13: "a working variable's output is FF FF, which names no wire". A file made by hand, a record a line: a bit and two words, of which only the last has an output wire.
abbrev pub file_of_scraps : List ℕ
file_of_scraps =
    0x43 ∷ 0x49 ∷ 0x52 ∷ 0x00 ∷ 0x01 ∷ 0x03 ∷ 0x00 ∷ 0x04
    ∷ 0x01 ∷ 0x00
    ∷ 0x00 ∷ 0x01
    ∷ 0x00 ∷ 0x02
    ∷ 0x30 ∷ 0x00 ∷ 0x00 ∷ 0x00 ∷ 0x01 ∷ 0x00 ∷ 0x02
    ∷ 0xFF ∷ 0xFF ∷ 0xFF ∷ 0xFF ∷ 0x00 ∷ 0x03
    ∷ []

-- "the circuit reader admits FF FF as an output", of a bit and of a word
pub scraps_row : circuit_row file_of_scraps ≡ 0
unfolding number bytes_of operation_of code_of record_at size_at file_records file_outputs wire_kind headed whole_at laid stands standing circuit_row
scraps_row = refl

-- "and running writes 0 for it"
pub scraps_run : map (λ x. file_figures file_of_scraps x) ((1 ∷ 6 ∷ 7 ∷ []) ∷ (0 ∷ 6 ∷ 7 ∷ []) ∷ []) ≡ (0 ∷ 0 ∷ 6 ∷ []) ∷ (0 ∷ 0 ∷ 7 ∷ []) ∷ []
unfolding number bytes_of operation_of code_of result_of record_at size_at file_records file_outputs wire_kind wire_figure file_figures output_figure
scraps_run = refl

-- FF FE is no such number: with it in the place of the first output, row 62 refuses the file
pub scraps_other : circuit_row (set file_of_scraps 22 0xFE) ≡ 62
unfolding number bytes_of operation_of code_of record_at size_at file_records file_outputs wire_kind headed whole_at laid stands standing circuit_row
scraps_other = refl

-- Document 02, C-17: "the reader takes both versions, each with its own guard size". The file of a bit, and of a guard of n wires, each of them the bit's, with a table.
abbrev pub file_of_guard : Version → ℕ → ℕ → List ℕ
file_of_guard ver n table = file_bytes ver 1 (input kind.Bit 0 ∷ guard (replicate n 0) table ∷ []) (1 ∷ [])

-- six wires in version 1 and eight in version 2 are let through, one more is 61; a version 3 is 60
pub guards_row : map (λ n. circuit_row (file_of_guard one n 1)) (6 ∷ 7 ∷ []) ++ map (λ n. circuit_row (file_of_guard two n 1)) (6 ∷ 7 ∷ 8 ∷ 9 ∷ [])
    ≡ (0 ∷ 61 ∷ []) ++ (0 ∷ 0 ∷ 0 ∷ 61 ∷ [])
unfolding number bytes_of operation_of code_of record_at size_at file_records file_outputs wire_kind headed whole_at laid stands standing circuit_row
guards_row = refl

pub version_row : circuit_row (set (file_of_guard two 6 1) 4 3) ≡ 60
unfolding number bytes_of operation_of code_of record_at size_at file_records file_outputs wire_kind headed whole_at laid stands standing circuit_row
version_row = refl

-- a table of d wires with its bit 2^d - 1 set is let through, with bit 2^d set it is 62, for one wire and for seven
pub tables_row : map (λ ver. circuit_row (file_of_guard ver 1 (2 ^ 1)) ∷ circuit_row (file_of_guard ver 1 (2 ^ 2)) ∷ []) (one ∷ two ∷ [])
    ++ (circuit_row (file_of_guard two 7 (2 ^ 127)) ∷ circuit_row (file_of_guard two 7 (2 ^ 128)) ∷ []) ∷ []
    ≡ (0 ∷ 62 ∷ []) ∷ (0 ∷ 62 ∷ []) ∷ (0 ∷ 62 ∷ []) ∷ []
unfolding number bytes_of operation_of code_of record_at size_at file_records file_outputs wire_kind headed whole_at laid stands standing circuit_row
tables_row = refl

-- eight wires at 1 are setting 255, "lowest setting in the lowest bit"
pub guards_run : map (λ t. file_figures (file_of_guard two 8 (2 ^ t)) (1 ∷ [])) (254 ∷ 255 ∷ []) ≡ (0 ∷ []) ∷ (1 ∷ []) ∷ []
unfolding number bytes_of operation_of code_of result_of record_at size_at file_records file_outputs wire_kind wire_figure file_figures output_figure
guards_run = refl
