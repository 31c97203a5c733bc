-- Document 01, "The fused circuit file": its bytes. 43 49 52 ("CIR"), 00 01, V, wire count (2 bytes), records, then V two-byte output wires.
-- Document 02, C-17: a second version, 00 02, "each with its own guard size": the mark and a guard's table are by version, and nothing else is.
use Rattle.std.specs.Prelude.{ℕ, List, [], ◌∷◌, ◌++◌, length}
use Rattle.base.specs.Numbers.{bytes_of}
use Rattle.base.specs.Codes.{byte_of, start_code}
use Rattle.file.specs.Records.{Record, input, word, bit, operation, choice, pick, guard, pair_wires}
use Rattle.file.specs.Versions.{Version, version_byte, table_bytes}

-- "CIR" and the version
abbrev pub mark : Version → List ℕ
mark ver = 0x43 ∷ 0x49 ∷ 0x52 ∷ 0x00 ∷ version_byte ver ∷ []

-- Document 02, C-13: as an output, FF FF "names no wire"
abbrev pub no_wire : ℕ
no_wire = 0xFFFF

-- two-byte wires
abbrev pub wires_bytes : List ℕ → List ℕ
wires_bytes [] = []
wires_bytes (w ∷ l) = bytes_of 2 w ++ wires_bytes l

-- the bytes of each form of record: the one place that says them. Reading (`record_at`) is the inverse of it (InverseLaws), a record's size its length.
abbrev pub record_bytes : Version → Record → List ℕ
record_bytes ver (input k x) = start_code k ∷ x ∷ []
record_bytes ver (word n) = 0x11 ∷ bytes_of 4 n
record_bytes ver (bit b) = 0x12 ∷ b ∷ []
record_bytes ver (operation op l) = byte_of op ∷ wires_bytes l
record_bytes ver (choice c a b) = 0x30 ∷ wires_bytes (c ∷ a ∷ b ∷ [])
record_bytes ver (pick l) = 0x31 ∷ length l ∷ wires_bytes (pair_wires l)
record_bytes ver (guard cs t) = 0x32 ∷ length cs ∷ (wires_bytes cs ++ bytes_of (table_bytes ver) t)

-- "Each record begins where the one before ended."
abbrev pub records_bytes : Version → List Record → List ℕ
records_bytes ver [] = []
records_bytes ver (r ∷ R) = record_bytes ver r ++ records_bytes ver R

-- a circuit file of v variables
abbrev pub file_bytes : Version → ℕ → List Record → List ℕ → List ℕ
file_bytes ver v R outputs = mark ver ++ (v ∷ (bytes_of 2 (length R) ++ (records_bytes ver R ++ wires_bytes outputs)))
