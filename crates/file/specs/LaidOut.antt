-- Document 02, C-11, row 61: when bytes are laid out as a circuit file: the mark and version, a known code, all its bytes and the bounds of its form for every record,
-- and outputs that end where the file ends. It says nothing of what the records read.
use Rattle.std.specs.Prelude.{ℕ, ◌+◌, ◌*◌, ◌≤◌, ◌<◌, ◌≡◌, List, [], ◌∷◌, length, take, get_or}
use Rattle.base.specs.Lists.{◌∈◌}
use Rattle.file.specs.Records.{Record, input, word, bit, operation, choice, pick, guard}
use Rattle.file.specs.CircuitFile.{mark}
use Rattle.file.specs.FileFigures.{version_in, record_at, size_at, place_after, first_record, file_variables, wire_count}
use Rattle.file.specs.Versions.{Version, most_guard_wires}

-- the bytes that a record begins with
abbrev pub record_codes : List ℕ
record_codes = 0x00 ∷ 0x01 ∷ 0x11 ∷ 0x12 ∷ 0x20 ∷ 0x21 ∷ 0x22 ∷ 0x23 ∷ 0x24 ∷ 0x25 ∷ 0x26 ∷ 0x27 ∷ 0x30 ∷ 0x31 ∷ 0x32 ∷ []

-- a bit constant is 00 or 01, a pick has a pair, a guard as many wires at most as its version allows
abbrev pub Bounded : Version → Record → Type 0
Bounded ver (input k x) = Unit {0}
Bounded ver (word n) = Unit {0}
Bounded ver (bit b) = b ≤ 1
Bounded ver (operation op l) = Unit {0}
Bounded ver (choice c a b) = Unit {0}
Bounded ver (pick l) = 1 ≤ length l
Bounded ver (guard cs t) = length cs ≤ most_guard_wires ver

-- the place of record i; for the wire count, that of the output wires
abbrev pub record_place : List ℕ → ℕ → ℕ
record_place f i = place_after i f first_record

-- a whole record begins at a place
pub record WholeAt (f : List ℕ) (at : ℕ) : Type 0 where
  -- with the code of one
  pub known : get_or f at 0 ∈ record_codes
  -- its bytes are there
  pub inside : at + size_at f at ≤ length f
  -- and it keeps within its bounds
  pub bounded : Bounded (version_in f) (record_at f at)

-- the bytes f are laid out as a circuit file
pub record LaidOut (f : List ℕ) : Type 0 where
  -- the bytes before the records are there
  pub headed : first_record ≤ length f
  -- the mark, and one of the two versions
  pub marked : take (length (mark (version_in f))) f ≡ mark (version_in f)
  -- every record is whole
  pub whole : (i : ℕ) → i < wire_count f → WholeAt f (record_place f i)
  -- an output for each variable, and nothing after them
  pub ended : record_place f (wire_count f) + 2 * file_variables f ≡ length f
