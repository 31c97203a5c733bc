-- Document 02, C-11: the circuits whose files are read, said without a reader: a list of records and outputs for v variables that rows 60 to 62 find no fault with,
-- as the file of a version.
-- That a file passes the rows exactly when it is the bytes of one: `circuit_format` (FormatLaws).
use Rattle.std.specs.Prelude.{ℕ, ◌^◌, ◌≤◌, ◌<◌, ◌≡◌, ◌⊎◌, List, length, get_or}
use Rattle.base.specs.declared.Kind.{Kind}
use Rattle.file.specs.Records.{Record, input, word, bit, operation, choice, pick, guard, record_in, ReadsEarlier, NotInput}
use Rattle.file.specs.WireKinds.{wire_kind, RecordFits}
use Rattle.file.specs.CircuitFile.{file_bytes, no_wire}
use Rattle.file.specs.FitRecords.{FileFits}
use Rattle.file.specs.LaidOut.{Bounded}
use Rattle.file.specs.Versions.{Version}
use Rattle.file.specs.Limits.{most_file_bytes, most_file_variables, most_wires}

-- a guard's table has no bit set from 2^d up
abbrev pub TableFits : Record → Type 0
TableFits (input k x) = Unit {0}
TableFits (word n) = Unit {0}
TableFits (bit b) = Unit {0}
TableFits (operation op l) = Unit {0}
TableFits (choice c a b) = Unit {0}
TableFits (pick l) = Unit {0}
TableFits (guard cs t) = t < 2 ^ 2 ^ length cs

-- 62: what the records and outputs of v variables are to each other; each then stands, is well-formed where it is
pub record Standing (v : ℕ) (R : List Record) (outputs : List ℕ) : Type 0 where
  -- the inputs are exactly the first V records, in order
  pub first : (x : ℕ) → x < v → (x < length R) × ((k : Kind) × (record_in R x ≡ input k x))
  pub later : (i : ℕ) → v ≤ i → NotInput (record_in R i)
  -- a record reads only earlier wires, of the right kinds, and a guard's table is no larger than its wires ask
  pub earlier : ReadsEarlier R
  pub kinds : (i : ℕ) → i < length R → RecordFits (wire_kind R) (record_in R i)
  pub tables : (i : ℕ) → i < length R → TableFits (record_in R i)
  -- an output is no wire, FF FF (C-13), or a wire of its variable's kind, which is that of its input's wire
  pub outs : (x : ℕ) → x < length outputs → (get_or outputs x 0 ≡ no_wire) ⊎ ((get_or outputs x 0 < length R) × (wire_kind R (get_or outputs x 0) ≡ wire_kind R x))

pub record WellFormed (ver : Version) (v : ℕ) (R : List Record) (outputs : List ℕ) : Type 0 where
  -- 60: 1 to 32 variables, at most 640 wires and 16,384 bytes
  pub some : 1 ≤ v
  pub few : v ≤ most_file_variables
  pub wires : length R ≤ most_wires
  pub size : length (file_bytes ver v R outputs) ≤ most_file_bytes
  -- 61: numbers that fit their bytes, an operation's wires and an output for each variable; bits, pairs and guards within their bounds
  pub fits : FileFits ver v R outputs
  pub bounded : (i : ℕ) → i < length R → Bounded ver (record_in R i)
  -- 62
  pub standing : Standing v R outputs
