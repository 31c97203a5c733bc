-- Document 01, "The rule file", "arguments to result" of the operation table, and document 02, C-11, "a wire .. of the wrong kind": the kind of each wire, worked out record by record as figures are.
use Rattle.std.specs.Prelude.{ℕ, ◌≡◌, List, [], ◌∷◌}
use Rattle.base.specs.Lists.{◌∈◌}
use Rattle.base.specs.Runs.{run_at}
use Rattle.base.specs.Codes.{entry_of}
use Rattle.base.specs.declared.Kind.{Kind}
use Rattle.base.specs.declared.Kind.TheVariants as kind
use Rattle.file.specs.Records.{Pair, Record, input, word, bit, operation, choice, pick, guard}

-- the guards and the values of a pick
abbrev pub guards_of : List Pair → List ℕ
guards_of [] = []
guards_of (p ∷ l) = p.guarding ∷ guards_of l

abbrev pub values_of : List Pair → List ℕ
values_of [] = []
values_of (p ∷ l) = p.value ∷ values_of l

-- the kind of a record's wire, from the kinds k of other wires: a choice and a pick are of their first value's kind; a pick without a pair gives 0, a word
abbrev pub record_kind : (ℕ → Kind) → Record → Kind
record_kind k (input j x) = j
record_kind k (word n) = kind.Word
record_kind k (bit b) = kind.Bit
record_kind k (operation op l) = (entry_of op).gives
record_kind k (choice c a b) = k a
record_kind k (pick []) = kind.Word
record_kind k (pick (p ∷ l)) = k p.value
record_kind k (guard cs t) = kind.Bit

-- the kind of wire i
unfoldable pub wire_kind : List Record → ℕ → Kind
wire_kind R i = run_at kind.Word record_kind R i

-- the wires of a list are all of one kind
abbrev pub AllOf : (ℕ → Kind) → Kind → List ℕ → Type 0
AllOf k j l = (w : ℕ) → w ∈ l → k w ≡ j

-- a record reads wires of the right kinds: an operation what the table says, a choice a bit and two values of one kind, a pick bits and values of one kind, a guard bits
abbrev pub RecordFits : (ℕ → Kind) → Record → Type 0
RecordFits k (input j x) = Unit {0}
RecordFits k (word n) = Unit {0}
RecordFits k (bit b) = Unit {0}
RecordFits k (operation op l) = AllOf k (entry_of op).takes l
RecordFits k (choice c a b) = (k c ≡ kind.Bit) × (k b ≡ k a)
RecordFits k (pick l) = AllOf k kind.Bit (guards_of l) × AllOf k (record_kind k (pick l)) (values_of l)
RecordFits k (guard cs t) = AllOf k kind.Bit cs
