-- Document 02, C-11: the rows 60, 61 and 62 of a circuit file, each over the whole file, as tests. Which files pass them, said without a reader: `WellFormed` (WellFormed.antt).
use Rattle.std.specs.Prelude.{ℕ, zero, suc, ◌+◌, ◌*◌, ◌^◌, List, [], ◌∷◌, Bool, true, ◌&&◌, ◌||◌, cond, eqb, leb, ltb, length, take, get_or}
use Rattle.base.specs.Lists.{elem, every, same}
use Rattle.base.specs.Codes.{same_kind, entry_of}
use Rattle.base.specs.declared.Kind.{Kind}
use Rattle.base.specs.declared.Kind.TheVariants as kind
use Rattle.file.specs.Records.{Record, input, word, bit, operation, choice, pick, guard, reads}
use Rattle.file.specs.Versions.{Version, one, two, most_guard_wires}
use Rattle.file.specs.WireKinds.{guards_of, values_of, record_kind, wire_kind}
use Rattle.file.specs.CircuitFile.{mark, no_wire}
use Rattle.file.specs.FileFigures.{version_in, record_at, size_at, first_record, file_variables, wire_count, file_records, file_outputs}
use Rattle.file.specs.Limits.{most_file_bytes, most_file_variables, most_wires}
use Rattle.file.specs.LaidOut.{record_codes}

-- the file begins with the mark of a version; of either, since "the reader takes both versions" (C-17)
abbrev pub marked_as : Version → List ℕ → Bool
marked_as ver f = same (take (length (mark ver)) f) (mark ver)

abbrev pub marked : List ℕ → Bool
marked f = marked_as one f || marked_as two f

-- "60 when the file is under 8 or over 16,384 bytes, has another mark or version, V outside 1 to 32 or over 640 wires": none of it
unfoldable pub headed : List ℕ → Bool
headed f =
    leb first_record (length f) && leb (length f) most_file_bytes && marked f
    && leb 1 (file_variables f) && leb (file_variables f) most_file_variables && leb (wire_count f) most_wires

-- "61 when a code is unknown, a record or the outputs run past the end, bytes are left, a bit constant is above 01, a guard has over 6 wires or a pick has no pair": none of it;
-- C-17: "61 allows 8 guard wires in version 2"
abbrev pub bounded : Version → Record → Bool
bounded ver (input k x) = true
bounded ver (word n) = true
bounded ver (bit b) = leb b 1
bounded ver (operation op l) = true
bounded ver (choice c a b) = true
bounded ver (pick l) = leb 1 (length l)
bounded ver (guard cs t) = leb (length cs) (most_guard_wires ver)

unfoldable pub whole_at : List ℕ → ℕ → Bool
whole_at f at = elem (get_or f at 0) record_codes && leb (at + size_at f at) (length f) && bounded (version_in f) (record_at f at)

-- n records from the place at on, and then the outputs
abbrev pub laid_from : ℕ → List ℕ → ℕ → Bool
laid_from zero f at = eqb (at + 2 * file_variables f) (length f)
laid_from (suc n) f at = whole_at f at && laid_from n f (at + size_at f at)

unfoldable pub laid : List ℕ → Bool
laid f = laid_from (wire_count f) f first_record

-- "62 when the inputs are not exactly the first V records in order, a record reads a wire that is not earlier or of the wrong kind (the values of one choice or pick share a
-- kind), a guard has a table bit set from 2^d up, or an output is no wire or not of its variable's kind": none of it. i is a record's number, k the kinds of the wires.
abbrev pub input_in_place : ℕ → ℕ → Record → Bool
input_in_place v i (input j x) = ltb i v && eqb x i
input_in_place v i (word n) = leb v i
input_in_place v i (bit b) = leb v i
input_in_place v i (operation op l) = leb v i
input_in_place v i (choice c a b) = leb v i
input_in_place v i (pick l) = leb v i
input_in_place v i (guard cs t) = leb v i

abbrev pub all_of : (ℕ → Kind) → Kind → List ℕ → Bool
all_of k j l = every (λ w. same_kind (k w) j) l

abbrev pub kinds_fit : (ℕ → Kind) → Record → Bool
kinds_fit k (input j x) = true
kinds_fit k (word n) = true
kinds_fit k (bit b) = true
kinds_fit k (operation op l) = all_of k (entry_of op).takes l
kinds_fit k (choice c a b) = same_kind (k c) kind.Bit && same_kind (k b) (k a)
kinds_fit k (pick l) = all_of k kind.Bit (guards_of l) && all_of k (record_kind k (pick l)) (values_of l)
kinds_fit k (guard cs t) = all_of k kind.Bit cs

abbrev pub table_fits : Record → Bool
table_fits (input j x) = true
table_fits (word n) = true
table_fits (bit b) = true
table_fits (operation op l) = true
table_fits (choice c a b) = true
table_fits (pick l) = true
table_fits (guard cs t) = ltb t (2 ^ 2 ^ length cs)

unfoldable pub stands : ℕ → (ℕ → Kind) → ℕ → Record → Bool
stands v k i r = input_in_place v i r && every (λ w. ltb w i) (reads r) && kinds_fit k r && table_fits r

abbrev pub all_stand : ℕ → (ℕ → Kind) → ℕ → List Record → Bool
all_stand v k i [] = true
all_stand v k i (r ∷ R) = stands v k i r && all_stand v k (suc i) R

-- the output of variable x, of n wires: a wire of its kind, which is that of its input's wire. Document 02, C-13: "the circuit reader admits FF FF as an output"
abbrev pub output_stands : ℕ → (ℕ → Kind) → ℕ → ℕ → Bool
output_stands n k x w = eqb w no_wire || (ltb w n && same_kind (k w) (k x))

-- the outputs of the variables from x on
abbrev pub outputs_stand : ℕ → (ℕ → Kind) → ℕ → List ℕ → Bool
outputs_stand n k x [] = true
outputs_stand n k x (w ∷ l) = output_stands n k x w && outputs_stand n k (suc x) l

unfoldable pub standing : List ℕ → Bool
standing f =
    let k = wire_kind (file_records f) in
    leb (file_variables f) (wire_count f) && all_stand (file_variables f) k 0 (file_records f) && outputs_stand (wire_count f) k 0 (file_outputs f)

-- "They are checked in that order, each over the whole file": the row that refuses the file, 0 for none
unfoldable pub circuit_row : List ℕ → ℕ
circuit_row f = cond (headed f) (cond (laid f) (cond (standing f) 0 62) 61) 60
