-- Rows 40 to 42 for a circuit file that is read: which row the code's tests lead to, input by input, each kind told by the first byte of an input's record.
use Rattle.std.specs.Prelude.{ℕ, ◌+◌, ◌-◌, ◌*◌, ◌≤◌, ◌<◌, ◌≡◌, List, Bool, true, false, length, get_or}
use Rattle.std.proofs.Common.{sym, ap, ◌∙◌, arith}
use Rattle.base.specs.Lists.{from, upto}
use Rattle.base.specs.Codes.{start_kind, same_kind}
use Rattle.base.specs.declared.Kind.{Kind}
use Rattle.base.specs.declared.Kind.TheVariants as kind
use Rattle.base.specs.Inputs.{some_above, inputs_row}
use Rattle.base.specs.InputLaws.{above_all, above_none, above_here, above_low, above_word, row_count, row_bit, row_room, row_none}
use Rattle.file.specs.WireKinds.{wire_kind}
use Rattle.file.specs.FileFigures.{file_variables, file_records}
use Rattle.file.specs.CircuitRows.{circuit_row}
use Rattle.file.specs.FormatLaws.{Passed, row_passed}
use Rattle.file.specs.InputLaws.{input_inside, input_kind}

-- the row of the inputs of a file
abbrev pub file_inputs_row : List ℕ → List ℕ → ℕ → ℕ
file_inputs_row f inputs room = inputs_row (file_variables f) (wire_kind (file_records f)) inputs room

-- amid the inputs: those that are left decide
pub record AmidInputs (f inputs : List ℕ) (v x : ℕ) : Type 0 where
  pub passed : Passed f
  pub count : v ≡ file_variables f
  pub few : x ≤ v
  pub same : some_above (wire_kind (file_records f)) inputs (upto v) ≡ some_above (wire_kind (file_records f)) inputs (from x (v - x))

module _ (f inputs : List ℕ) (v : ℕ) (c : v ≡ file_variables f) where
  pub count_refused : (room : ℕ) → (length inputs ≡ v → ⊥) → 40 ≡ file_inputs_row f inputs room
  count_refused room h = sym (row_count (file_variables f) (wire_kind (file_records f)) inputs room (λ e. h (e ∙ sym c)))

  pub inputs_start : circuit_row f ≡ 0 → AmidInputs f inputs v 0
  inputs_start h = record { passed = row_passed f h; count = c; few = omega arith; same = above_all v (wire_kind (file_records f)) inputs }

module _ (f inputs : List ℕ) (v x : ℕ) (p : AmidInputs f inputs v x) where
  abbrev k : ℕ → Kind
  k = wire_kind (file_records f)

  module _ (h : x < v) where
    pub input_byte : 8 + 2 * x < length f
    input_byte = input_inside f p.passed x (omega (arith, p.count))

    here : (b : Bool) → b ≡ same_kind (start_kind (get_or f (8 + 2 * x) 0)) kind.Bit → same_kind (k x) kind.Bit ≡ b
    here b e = ap (λ (j : Kind). same_kind j kind.Bit) (input_kind f p.passed x (omega (arith, p.count))) ∙ sym e

    pub input_refused : length inputs ≡ v → 1 < get_or inputs x 0 → (b : Bool) → b ≡ same_kind (start_kind (get_or f (8 + 2 * x) 0)) kind.Bit → b ≡ true
        → (room : ℕ) → 41 ≡ file_inputs_row f inputs room
    input_refused n a b e t room =
        sym (row_bit (file_variables f) k inputs room (n ∙ p.count)
        (ap (λ (m : ℕ). some_above k inputs (upto m)) (sym p.count) ∙ p.same ∙ above_here v k inputs x h a (here b e ∙ t)))

    pub input_word : 1 < get_or inputs x 0 → (b : Bool) → b ≡ same_kind (start_kind (get_or f (8 + 2 * x) 0)) kind.Bit → b ≡ false → AmidInputs f inputs v (x + 1)
    input_word a b e t = record { passed = p.passed; count = p.count; few = omega arith; same = p.same ∙ above_word v k inputs x h a (here b e ∙ t) }

    pub input_low : get_or inputs x 0 ≤ 1 → AmidInputs f inputs v (x + 1)
    input_low a = record { passed = p.passed; count = p.count; few = omega arith; same = p.same ∙ above_low v k inputs x h a }

  module _ (h : v ≤ x) (n : length inputs ≡ v) where
    none : some_above k inputs (upto (file_variables f)) ≡ false
    none = ap (λ (m : ℕ). some_above k inputs (upto m)) (sym p.count) ∙ p.same ∙ above_none v k inputs x h

    pub room_refused : (room : ℕ) → room < v → 42 ≡ file_inputs_row f inputs room
    room_refused room l = sym (row_room (file_variables f) k inputs room (n ∙ p.count) none (omega (arith, p.count)))

    pub none_refused : (room : ℕ) → v ≤ room → 0 ≡ file_inputs_row f inputs room
    none_refused room l = sym (row_none (file_variables f) k inputs room (n ∙ p.count) none (omega (arith, p.count)))
