-- The record at a place of a file, by its first byte: which record is read there, and how many bytes it has; one at least.
use Rattle.std.specs.Prelude.{◌≡◌, refl, List, ℕ, ◌+◌, ◌*◌, ◌≤◌}
use Rattle.std.proofs.Common.{sym, ap₂, subst, ◌∙◌, arith}
use Rattle.std.proofs.Math.Path.{ap}
use Rattle.std.proofs.Math.ListN.{length, get_or}
use borrow.Author.Tests.{ne_eqb}
use Rattle.base.specs.Lists.{◌∈◌}
use Rattle.base.specs.Numbers.{number_at}
use Rattle.base.specs.Codes.{entry_of, operation_of, byte_of, code_of, start_code}
use Rattle.base.specs.declared.Kind.{Kind}
use Rattle.base.specs.declared.Kind.TheVariants as kind
use Rattle.base.specs.declared.Operation.{Operation}
use Rattle.base.specs.declared.Code.{Code}
use Rattle.base.specs.CodeLaws.{byte_operation, code_back}
use Rattle.file.specs.Records.{Record, input, word, bit, operation, choice, pick, guard}
use Rattle.file.specs.Versions.{table_bytes}
use Rattle.file.specs.FileFigures.{version_in, wires_at, pairs_at, record_at, size_at}
use Rattle.file.specs.CircuitFile.{record_bytes}
use Rattle.file.specs.SizeLaws.{input_size, word_size, bit_size, operation_size, choice_size, pick_size, guard_size}
use Rattle.file.specs.FilePartLaws.{wires_length, pairs_length}
use Rattle.file.specs.RecordBounds.{operation_code_lem, Coded, is_input, is_word, is_bit_lem, is_operation, is_choice, is_pick, is_guard, known_coded, some_byte}
use Rattle.file.specs.LaidOut.{record_codes}

-- a byte that begins no input, constant, choice, pick or guard
pub record OtherByte (b : ℕ) : Type 0 where
  pub no_word : b ≡ 0x00 → ⊥
  pub no_bit : b ≡ 0x01 → ⊥
  pub no_word_constant : b ≡ 0x11 → ⊥
  pub no_bit_constant : b ≡ 0x12 → ⊥
  pub no_choice : b ≡ 0x30 → ⊥
  pub no_pick : b ≡ 0x31 → ⊥
  pub no_guard : b ≡ 0x32 → ⊥

-- an operation's byte is such a byte
operation_other : (op : Operation) → OtherByte (byte_of op)
operation_other op =
    let (known, low, high) = operation_code_lem op in
    record {
      no_word = λ e. omega arith;
      no_bit = λ e. omega arith;
      no_word_constant = λ e. omega arith;
      no_bit_constant = λ e. omega arith;
      no_choice = λ e. omega arith;
      no_pick = λ e. omega arith;
      no_guard = λ e. omega arith;
    }

-- and of the codes of records only an operation's is
pub operation_byte_lem : (b : ℕ) → b ∈ record_codes → OtherByte b → (0x20 ≤ b) × (b ≤ 0x27)
operation_byte_lem b m o = go (known_coded b m)
  where
    go : Coded b → (0x20 ≤ b) × (b ≤ 0x27)
    go (is_input kind.Word e) = absurd (o.no_word e)
    go (is_input kind.Bit e) = absurd (o.no_bit e)
    go (is_word e) = absurd (o.no_word_constant e)
    go (is_bit_lem e) = absurd (o.no_bit_constant e)
    go (is_operation op e) = rw e ((operation_code_lem op).1, (operation_code_lem op).2)
    go (is_choice e) = absurd (o.no_choice e)
    go (is_pick e) = absurd (o.no_pick e)
    go (is_guard e) = absurd (o.no_guard e)

module _ (x : List ℕ) (at : ℕ) where
  -- the record that is read, and how many bytes it has
  read_as : (r : Record) (n : ℕ) → record_at x at ≡ r → length (record_bytes (version_in x) r) ≡ n → (record_at x at ≡ r) × (size_at x at ≡ n)
  unfolding size_at
  read_as r n e s = (e, ap (λ (q : Record). length (record_bytes (version_in x) q)) e ∙ s)

  operation_as : (op : Operation) (n : ℕ) → record_at x at ≡ operation op (wires_at n x (at + 1))
      → (record_at x at ≡ operation op (wires_at n x (at + 1))) × (size_at x at ≡ 1 + 2 * n)
  operation_as op n e =
      read_as (operation op (wires_at n x (at + 1))) (1 + 2 * n) e (operation_size (version_in x) op (wires_at n x (at + 1)) ∙ ap (λ (k : ℕ). 1 + 2 * k) (wires_length n x (at + 1)))

  pub form_input : (k : Kind) → get_or x at 0 ≡ start_code k → (record_at x at ≡ input k (get_or x (at + 1) 0)) × (size_at x at ≡ 2)
  unfolding record_at
  form_input kind.Word h = read_as (input kind.Word (get_or x (at + 1) 0)) 2 (rw h) (input_size (version_in x) kind.Word (get_or x (at + 1) 0))
  form_input kind.Bit h = read_as (input kind.Bit (get_or x (at + 1) 0)) 2 (rw h) (input_size (version_in x) kind.Bit (get_or x (at + 1) 0))

  pub form_word : get_or x at 0 ≡ 0x11 → (record_at x at ≡ word (number_at 4 x (at + 1))) × (size_at x at ≡ 5)
  unfolding record_at
  form_word h = read_as (word (number_at 4 x (at + 1))) 5 (rw h) (word_size (version_in x) (number_at 4 x (at + 1)))

  pub form_bit : get_or x at 0 ≡ 0x12 → (record_at x at ≡ bit (get_or x (at + 1) 0)) × (size_at x at ≡ 2)
  unfolding record_at
  form_bit h = read_as (bit (get_or x (at + 1) 0)) 2 (rw h) (bit_size (version_in x) (get_or x (at + 1) 0))

  pub form_choice : get_or x at 0 ≡ 0x30
      → (record_at x at ≡ choice (number_at 2 x (at + 1)) (number_at 2 x (at + 3)) (number_at 2 x (at + 5))) × (size_at x at ≡ 7)
  unfolding record_at
  form_choice h =
      read_as (choice (number_at 2 x (at + 1)) (number_at 2 x (at + 3)) (number_at 2 x (at + 5))) 7 (rw h)
      (choice_size (version_in x) (number_at 2 x (at + 1)) (number_at 2 x (at + 3)) (number_at 2 x (at + 5)))

  pub form_pick : get_or x at 0 ≡ 0x31 → (record_at x at ≡ pick (pairs_at (get_or x (at + 1) 0) x (at + 2))) × (size_at x at ≡ 2 + 4 * get_or x (at + 1) 0)
  unfolding record_at
  form_pick h =
      let n = get_or x (at + 1) 0 in
      read_as (pick (pairs_at n x (at + 2))) (2 + 4 * n) (rw h) (pick_size (version_in x) (pairs_at n x (at + 2)) ∙ ap (λ (k : ℕ). 2 + 4 * k) (pairs_length n x (at + 2)))

  pub form_guard : get_or x at 0 ≡ 0x32
      → (record_at x at ≡ guard (wires_at (get_or x (at + 1) 0) x (at + 2)) (number_at (table_bytes (version_in x)) x (at + 2 + 2 * get_or x (at + 1) 0)))
      × (size_at x at ≡ 2 + 2 * get_or x (at + 1) 0 + table_bytes (version_in x))
  unfolding record_at
  form_guard h =
      let n = get_or x (at + 1) 0 in
      read_as (guard (wires_at n x (at + 2)) (number_at (table_bytes (version_in x)) x (at + 2 + 2 * n))) (2 + 2 * n + table_bytes (version_in x)) (rw h)
      (guard_size (version_in x) (wires_at n x (at + 2)) (number_at (table_bytes (version_in x)) x (at + 2 + 2 * n))
      ∙ ap (λ (k : ℕ). 2 + 2 * k + table_bytes (version_in x)) (wires_length n x (at + 2)))

  pub form_other : OtherByte (get_or x at 0)
      → (record_at x at ≡ operation (operation_of (get_or x at 0)) (wires_at (code_of (get_or x at 0)).arity x (at + 1))) × (size_at x at ≡ 1 + 2 * (code_of (get_or x at 0)).arity)
  unfolding record_at
  form_other o =
      operation_as (operation_of (get_or x at 0)) (code_of (get_or x at 0)).arity (simp (
        ne_eqb _ 0x00 o.no_word,
        ne_eqb _ 0x01 o.no_bit,
        ne_eqb _ 0x11 o.no_word_constant,
        ne_eqb _ 0x12 o.no_bit_constant,
        ne_eqb _ 0x30 o.no_choice,
        ne_eqb _ 0x31 o.no_pick,
        ne_eqb _ 0x32 o.no_guard,
      ) refl)

  pub form_operation : (op : Operation) → get_or x at 0 ≡ byte_of op
      → (record_at x at ≡ operation op (wires_at (entry_of op).arity x (at + 1))) × (size_at x at ≡ 1 + 2 * (entry_of op).arity)
  form_operation op h =
      let f = form_other (subst OtherByte (sym h) (operation_other op)) in
      let o : operation_of (get_or x at 0) ≡ op = ap operation_of h ∙ byte_operation op in
      let n : (code_of (get_or x at 0)).arity ≡ (entry_of op).arity = ap (λ (b : ℕ). (code_of b).arity) h ∙ ap (λ (c : Code). c.arity) (code_back op) in
      (f.0 ∙ ap₂ (λ (q : Operation) (k : ℕ). operation q (wires_at k x (at + 1))) o n, f.1 ∙ ap (λ (k : ℕ). 1 + 2 * k) n)

-- every record has a byte at least
pub size_some : (x : List ℕ) (at : ℕ) → 1 ≤ size_at x at
unfolding size_at
size_some x at = some_byte (version_in x) (record_at x at)
