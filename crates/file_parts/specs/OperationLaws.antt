-- The bytes of an operation's record by its code; the kind of a record's wire by its code: an operation's, and that of all records but a choice and a pick.
use Rattle.std.specs.Prelude.{ℕ, ◌≤◌, ◌≡◌, List, get_or}
use Rattle.std.proofs.Common.{sym, ap, arith}
use Rattle.base.specs.Codes.{entry_of, byte_of}
use Rattle.base.specs.declared.Kind.{Kind}
use Rattle.base.specs.declared.Kind.TheVariants as kind
use Rattle.base.specs.declared.Operation.{Operation}
use Rattle.base.specs.declared.Operation.TheVariants.{Sum, Difference, Product, LessThan, Equal, And, Or, Not}
use Rattle.file.specs.WireKinds.{record_kind}
use Rattle.file.specs.FileFigures.{record_at, size_at}
use Rattle.file.specs.FoundForms.{form_operation}
use Rattle.file.specs.RecordBounds.{Coded, is_input, is_word, is_bit_lem, is_operation, is_choice, is_pick, is_guard, known_coded}
use Rattle.file.specs.LaidOut.{WholeAt}
use Rattle.file_parts.specs.HeldKinds.{held_kind}
use Rattle.file_parts.specs.HeldLaws.{input_kind, word_kind, bit_kind, guard_kind}

module _ (f : List ℕ) (at : ℕ) where
  -- not has one wire
  pub not_size : get_or f at 0 ≡ 0x27 → 3 ≡ size_at f at
  not_size h = sym (form_operation f at Not h).1

  -- what is none of the other codes has two
  pub two_size : {N : Type 0} → WholeAt f at
      → ((((((((N × (get_or f at 0 ≡ 0x00 → ⊥)) × (get_or f at 0 ≡ 0x01 → ⊥)) × (get_or f at 0 ≡ 0x11 → ⊥)) × (get_or f at 0 ≡ 0x12 → ⊥)) × (get_or f at 0 ≡ 0x27 → ⊥)) × (get_or f at 0 ≡ 0x30 → ⊥))
      × (get_or f at 0 ≡ 0x31 → ⊥)) × (get_or f at 0 ≡ 0x32 → ⊥))
      → 5 ≡ size_at f at
  two_size whole r = go (known_coded (get_or f at 0) whole.known)
    where
      go : Coded (get_or f at 0) → 5 ≡ size_at f at
      go (is_input kind.Word e) = absurd (r.0.0.0.0.0.0.0.1 e)
      go (is_input kind.Bit e) = absurd (r.0.0.0.0.0.0.1 e)
      go (is_word e) = absurd (r.0.0.0.0.0.1 e)
      go (is_bit_lem e) = absurd (r.0.0.0.0.1 e)
      go (is_operation Sum e) = sym (form_operation f at Sum e).1
      go (is_operation Difference e) = sym (form_operation f at Difference e).1
      go (is_operation Product e) = sym (form_operation f at Product e).1
      go (is_operation LessThan e) = sym (form_operation f at LessThan e).1
      go (is_operation Equal e) = sym (form_operation f at Equal e).1
      go (is_operation And e) = sym (form_operation f at And e).1
      go (is_operation Or e) = sym (form_operation f at Or e).1
      go (is_operation Not e) = absurd (r.0.0.0.1 e)
      go (is_choice e) = absurd (r.0.0.1 e)
      go (is_pick e) = absurd (r.0.1 e)
      go (is_guard e) = absurd (r.1 e)

  module _ (kinds : List Kind) where
    pub operation_gives : (op : Operation) → get_or f at 0 ≡ byte_of op → (entry_of op).gives ≡ record_kind (held_kind kinds) (record_at f at)
    operation_gives op e = ap (record_kind (held_kind kinds)) (sym (form_operation f at op e).0)

    -- of what is neither a choice nor a pick, a word is given by some codes up to that of a product, a bit by the others
    module _ (whole : WholeAt f at) where
      pub word_gives : get_or f at 0 ≤ 0x22 → (get_or f at 0 ≡ 0x01 → ⊥) → (get_or f at 0 ≡ 0x12 → ⊥) → kind.Word ≡ record_kind (held_kind kinds) (record_at f at)
      word_gives h input constant = go (known_coded (get_or f at 0) whole.known)
        where
          go : Coded (get_or f at 0) → kind.Word ≡ record_kind (held_kind kinds) (record_at f at)
          go (is_input kind.Word e) = input_kind f at kinds kind.Word e
          go (is_input kind.Bit e) = absurd (input e)
          go (is_word e) = word_kind f at kinds e
          go (is_bit_lem e) = absurd (constant e)
          go (is_operation Sum e) = operation_gives Sum e
          go (is_operation Difference e) = operation_gives Difference e
          go (is_operation Product e) = operation_gives Product e
          go (is_operation LessThan e) = absurd (omega arith)
          go (is_operation Equal e) = absurd (omega arith)
          go (is_operation And e) = absurd (omega arith)
          go (is_operation Or e) = absurd (omega arith)
          go (is_operation Not e) = absurd (omega arith)
          go (is_choice e) = absurd (omega arith)
          go (is_pick e) = absurd (omega arith)
          go (is_guard e) = absurd (omega arith)

      pub bit_gives : (get_or f at 0 ≡ 0x00 → ⊥) → (get_or f at 0 ≡ 0x11 → ⊥) → (0x20 ≤ get_or f at 0 → 0x23 ≤ get_or f at 0) → (get_or f at 0 ≡ 0x30 → ⊥) → (get_or f at 0 ≡ 0x31 → ⊥)
          → kind.Bit ≡ record_kind (held_kind kinds) (record_at f at)
      bit_gives input constant operation choice pick = go (known_coded (get_or f at 0) whole.known)
        where
          go : Coded (get_or f at 0) → kind.Bit ≡ record_kind (held_kind kinds) (record_at f at)
          go (is_input kind.Word e) = absurd (input e)
          go (is_input kind.Bit e) = input_kind f at kinds kind.Bit e
          go (is_word e) = absurd (constant e)
          go (is_bit_lem e) = bit_kind f at kinds e
          go (is_operation Sum e) = absurd (omega arith)
          go (is_operation Difference e) = absurd (omega arith)
          go (is_operation Product e) = absurd (omega arith)
          go (is_operation LessThan e) = operation_gives LessThan e
          go (is_operation Equal e) = operation_gives Equal e
          go (is_operation And e) = operation_gives And e
          go (is_operation Or e) = operation_gives Or e
          go (is_operation Not e) = operation_gives Not e
          go (is_choice e) = absurd (choice e)
          go (is_pick e) = absurd (pick e)
          go (is_guard e) = guard_kind f at kinds e
