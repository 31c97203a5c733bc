-- Row 62 for the record at a place of a file that is laid out: what the code may read of it, and what it answers, by its first byte.
use Rattle.std.specs.Prelude.{ℕ, zero, suc, ◌+◌, ◌*◌, ◌^◌, ◌≤◌, ◌<◌, ◌≡◌, refl, List, Bool, true, false, ◌&&◌, eqb, leb, ltb, length, get_or}
use Rattle.std.proofs.Common.{sym, ap, subst, ◌∙◌, arith, lt-ltb, le-ltb, le-leb}
use Rattle.std.proofs.lemmas.Bool.{lt-leb}
use Rattle.base.specs.Lists.{every}
use Rattle.base.specs.Numbers.{number_at}
use Rattle.base.specs.Codes.{entry_of, operation_of, code_of}
use Rattle.base.specs.CodeLaws.{code_operation}
use Rattle.base.specs.declared.Kind.{Kind}
use Rattle.base.specs.declared.Kind.TheVariants as kind
use Rattle.base.specs.declared.Code.{Code}
use Rattle.file.specs.Records.{Record, pick}
use Rattle.file.specs.WireKinds.{record_kind}
use Rattle.file.specs.FileFigures.{version_in, wires_at, pairs_at, record_at}
use Rattle.file.specs.FilePartLaws.{wires_length, pairs_length}
use Rattle.file.specs.FoundForms.{OtherByte, operation_byte_lem, form_input, form_word, form_bit, form_choice, form_pick, form_guard, form_other, form_operation}
use Rattle.file.specs.RecordBounds.{Coded, is_input, is_word, is_bit_lem, is_operation, is_choice, is_pick, is_guard, known_coded}
use Rattle.file.specs.LaidOut.{Bounded, WholeAt}
use Rattle.file.specs.Versions.{most_guard_wires, table_bytes}
use Rattle.file.specs.CircuitRows.{stands}
use Rattle.file_parts.specs.FirstByteLaws.{input_code}
use Rattle.file_wiring.specs.Wires.{fits, wires_by}
use Rattle.file_wiring.specs.FormLaws.{input_stands, word_stands, bit_stands, operation_stands, choice_stands, pick_stands, guard_stands, wires_by_lem, guards_by, values_by}

module _ (f : List ℕ) (at : ℕ) (whole : WholeAt f at) where
  -- what may be read of it
  pub input_takes : get_or f at 0 < 2 → at + 1 < length f
  input_takes h = let (k, e) = input_code (get_or f at 0) h in omega (arith, whole.inside, (form_input f at k e).1)

  pub choice_takes : get_or f at 0 ≡ 0x30 → at + 7 ≤ length f
  choice_takes h = omega (arith, whole.inside, (form_choice f at h).1)

  pub pick_takes : get_or f at 0 ≡ 0x31 → (at + 2 + 4 * get_or f (at + 1) 0 ≤ length f) × (1 ≤ get_or f (at + 1) 0)
  pick_takes h = (
    omega (arith, whole.inside, (form_pick f at h).1),
    rw (pairs_length (get_or f (at + 1) 0) f (at + 2)) at (subst (Bounded (version_in f)) (form_pick f at h).0 whole.bounded),
  )

  pub guard_takes : get_or f at 0 ≡ 0x32 → (at + 2 + 2 * get_or f (at + 1) 0 + table_bytes (version_in f) ≤ length f) × (get_or f (at + 1) 0 ≤ most_guard_wires (version_in f))
  guard_takes h = (
    omega (arith, whole.inside, (form_guard f at h).1),
    rw (wires_length (get_or f (at + 1) 0) f (at + 2)) at (subst (Bounded (version_in f)) (form_guard f at h).0 whole.bounded),
  )

  pub operation_takes : OtherByte (get_or f at 0) → at + (1 + 2 * (code_of (get_or f at 0)).arity) ≤ length f
  operation_takes o = subst (λ (n : ℕ). at + n ≤ length f) (form_other f at o).1 whole.inside

  -- what the code answers; k: the kinds as its table holds them
  module _ (v i : ℕ) (k : ℕ → Kind) where
    by : (r : Record) (b c : Bool) → record_at f at ≡ r → stands v k i r ≡ c → b ≡ c → b ≡ stands v k i (record_at f at)
    by r b c e s q = q ∙ sym s ∙ ap (stands v k i) (sym e)

    pub input_in : get_or f at 0 < 2 → i < v → (n : ℕ) → n ≡ get_or f (at + 1) 0 → eqb n i ≡ stands v k i (record_at f at)
    input_in h l n e =
        let (j, q) = input_code (get_or f at 0) h in
        by _ _ _ (form_input f at j q).0 (input_stands v k i j (get_or f (at + 1) 0)) (rw (lt-ltb i v l, e))

    pub input_late : get_or f at 0 < 2 → v ≤ i → false ≡ stands v k i (record_at f at)
    input_late h l =
        let (j, q) = input_code (get_or f at 0) h in
        by _ _ _ (form_input f at j q).0 (input_stands v k i j (get_or f (at + 1) 0)) (rw (le-ltb i v l))

    -- no other record stands before the inputs
    pub early : 2 ≤ get_or f at 0 → i < v → false ≡ stands v k i (record_at f at)
    early h l = go (known_coded (get_or f at 0) whole.known)
      where
        none : (b : Bool) → false ≡ (leb v i && b)
        none b = rw (lt-leb v i l)

        go : Coded (get_or f at 0) → false ≡ stands v k i (record_at f at)
        go (is_input kind.Word e) = absurd (omega arith)
        go (is_input kind.Bit e) = absurd (omega arith)
        go (is_word e) = by _ _ _ (form_word f at e).0 (word_stands v k i _) (rw (lt-leb v i l))
        go (is_bit_lem e) = by _ _ _ (form_bit f at e).0 (bit_stands v k i _) (rw (lt-leb v i l))
        go (is_operation op e) = by _ _ _ (form_operation f at op e).0 (operation_stands v k i op _) (none _)
        go (is_choice e) = by _ _ _ (form_choice f at e).0 (choice_stands v k i _ _ _) (none _)
        go (is_pick e) = by _ _ _ (form_pick f at e).0 (pick_stands v k i _) (none _)
        go (is_guard e) = by _ _ _ (form_guard f at e).0 (guard_stands v k i _ _) (none _)

    module _ (l : v ≤ i) where
      late : {b c : Bool} → b ≡ c → b ≡ (leb v i && c)
      late e = rw (le-leb v i l) e

      pub word_in : get_or f at 0 ≡ 0x11 → true ≡ stands v k i (record_at f at)
      word_in h = by _ _ _ (form_word f at h).0 (word_stands v k i _) (sym (le-leb v i l))

      pub bit_in_lem : get_or f at 0 ≡ 0x12 → true ≡ stands v k i (record_at f at)
      bit_in_lem h = by _ _ _ (form_bit f at h).0 (bit_stands v k i _) (sym (le-leb v i l))

      pub choice_in : get_or f at 0 ≡ 0x30
          → (b : Bool) → b ≡ (fits i k kind.Bit (number_at 2 f (at + 1)) && every (fits i k (k (number_at 2 f (at + 3)))) (wires_by 2 2 f (at + 3)))
          → b ≡ stands v k i (record_at f at)
      choice_in h b q =
          let e : at + 3 + 2 ≡ at + 5 = omega arith in
          by _ _ _ (form_choice f at h).0 (choice_stands v k i (number_at 2 f (at + 1)) (number_at 2 f (at + 3)) (number_at 2 f (at + 5))) (late (rw e at q))

      -- a pick of one or more pairs is of its first value's kind
      first_kind : (n here : ℕ) → 1 ≤ n → k (number_at 2 f (here + 2)) ≡ record_kind k (pick (pairs_at n f here))
      first_kind zero here h = absurd (omega arith)
      first_kind (suc n) here h = refl

      pub pick_in : get_or f at 0 ≡ 0x31 → (n : ℕ) → n ≡ get_or f (at + 1) 0
          → (b : Bool) → b ≡ (every (fits i k kind.Bit) (wires_by 4 n f (at + 2)) && every (fits i k (k (number_at 2 f (at + 2 + 2)))) (wires_by 4 n f (at + 2 + 2)))
          → b ≡ stands v k i (record_at f at)
      pick_in h n e b q =
          let N = get_or f (at + 1) 0 in
          by _ _ _ (form_pick f at h).0 (pick_stands v k i (pairs_at N f (at + 2)))
          (late (rw (guards_by N f (at + 2), values_by N f (at + 2), ← first_kind N (at + 2) (pick_takes h).1) (rw e at q)))

      pub guard_in_lem : get_or f at 0 ≡ 0x32
          → (b : Bool)
          → b ≡ (every (fits i k kind.Bit) (wires_by 2 (get_or f (at + 1) 0) f (at + 2))
          && ltb (number_at (table_bytes (version_in f)) f (at + 2 + 2 * get_or f (at + 1) 0)) (2 ^ 2 ^ get_or f (at + 1) 0))
          → b ≡ stands v k i (record_at f at)
      guard_in_lem h b q =
          let N = get_or f (at + 1) 0 in
          by _ _ _ (form_guard f at h).0 (guard_stands v k i (wires_at N f (at + 2)) (number_at (table_bytes (version_in f)) f (at + 2 + 2 * N)))
          (late (rw (wires_length N f (at + 2), wires_by_lem N f (at + 2)) q))

      pub operation_in_lem : OtherByte (get_or f at 0)
          → (b : Bool) → b ≡ every (fits i k (code_of (get_or f at 0)).takes) (wires_by 2 (code_of (get_or f at 0)).arity f (at + 1))
          → b ≡ stands v k i (record_at f at)
      operation_in_lem o b q =
          let (low, high) = operation_byte_lem (get_or f at 0) whole.known o in
          let c : (code_of (get_or f at 0)).takes ≡ (entry_of (operation_of (get_or f at 0))).takes = ap (λ (x : Code). x.takes) (code_operation (get_or f at 0) low high) in
          by _ _ _ (form_other f at o).0 (operation_stands v k i _ _) (late (rw (wires_by_lem (code_of (get_or f at 0)).arity f (at + 1), ← c) q))
