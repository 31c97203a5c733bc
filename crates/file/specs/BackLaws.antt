-- Laws for document 01, "The fused circuit file": the bytes of wires and of each form of record, taken apart and put together again, are the same bytes;
-- the theorems that rest on them are in InverseLaws.
use Rattle.std.specs.Prelude.{ℕ, zero, suc, ◌+◌, ◌*◌, ◌≤◌, ◌≡◌, refl, List, [], ◌∷◌, ◌++◌, length, drop, get_or}
use Rattle.std.proofs.Common.{sym, ap, ap₂, subst, ◌∙◌, append_assoc, inl, inr, arith}
use Rattle.base.specs.ListLaws.{drop_one, drop_two}
use Rattle.base.specs.Numbers.{bytes_of, number_at, Bytes}
use Rattle.base.specs.NumberLaws.{number_small, number_back}
use Rattle.base.specs.Codes.{entry_of, byte_of, start_code}
use Rattle.file.specs.Records.{Record, input, word, bit, operation, choice, pick, guard, pair_wires}
use Rattle.file.specs.Versions.{Version, table_bytes}
use Rattle.file.specs.CircuitFile.{wires_bytes, record_bytes}
use Rattle.file.specs.FileFigures.{version_in, wires_at, pairs_at, record_at, size_at}
use Rattle.file.specs.LaidOut.{WholeAt}
use Rattle.file.specs.FitRecords.{Wires, ReadsBack}
use Rattle.file.specs.FilePartLaws.{wires_length, pairs_length}
use Rattle.file.specs.RecordBounds.{Coded, is_input, is_word, is_bit_lem, is_operation, is_choice, is_pick, is_guard, known_coded}
use Rattle.file.specs.FoundForms.{form_input, form_word, form_bit, form_operation, form_choice, form_pick, form_guard}

-- the wires of n pairs are 2 n wires
pair_wires_lem : (n : ℕ) (f : List ℕ) (at : ℕ) → pair_wires (pairs_at n f at) ≡ wires_at (2 * n) f at
pair_wires_lem zero f at = refl
pair_wires_lem (suc n) f at =
    let e : suc (suc (2 * n)) ≡ 2 * suc n = omega arith in
    let p : at + 4 ≡ at + 2 + 2 = omega arith in
    ap (λ (l : List ℕ). number_at 2 f at ∷ number_at 2 f (at + 2) ∷ l) (pair_wires_lem n f (at + 4) ∙ ap (wires_at (2 * n) f) p)
    ∙ ap (λ (k : ℕ). wires_at k f at) e

module _ (f : List ℕ) (bytes : Bytes f) where
  -- its version and the bytes of its tables
  abbrev ver : Version
  ver = version_in f

  abbrev T : ℕ
  T = table_bytes ver

  -- the same bytes, then the rest from the same place
  at_place : (l : List ℕ) (a b : ℕ) → a ≡ b → l ++ drop a f ≡ l ++ drop b f
  at_place l a b e = ap (λ (k : ℕ). l ++ drop k f) e

  -- wires, and what is read of them fits two bytes
  pub wires_back : (n at : ℕ) → at + 2 * n ≤ length f → drop at f ≡ wires_bytes (wires_at n f at) ++ drop (at + 2 * n) f
  wires_back zero at h = let e : at ≡ at + 2 * 0 = omega arith in ap (λ (k : ℕ). drop k f) e
  wires_back (suc n) at h =
      let e : at + 2 + 2 * n ≡ at + 2 * suc n = omega arith in
      number_back 2 f at bytes (omega arith)
      ∙ ap (λ (r : List ℕ). bytes_of 2 (number_at 2 f at) ++ r) (wires_back n (at + 2) (omega arith) ∙ at_place (wires_bytes (wires_at n f (at + 2))) _ _ e)
      ∙ sym (append_assoc (bytes_of 2 (number_at 2 f at)) (wires_bytes (wires_at n f (at + 2))) (drop (at + 2 * suc n) f))

  pub wires_small : (n from : ℕ) → from + 2 * n ≤ length f → Wires (wires_at n f from)
  wires_small zero from h w m = absurd m
  wires_small (suc n) from h w (inl e) = rw e (number_small 2 f from bytes (omega arith))
  wires_small (suc n) from h w (inr m) = wires_small n (from + 2) (omega arith) w m

  -- each form of record
  module _ (at : ℕ) where
    two_back : (b : ℕ) → get_or f at 0 ≡ b → at + 2 ≤ length f → drop at f ≡ b ∷ get_or f (at + 1) 0 ∷ drop (at + 2) f
    two_back b e h = drop_two f at b (omega arith) e

    word_back : get_or f at 0 ≡ 0x11 → at + 5 ≤ length f → drop at f ≡ record_bytes ver (word (number_at 4 f (at + 1))) ++ drop (at + 5) f
    word_back e h =
        let p : at + 1 + 4 ≡ at + 5 = omega arith in
        drop_one f at 0x11 (omega arith) e
        ∙ ap (λ (r : List ℕ). 0x11 ∷ r) (number_back 4 f (at + 1) bytes (omega arith) ∙ at_place (bytes_of 4 (number_at 4 f (at + 1))) _ _ p)

    operation_back : (b n : ℕ) → get_or f at 0 ≡ b → at + (1 + 2 * n) ≤ length f → drop at f ≡ b ∷ (wires_bytes (wires_at n f (at + 1)) ++ drop (at + (1 + 2 * n)) f)
    operation_back b n e h =
        let p : at + 1 + 2 * n ≡ at + (1 + 2 * n) = omega arith in
        drop_one f at b (omega arith) e ∙ ap (λ (r : List ℕ). b ∷ r) (wires_back n (at + 1) (omega arith) ∙ at_place (wires_bytes (wires_at n f (at + 1))) _ _ p)

    choice_back : get_or f at 0 ≡ 0x30 → at + 7 ≤ length f
        → drop at f ≡ record_bytes ver (choice (number_at 2 f (at + 1)) (number_at 2 f (at + 3)) (number_at 2 f (at + 5))) ++ drop (at + 7) f
    choice_back e h =
        let p : at + 1 + 2 ≡ at + 3 = omega arith in
        let q : at + 1 + 2 + 2 ≡ at + 5 = omega arith in
        operation_back 0x30 3 e (omega arith)
        ∙ ap₂ (λ (i j : ℕ). record_bytes ver (choice (number_at 2 f (at + 1)) (number_at 2 f i) (number_at 2 f j)) ++ drop (at + 7) f) p q

    pick_back : (n : ℕ) → n ≡ get_or f (at + 1) 0 → get_or f at 0 ≡ 0x31 → at + (2 + 4 * n) ≤ length f
        → drop at f ≡ record_bytes ver (pick (pairs_at n f (at + 2))) ++ drop (at + (2 + 4 * n)) f
    pick_back n c e h =
        let p : at + 2 + 2 * (2 * n) ≡ at + (2 + 4 * n) = omega arith in
        two_back 0x31 e (omega arith)
        ∙ ap (λ (r : List ℕ). 0x31 ∷ get_or f (at + 1) 0 ∷ r) (wires_back (2 * n) (at + 2) (omega arith) ∙ at_place (wires_bytes (wires_at (2 * n) f (at + 2))) _ _ p)
        ∙ ap₂ (λ (k : ℕ) (l : List ℕ). 0x31 ∷ k ∷ (wires_bytes l ++ drop (at + (2 + 4 * n)) f)) (sym (pairs_length n f (at + 2) ∙ c)) (sym (pair_wires_lem n f (at + 2)))

    guard_back : (n : ℕ) → n ≡ get_or f (at + 1) 0 → get_or f at 0 ≡ 0x32 → at + (2 + 2 * n + T) ≤ length f
        → drop at f ≡ record_bytes ver (guard (wires_at n f (at + 2)) (number_at T f (at + 2 + 2 * n))) ++ drop (at + (2 + 2 * n + T)) f
    guard_back n c e h =
        let p : at + 2 + 2 * n + T ≡ at + (2 + 2 * n + T) = omega arith in
        let w = wires_bytes (wires_at n f (at + 2)) in
        let t = bytes_of T (number_at T f (at + 2 + 2 * n)) in
        two_back 0x32 e (omega arith)
        ∙ ap (λ (r : List ℕ). 0x32 ∷ get_or f (at + 1) 0 ∷ r)
        (wires_back n (at + 2) (omega arith)
        ∙ ap (λ (r : List ℕ). w ++ r) (number_back T f (at + 2 + 2 * n) bytes (omega arith) ∙ at_place t _ _ p)
        ∙ sym (append_assoc w t (drop (at + (2 + 2 * n + T)) f)))
        ∙ ap (λ (k : ℕ). 0x32 ∷ k ∷ ((w ++ t) ++ drop (at + (2 + 2 * n + T)) f)) (sym (wires_length n f (at + 2) ∙ c))

    -- a record r of n bytes that is read there
    read_back : (r : Record) (n : ℕ) → (record_at f at ≡ r) × (size_at f at ≡ n) → (at + n ≤ length f → drop at f ≡ record_bytes ver r ++ drop (at + n) f)
        → at + size_at f at ≤ length f → drop at f ≡ record_bytes ver (record_at f at) ++ drop (at + size_at f at) f
    read_back r n (e, s) back h =
        back (subst (λ (k : ℕ). at + k ≤ length f) s h) ∙ ap₂ (λ (q : Record) (k : ℕ). record_bytes ver q ++ drop (at + k) f) (sym e) (sym s)

    -- the bytes from a place on: those of the record that is read there, and the rest
    pub record_rest : WholeAt f at → drop at f ≡ record_bytes ver (record_at f at) ++ drop (at + size_at f at) f
    record_rest w = go (known_coded (get_or f at 0) w.known)
      where
        go : Coded (get_or f at 0) → drop at f ≡ record_bytes ver (record_at f at) ++ drop (at + size_at f at) f
        go (is_input k e) = read_back (input k (get_or f (at + 1) 0)) 2 (form_input f at k e) (two_back (start_code k) e) w.inside
        go (is_word e) = read_back (word (number_at 4 f (at + 1))) 5 (form_word f at e) (word_back e) w.inside
        go (is_bit_lem e) = read_back (bit (get_or f (at + 1) 0)) 2 (form_bit f at e) (two_back 0x12 e) w.inside
        go (is_operation op e) =
            read_back (operation op (wires_at (entry_of op).arity f (at + 1))) (1 + 2 * (entry_of op).arity) (form_operation f at op e)
            (operation_back (byte_of op) (entry_of op).arity e) w.inside
        go (is_choice e) =
            read_back (choice (number_at 2 f (at + 1)) (number_at 2 f (at + 3)) (number_at 2 f (at + 5))) 7 (form_choice f at e) (choice_back e) w.inside
        go (is_pick e) =
            let n = get_or f (at + 1) 0 in read_back (pick (pairs_at n f (at + 2))) (2 + 4 * n) (form_pick f at e) (pick_back n refl e) w.inside
        go (is_guard e) =
            let n = get_or f (at + 1) 0 in
            read_back (guard (wires_at n f (at + 2)) (number_at T f (at + 2 + 2 * n))) (2 + 2 * n + T) (form_guard f at e) (guard_back n refl e) w.inside

    -- and that record fits its bytes
    pub record_fits : WholeAt f at → ReadsBack ver (record_at f at)
    record_fits w = go (known_coded (get_or f at 0) w.known)
      where
        fits : (r : Record) (n : ℕ) → (record_at f at ≡ r) × (size_at f at ≡ n) → (at + n ≤ length f → ReadsBack ver r) → ReadsBack ver (record_at f at)
        fits r n (e, s) k = subst (ReadsBack ver) (sym e) (k (subst (λ (m : ℕ). at + m ≤ length f) s w.inside))

        go : Coded (get_or f at 0) → ReadsBack ver (record_at f at)
        go (is_input k e) = fits (input k (get_or f (at + 1) 0)) 2 (form_input f at k e) (λ h. bytes (at + 1) (omega arith))
        go (is_word e) = fits (word (number_at 4 f (at + 1))) 5 (form_word f at e) (λ h. number_small 4 f (at + 1) bytes (omega arith))
        go (is_bit_lem e) = fits (bit (get_or f (at + 1) 0)) 2 (form_bit f at e) (λ h. bytes (at + 1) (omega arith))
        go (is_operation op e) =
            fits (operation op (wires_at (entry_of op).arity f (at + 1))) (1 + 2 * (entry_of op).arity) (form_operation f at op e)
            (λ h. (wires_length (entry_of op).arity f (at + 1), wires_small (entry_of op).arity (at + 1) (omega arith)))
        go (is_choice e) =
            fits (choice (number_at 2 f (at + 1)) (number_at 2 f (at + 3)) (number_at 2 f (at + 5))) 7 (form_choice f at e)
            (λ h.
            let p : at + 1 + 2 ≡ at + 3 = omega arith in
            let q : at + 1 + 2 + 2 ≡ at + 5 = omega arith in
            subst Wires (ap₂ (λ (i j : ℕ). number_at 2 f (at + 1) ∷ number_at 2 f i ∷ number_at 2 f j ∷ []) p q) (wires_small 3 (at + 1) (omega arith)))
        go (is_pick e) =
            let n = get_or f (at + 1) 0 in
            fits (pick (pairs_at n f (at + 2))) (2 + 4 * n) (form_pick f at e)
            (λ h. (
              rw (pairs_length n f (at + 2)) (bytes (at + 1) (omega arith)),
              subst Wires (sym (pair_wires_lem n f (at + 2))) (wires_small (2 * n) (at + 2) (omega arith)),
            ))
        go (is_guard e) =
            let n = get_or f (at + 1) 0 in
            fits (guard (wires_at n f (at + 2)) (number_at T f (at + 2 + 2 * n))) (2 + 2 * n + T) (form_guard f at e)
            (λ h. (
              rw (wires_length n f (at + 2)) (bytes (at + 1) (omega arith)),
              wires_small n (at + 2) (omega arith),
              number_small T f (at + 2 + 2 * n) bytes (omega arith),
            ))
