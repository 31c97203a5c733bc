-- The record of a gate alone, by its code: its bytes, its cost, and what its arguments keep to.
use Rattle.std.specs.Prelude.{ℕ, suc, ◌≤◌, ◌<◌, ◌≡◌, refl, List, [], ◌∷◌, map, ◌⊎◌, length, take}
use Rattle.std.proofs.Common.{sym, ap, subst, ◌∙◌, inl, inr, arith}
use Rattle.base.specs.Lists.{◌∈◌}
use Rattle.base.specs.TestLaws.{same?}
use Rattle.base.specs.Numbers.{bytes_of}
use Rattle.base.specs.Codes.{start_kind, entry_of, operation_of, code_of, start_code}
use Rattle.base.specs.CodeLaws.{kind_bit, kind_word, code_operation, one_or_two, byte_back}
use Rattle.base.specs.declared.Code.{Code}
use Rattle.circuit.specs.Gates.{start, bit, arguments}
use Rattle.circuit_needed.specs.Held.{choice_code, Applies, gate_in, code_at, first_at, second_at, third_at}
use Rattle.circuit_needed.specs.QuadLaws.{KindIn, chooses, is_word, is_bit_lem, applies, starts, kind_in_lem, choice_in, word_in, bit_in_lem, start_in, applied_in}
use Rattle.file.specs.Versions.{written_version}
use Rattle.file.specs.CircuitFile.{wires_bytes, record_bytes}
use Rattle.file.specs.SizeLaws.{wires_size, input_size, word_size, bit_size, choice_size}
use Rattle.fused_gate.specs.Emitted.{alone_in, Grouped, FitsGate, Coded, Writable}

module _ (quads : List ℕ) (g : ℕ) where
  -- a bit constant or a starting value
  abbrev pub Short : Type 0
  Short = (code_at quads g ≡ 0x12) ⊎ (code_at quads g < 2)

  -- a gate that fits and is none of the others is one of these; k is its code
  pub short_in : (k : ℕ) → k ≡ code_at quads g → Coded quads g → (k ≡ choice_code → ⊥) → (k ≡ 0x11 → ⊥) → (k < 0x20) ⊎ (0x28 ≤ k) → Short
  short_in k e f n w o = go (kind_in_lem quads g)
    where
      outside : Applies (code_at quads g) → (k < 0x20) ⊎ (0x28 ≤ k) → ⊥
      outside h (inl l) = omega (arith, e, l, h.0)
      outside h (inr l) = omega (arith, e, l, h.1)

      go : KindIn quads g → Short
      go (chooses x) = absurd (n (e ∙ x))
      go (is_word x) = absurd (w (e ∙ x))
      go (is_bit_lem x) = inl x
      go (applies h) = absurd (outside h o)
      go (starts _ x) = let z : FitsGate (code_at quads g) (start (first_at quads g)) = subst (FitsGate (code_at quads g)) x f.fits in inr (omega (arith, z.0))

  -- a gate that fits and is none of the others is an operation
  pub applies_in : Coded quads g → (code_at quads g ≡ choice_code → ⊥) → (code_at quads g ≡ 0x11 → ⊥) → (code_at quads g ≡ 0x12 → ⊥) → 2 ≤ code_at quads g → Applies
      (code_at quads g)
  applies_in f n w b l = go (kind_in_lem quads g)
    where
      go : KindIn quads g → Applies (code_at quads g)
      go (chooses e) = absurd (n e)
      go (is_word e) = absurd (w e)
      go (is_bit_lem e) = absurd (b e)
      go (applies h) = h
      go (starts _ e) = let z : FitsGate (code_at quads g) (start (first_at quads g)) = subst (FitsGate (code_at quads g)) e f.fits in absurd (omega (arith, l, z.0))

  -- every code that fits is a byte
  pub coded_byte : Coded quads g → code_at quads g < 256
  coded_byte f = go (kind_in_lem quads g)
    where
      go : KindIn quads g → code_at quads g < 256
      go (chooses e) = omega (arith, e)
      go (is_word e) = omega (arith, e)
      go (is_bit_lem e) = omega (arith, e)
      go (applies h) = omega (arith, h)
      go (starts _ e) = let z : FitsGate (code_at quads g) (start (first_at quads g)) = subst (FitsGate (code_at quads g)) e f.fits in omega (arith, z.0)

  -- the byte of a bit constant or of a variable
  pub first_short : Coded quads g → Short → first_at quads g < 256
  first_short f (inl e) = let z : FitsGate (code_at quads g) (bit (first_at quads g)) = subst (FitsGate (code_at quads g)) (bit_in_lem quads g e) f.fits in z
  first_short f (inr h) =
      let z : FitsGate (code_at quads g) (start (first_at quads g)) = subst (FitsGate (code_at quads g)) (start_in quads g (omega (arith, h))) f.fits in
      z.1

  module _ (group : List ℕ) (w : Writable quads group g) where
    placed_in : (l : List ℕ) → arguments (gate_in quads g) ≡ l → (a : ℕ) → a ∈ l → Grouped group a
    placed_in l e a m = w.placed a (rw e m)

    pub choice_placed : code_at quads g ≡ choice_code → Grouped group (first_at quads g) × (Grouped group (second_at quads g) × Grouped group (third_at quads g))
    choice_placed e =
        let p : arguments (gate_in quads g) ≡ first_at quads g ∷ second_at quads g ∷ third_at quads g ∷ [] = ap arguments (choice_in quads g e) in
        (placed_in _ p _ (inl refl), (placed_in _ p _ (inr (inl refl)), placed_in _ p _ (inr (inr (inl refl)))))

    arguments_applied : Applies (code_at quads g) → arguments (gate_in quads g) ≡ take (entry_of (operation_of (code_at quads g))).arity
        (first_at quads g ∷ second_at quads g ∷ [])
    arguments_applied h = ap arguments (applied_in quads g h)

    pub first_placed : Applies (code_at quads g) → Grouped group (first_at quads g)
    first_placed h = go (one_or_two (operation_of (code_at quads g)))
      where
        go : ((entry_of (operation_of (code_at quads g))).arity ≡ 1) ⊎ ((entry_of (operation_of (code_at quads g))).arity ≡ 2) → Grouped group (first_at quads g)
        go (inl e) = placed_in (first_at quads g ∷ []) (arguments_applied h ∙ rw e) _ (inl refl)
        go (inr e) = placed_in (first_at quads g ∷ second_at quads g ∷ []) (arguments_applied h ∙ rw e) _ (inl refl)

    pub second_placed : Applies (code_at quads g) → ((code_of (code_at quads g)).arity ≡ 1 → ⊥) → Grouped group (second_at quads g)
    second_placed h n = go (one_or_two (operation_of (code_at quads g)))
      where
        same : code_of (code_at quads g) ≡ entry_of (operation_of (code_at quads g))
        same = code_operation (code_at quads g) h.0 h.1

        go : ((entry_of (operation_of (code_at quads g))).arity ≡ 1) ⊎ ((entry_of (operation_of (code_at quads g))).arity ≡ 2) → Grouped group (second_at quads g)
        go (inl e) = absurd (n (ap (λ (c : Code). c.arity) same ∙ e))
        go (inr e) = placed_in (first_at quads g ∷ second_at quads g ∷ []) (arguments_applied h ∙ rw e) _ (inr (inl refl))

  module _ (wire : ℕ → ℕ) where
    -- the bytes, by the code
    pub choice_bytes : code_at quads g ≡ choice_code → record_bytes written_version (alone_in quads wire g) ≡ 0x30 ∷ wires_bytes
        (wire (first_at quads g) ∷ wire (second_at quads g) ∷ wire (third_at quads g) ∷ [])
    choice_bytes e = rw (choice_in quads g e)

    pub word_bytes : code_at quads g ≡ 0x11 → record_bytes written_version (alone_in quads wire g) ≡ 0x11 ∷ bytes_of 4 (first_at quads g)
    word_bytes e = rw (word_in quads g e)

    pub bit_bytes : code_at quads g ≡ 0x12 → record_bytes written_version (alone_in quads wire g) ≡ code_at quads g ∷ first_at quads g ∷ []
    bit_bytes e = rw (bit_in_lem quads g e, e)

    pub start_bytes : code_at quads g ≤ 1 → record_bytes written_version (alone_in quads wire g) ≡ code_at quads g ∷ first_at quads g ∷ []
    start_bytes h = rw (start_in quads g (omega (arith, h))) (ap (λ (b : ℕ). b ∷ first_at quads g ∷ []) (go (same? (code_at quads g) 1)))
      where
        go : (code_at quads g ≡ 1) ⊎ (code_at quads g ≡ 1 → ⊥) → start_code (start_kind (code_at quads g)) ≡ code_at quads g
        go (inl e) = rw (kind_bit (code_at quads g) e) (sym e)
        go (inr n) = rw (kind_word (code_at quads g) n) (omega (arith, h, n))

    applied_bytes : Applies (code_at quads g) → (k : ℕ) → (code_of (code_at quads g)).arity ≡ k
        → record_bytes written_version (alone_in quads wire g) ≡ code_at quads g ∷ wires_bytes (map wire (take k (first_at quads g ∷ second_at quads g ∷ [])))
    applied_bytes h k e =
        let a : (entry_of (operation_of (code_at quads g))).arity ≡ k = ap (λ (c : Code). c.arity) (sym (code_operation (code_at quads g) h.0 h.1)) ∙ e in
        rw (applied_in quads g h, a, byte_back (code_at quads g) h.0 h.1)

    pub unary_bytes : Applies (code_at quads g) → (code_of (code_at quads g)).arity ≡ 1 → record_bytes written_version (alone_in quads wire g) ≡ code_at quads g ∷ wires_bytes
        (wire (first_at quads g) ∷ [])
    unary_bytes h e = applied_bytes h 1 e

    pub binary_bytes : Applies (code_at quads g) → ((code_of (code_at quads g)).arity ≡ 1 → ⊥) → record_bytes written_version (alone_in quads wire g) ≡ code_at quads g ∷ wires_bytes
        (wire (first_at quads g) ∷ wire (second_at quads g) ∷ [])
    binary_bytes h n = go (one_or_two (operation_of (code_at quads g)))
      where
        same : code_of (code_at quads g) ≡ entry_of (operation_of (code_at quads g))
        same = code_operation (code_at quads g) h.0 h.1

        go : ((entry_of (operation_of (code_at quads g))).arity ≡ 1) ⊎ ((entry_of (operation_of (code_at quads g))).arity ≡ 2) → record_bytes written_version
            (alone_in quads wire g) ≡ code_at quads g ∷ wires_bytes (wire (first_at quads g) ∷ wire (second_at quads g) ∷ [])
        go (inl e) = absurd (n (ap (λ (c : Code). c.arity) same ∙ e))
        go (inr e) = applied_bytes h 2 (ap (λ (c : Code). c.arity) same ∙ e)

    -- and how many they are
    pub choice_long : code_at quads g ≡ choice_code → length (record_bytes written_version (alone_in quads wire g)) ≡ 7
    choice_long e = rw (choice_in quads g e) (choice_size written_version (wire (first_at quads g)) (wire (second_at quads g)) (wire (third_at quads g)))

    pub word_long : code_at quads g ≡ 0x11 → length (record_bytes written_version (alone_in quads wire g)) ≡ 5
    word_long e = rw (word_in quads g e) (word_size written_version (first_at quads g))

    pub bit_long : code_at quads g ≡ 0x12 → length (record_bytes written_version (alone_in quads wire g)) ≡ 2
    bit_long e = rw (bit_in_lem quads g e) (bit_size written_version (first_at quads g))

    pub start_long : code_at quads g ≤ 1 → length (record_bytes written_version (alone_in quads wire g)) ≡ 2
    start_long h = rw (start_in quads g (omega (arith, h))) (input_size written_version (start_kind (code_at quads g)) (first_at quads g))

    pub unary_long : Applies (code_at quads g) → (code_of (code_at quads g)).arity ≡ 1 → length (record_bytes written_version (alone_in quads wire g)) ≡ 3
    unary_long h e = rw (unary_bytes h e) (ap suc (wires_size (wire (first_at quads g) ∷ [])))

    pub binary_long : Applies (code_at quads g) → ((code_of (code_at quads g)).arity ≡ 1 → ⊥) → length (record_bytes written_version (alone_in quads wire g)) ≡ 5
    binary_long h n = rw (binary_bytes h n) (ap suc (wires_size (wire (first_at quads g) ∷ wire (second_at quads g) ∷ [])))
