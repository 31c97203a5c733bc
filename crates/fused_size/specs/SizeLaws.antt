-- The size of a group alone, by its gate's code: one wire; 7 bytes and cost 3 for a choice, 5 bytes for a word, 2 for a starting value or bit, an operation's by its arguments and cost.
use Prim.Native.Nat.{ℕ, ◌+◌, ◌*◌, ◌≤◌}
use Rattle.std.specs.Prelude.{◌≡◌, refl, ◌⊎◌, length}
use Rattle.std.proofs.Common.{sym, ◌∙◌, arith}
use Rattle.std.proofs.Math.Path.{ap, subst}
use mathlib.Core.List.{List, [], ◌∷◌, append-nil}
use Rattle.std.proofs.Math.Logic.{inl, inr}
use Rattle.base.specs.TestLaws.{same?}
use Rattle.base.specs.Codes.{entry_of, operation_of, code_of}
use Rattle.base.specs.CodeLaws.{code_operation, one_or_two}
use Rattle.base.specs.declared.Code.{Code}
use Rattle.circuit.specs.Gates.{Gate, start, word, bit, operation, choice, cost_of}
use Rattle.circuit_needed.specs.Held.{choice_code, Applies, gate_in, code_at, first_at}
use Rattle.circuit_needed.specs.QuadLaws.{KindIn, chooses, is_word, is_bit_lem, applies, starts, kind_in_lem, choice_in, word_in, bit_in_lem, start_in, applied_in}
use Rattle.file.specs.Versions.{written_version}
use Rattle.file.specs.Records.{record_cost}
use Rattle.file.specs.CircuitFile.{record_bytes}
use Rattle.file.specs.SizeLaws.{cost_one}
use Rattle.fused_gate.specs.Emitted.{alone_of, alone_in, FitsGate, Coded}
use Rattle.fused_size.specs.Sizes.{one_of, Measured}
use Rattle.fused_gate.specs.AloneLaws.{choice_long, word_long, bit_long, start_long, unary_long, binary_long}

cost_same : (code : ℕ) (wire : ℕ → ℕ) (k : Gate) → record_cost (alone_of code wire k) ≡ cost_of k
cost_same code wire (start x) = refl
cost_same code wire (word n) = refl
cost_same code wire (bit b) = refl
cost_same code wire (operation op l) = refl
cost_same code wire (choice c a b) = refl

module _ (quads : List ℕ) (g : ℕ) where
  alone_sized : (bytes cost : ℕ) → ((wire : ℕ → ℕ) → length (record_bytes written_version (alone_in quads wire g)) ≡ bytes) → cost_of (gate_in quads g) ≡ cost
      → (sets : List ℕ) (wire : ℕ → ℕ) → Measured quads sets wire (g ∷ []) (one_of bytes cost)
  alone_sized bytes cost long costs sets wire =
      record {
        wired = λ count n below. refl;
        long = λ count n below. sym (ap (λ (b : List ℕ). length b) (append-nil (record_bytes written_version (alone_in quads wire g))) ∙ long wire);
        costs = λ count n below. sym (cost_one (alone_in quads wire g) ∙ cost_same (code_at quads g) wire (gate_in quads g) ∙ costs);
      }

  pub choice_sized : code_at quads g ≡ choice_code → (sets : List ℕ) (wire : ℕ → ℕ) → Measured quads sets wire (g ∷ []) (one_of 7 3)
  choice_sized e = alone_sized 7 3 (λ wire. choice_long quads g wire e) (ap cost_of (choice_in quads g e))

  pub word_sized : code_at quads g ≡ 0x11 → (sets : List ℕ) (wire : ℕ → ℕ) → Measured quads sets wire (g ∷ []) (one_of 5 0)
  word_sized e = alone_sized 5 0 (λ wire. word_long quads g wire e) (ap cost_of (word_in quads g e))

  -- what is left: a starting value or a bit constant, or an operation
  module _ (coded : Coded quads g) (n : code_at quads g ≡ choice_code → ⊥) (w : code_at quads g ≡ 0x11 → ⊥) (code : Code) (is : code ≡ code_of (code_at quads g)) where
    Rest : Type 0
    Rest = (code_at quads g ≡ 0x12) ⊎ ((code_at quads g ≤ 1) ⊎ Applies (code_at quads g))

    rest : Rest
    unfolding Rest
    rest = go (kind_in_lem quads g)
      where
        go : KindIn quads g → (code_at quads g ≡ 0x12) ⊎ ((code_at quads g ≤ 1) ⊎ Applies (code_at quads g))
        go (chooses e) = absurd (n e)
        go (is_word e) = absurd (w e)
        go (is_bit_lem e) = inl e
        go (applies h) = inr (inr h)
        go (starts _ e) = let z : FitsGate (code_at quads g) (start (first_at quads g)) = subst (FitsGate (code_at quads g)) e coded.fits in inr (inl z.0)

    bit_arity : code_at quads g ≡ 0x12 → code.arity ≡ 0
    unfolding code_of
    bit_arity e = rw (is, e)

    start_arity : code_at quads g ≤ 1 → code.arity ≡ 0
    unfolding code_of
    start_arity h = go (same? (code_at quads g) 0)
      where
        go : (code_at quads g ≡ 0) ⊎ (code_at quads g ≡ 0 → ⊥) → code.arity ≡ 0
        go (inl e) = rw (is, e)
        go (inr m) = let e : code_at quads g ≡ 1 = omega (arith, h, m) in rw (is, e)

    code_is : Applies (code_at quads g) → code ≡ entry_of (operation_of (code_at quads g))
    code_is h = is ∙ code_operation (code_at quads g) h.0 h.1

    code_some : Applies (code_at quads g) → (code.arity ≡ 1) ⊎ (code.arity ≡ 2)
    code_some h = rw (code_is h) (one_or_two (operation_of (code_at quads g)))

    pub short_sized : code.arity ≡ 0 → (sets : List ℕ) (wire : ℕ → ℕ) → Measured quads sets wire (g ∷ []) (one_of 2 0)
    unfolding Rest
    short_sized z = go rest
      where
        none : (code.arity ≡ 1) ⊎ (code.arity ≡ 2) → ⊥
        none (inl e) = omega (arith, e, z)
        none (inr e) = omega (arith, e, z)

        go : (code_at quads g ≡ 0x12) ⊎ ((code_at quads g ≤ 1) ⊎ Applies (code_at quads g)) → (sets : List ℕ) (wire : ℕ → ℕ) → Measured quads sets wire (g ∷ []) (one_of 2 0)
        go (inl e) = alone_sized 2 0 (λ wire. bit_long quads g wire e) (ap cost_of (bit_in_lem quads g e))
        go (inr (inl h)) = alone_sized 2 0 (λ wire. start_long quads g wire h) (ap cost_of (start_in quads g (omega (arith, h))))
        go (inr (inr h)) = absurd (none (code_some h))

    applied_long : Applies (code_at quads g) → (code.arity ≡ 1) ⊎ (code.arity ≡ 2) → (wire : ℕ → ℕ) → length (record_bytes written_version (alone_in quads wire g)) ≡ 1 + 2 * code.arity
    applied_long h (inl e) wire = unary_long quads g wire h (ap (λ (c : Code). c.arity) (sym is) ∙ e) ∙ rw e
    applied_long h (inr e) wire = binary_long quads g wire h (λ z. let y : code.arity ≡ 1 = ap (λ (c : Code). c.arity) is ∙ z in omega (arith, e, y)) ∙ rw e

    pub applied_sized : (code.arity ≡ 0 → ⊥) → (sets : List ℕ) (wire : ℕ → ℕ) → Measured quads sets wire (g ∷ []) (one_of (1 + 2 * code.arity) code.cost)
    unfolding Rest
    applied_sized z = go rest
      where
        go : (code_at quads g ≡ 0x12) ⊎ ((code_at quads g ≤ 1) ⊎ Applies (code_at quads g)) → (sets : List ℕ) (wire : ℕ → ℕ) → Measured quads sets wire (g ∷ []) (one_of
            (1 + 2 * code.arity) code.cost)
        go (inl e) = absurd (z (bit_arity e))
        go (inr (inl h)) = absurd (z (start_arity h))
        go (inr (inr h)) = alone_sized (1 + 2 * code.arity) code.cost (applied_long h (code_some h))
            (ap cost_of (applied_in quads g h) ∙ ap (λ (c : Code). c.cost) (sym (code_is h)))
