-- Writing a gate alone: the room that its record finds, and that the bytes written are its record's.
use Rattle.std.specs.Prelude.{ℕ, ◌≤◌, ◌≡◌, List, [], ◌∷◌, length}
use Rattle.std.proofs.Common.{sym, ap, ◌∙◌, inl, inr, arith}
use Rattle.base.specs.Numbers.{bytes_of}
use Rattle.base.specs.Buffers.{over}
use Rattle.base.specs.Codes.{code_of}
use Rattle.base.specs.declared.Code.{Code}
use Rattle.circuit_needed.specs.Held.{choice_code, Applies, code_at, first_at, second_at, third_at}
use Rattle.file.specs.CircuitFile.{wires_bytes}
use Rattle.fused_gate.specs.Emitted.{alone_bytes, Written}
use Rattle.fused_gate.specs.AloneLaws.{Short, choice_bytes, choice_long, word_bytes, word_long, bit_bytes, bit_long, start_bytes, start_long, unary_bytes, unary_long, binary_bytes, binary_long}

-- a code of the table has an arity
arity_is : (code k : ℕ) (means : Code) → means ≡ code_of code → means.arity ≡ k → (code_of code).arity ≡ k
arity_is code k means e q = ap (λ (r : Code). r.arity) (sym e) ∙ q

pub arity_not : (code k : ℕ) (means : Code) → means ≡ code_of code → (means.arity ≡ k → ⊥) → (code_of code).arity ≡ k → ⊥
arity_not code k means e n q = n (ap (λ (r : Code). r.arity) e ∙ q)

module _ (quads : List ℕ) (wire : ℕ → ℕ) (g : ℕ) where
  abbrev pub Put : ℕ → List ℕ → List ℕ → Type 0
  Put n ys d = Written (alone_bytes quads wire g) n d ys

  put_as : (b d ys : List ℕ) (n : ℕ) → alone_bytes quads wire g ≡ b → length (alone_bytes quads wire g) ≡ n → ys ≡ over b d → Put n ys d
  put_as b d ys n e l w = record { counted = sym l; written = w ∙ ap (λ (k : List ℕ). over k d) (sym e) }

  room_for : (n k : ℕ) → length (alone_bytes quads wire g) ≡ n → length (alone_bytes quads wire g) ≤ k → n ≤ k
  room_for n k e h = rw e at h

  pub choice_room : (k : ℕ) → code_at quads g ≡ choice_code → length (alone_bytes quads wire g) ≤ k → 7 ≤ k
  choice_room k e h = room_for 7 k (choice_long quads g wire e) h

  pub choice_put : (x y z : ℕ) (d ys : List ℕ) → code_at quads g ≡ choice_code → x ≡ wire (first_at quads g) → y ≡ wire (second_at quads g) → z ≡ wire (third_at quads g)
      → ys ≡ over (0x30 ∷ wires_bytes (x ∷ y ∷ z ∷ [])) d → Put 7 ys d
  choice_put x y z d ys e p q r w = put_as _ d ys 7 (rw (p, q, r) (choice_bytes quads g wire e)) (choice_long quads g wire e) w

  pub word_room : (k : ℕ) → code_at quads g ≡ 0x11 → length (alone_bytes quads wire g) ≤ k → 5 ≤ k
  word_room k e h = room_for 5 k (word_long quads g wire e) h

  pub word_put : (d ys : List ℕ) → code_at quads g ≡ 0x11 → ys ≡ over (0x11 ∷ bytes_of 4 (first_at quads g)) d → Put 5 ys d
  word_put d ys e w = put_as _ d ys 5 (word_bytes quads g wire e) (word_long quads g wire e) w

  pub short_room : (k : ℕ) → Short quads g → length (alone_bytes quads wire g) ≤ k → 2 ≤ k
  short_room k (inl e) h = room_for 2 k (bit_long quads g wire e) h
  short_room k (inr l) h = room_for 2 k (start_long quads g wire (omega (arith, l))) h

  pub short_put : (d ys : List ℕ) → Short quads g → ys ≡ over (code_at quads g ∷ first_at quads g ∷ []) d → Put 2 ys d
  short_put d ys (inl e) w = put_as _ d ys 2 (bit_bytes quads g wire e) (bit_long quads g wire e) w
  short_put d ys (inr l) w = put_as _ d ys 2 (start_bytes quads g wire (omega (arith, l))) (start_long quads g wire (omega (arith, l))) w

  module _ (h : Applies (code_at quads g)) (means : Code) (is : means ≡ code_of (code_at quads g)) where
    pub unary_room : (k : ℕ) → means.arity ≡ 1 → length (alone_bytes quads wire g) ≤ k → 3 ≤ k
    unary_room k e l = room_for 3 k (unary_long quads g wire h (arity_is (code_at quads g) 1 means is e)) l

    pub unary_put : (x : ℕ) (d ys : List ℕ) → means.arity ≡ 1 → x ≡ wire (first_at quads g) → ys ≡ over (code_at quads g ∷ wires_bytes (x ∷ [])) d → Put 3 ys d
    unary_put x d ys e p w =
        let a : (code_of (code_at quads g)).arity ≡ 1 = arity_is (code_at quads g) 1 means is e in
        put_as _ d ys 3 (rw p (unary_bytes quads g wire h a)) (unary_long quads g wire h a) w

    pub binary_room : (k : ℕ) → (means.arity ≡ 1 → ⊥) → length (alone_bytes quads wire g) ≤ k → 5 ≤ k
    binary_room k e l = room_for 5 k (binary_long quads g wire h (arity_not (code_at quads g) 1 means is e)) l

    pub binary_put : (x y : ℕ) (d ys : List ℕ) → (means.arity ≡ 1 → ⊥) → x ≡ wire (first_at quads g) → y ≡ wire (second_at quads g)
        → ys ≡ over (code_at quads g ∷ wires_bytes (x ∷ y ∷ [])) d → Put 5 ys d
    binary_put x y d ys e p q w =
        let a : (code_of (code_at quads g)).arity ≡ 1 → ⊥ = arity_not (code_at quads g) 1 means is e in
        put_as _ d ys 5 (rw (p, q) (binary_bytes quads g wire h a)) (binary_long quads g wire h a) w
