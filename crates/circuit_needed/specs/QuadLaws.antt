-- A gate read back from its quad, by its code: other crates cite these and never the text of `gate_in` or `gate_of`.
use Prim.Native.Nat.{ℕ, ◌≤◌, ◌<◌}
use Rattle.std.specs.Prelude.{◌≡◌, refl, List, [], ◌∷◌, ◌⊎◌, leb, take}
use Rattle.std.proofs.Common.{ap, ◌∙◌, inl, inr, leb-true, leb-false}
use native.Mathlib.Omega.{arith}
use Rattle.base.specs.TestLaws.{split, same?}
use Rattle.base.specs.Codes.{entry_of, operation_of, code_of}
use Rattle.base.specs.CodeLaws.{code_operation, code_unknown}
use Rattle.base.specs.declared.Operation.{Operation}
use Rattle.base.specs.declared.Operation.TheVariants.{Sum, Difference, Product, LessThan, Equal, And, Or, Not}
use Rattle.circuit.specs.Gates.{start, word, bit, operation, choice, arguments, cost_of}
use Rattle.circuit_needed.specs.Held.{choice_code, Applies, of_form, arguments_of, gate_of, code_at, first_at, second_at, third_at, gate_in}
use Rattle.circuit_needed.specs.HeldLaws.{gate_choice, gate_other, arguments_other, cost_code, cost_other}

-- Of four numbers.

module _ (code a b c : ℕ) where
  word_gate : code ≡ 0x11 → gate_of code a b c ≡ word a
  unfolding gate_of code_of
  word_gate e = rw e

  bit_gate : code ≡ 0x12 → gate_of code a b c ≡ bit a
  unfolding gate_of code_of
  bit_gate e = rw e

  variable_gate : code ≡ 0x10 → gate_of code a b c ≡ start a
  unfolding gate_of code_of
  variable_gate e = rw e

  unknown_gate : (code ≡ choice_code → ⊥) → 4 ≤ code → (code ≡ 0x10 → ⊥) → (code ≡ 0x11 → ⊥) → (code ≡ 0x12 → ⊥)
      → (code < 0x20) ⊎ (0x27 < code) → gate_of code a b c ≡ start a
  unknown_gate n h e4 e5 e6 u =
      gate_other code a b c n ∙ rw (code_unknown code (λ e. omega arith) (λ e. omega arith) (λ e. omega arith) (λ e. omega arith) e4 e5 e6 u)

  small_gate : code ≤ 3 → gate_of code a b c ≡ start a
  unfolding gate_of code_of
  small_gate h = four (same? code 0) (same? code 1) (same? code 2)
    where
      four : (code ≡ 0) ⊎ (code ≡ 0 → ⊥) → (code ≡ 1) ⊎ (code ≡ 1 → ⊥) → (code ≡ 2) ⊎ (code ≡ 2 → ⊥) → gate_of code a b c ≡ start a
      four (inl e) y z = rw e
      four (inr x) (inl e) z = rw e
      four (inr x) (inr y) (inl e) = rw e
      four (inr x) (inr y) (inr z) = let e : code ≡ 3 = omega arith in rw e

  applies_gate : Applies code → gate_of code a b c ≡ operation (operation_of code) (take (entry_of (operation_of code)).arity (a ∷ b ∷ []))
  applies_gate h = gate_other code a b c (λ e. omega (arith, h, e)) ∙ rw (code_operation code h.0 h.1) (each (operation_of code))
    where
      each : (op : Operation) → of_form (entry_of op).form a (arguments_of (entry_of op) a b) ≡ operation op (take (entry_of op).arity (a ∷ b ∷ []))
      each Sum = refl
      each Difference = refl
      each Product = refl
      each LessThan = refl
      each Equal = refl
      each And = refl
      each Or = refl
      each Not = refl

-- Of gate g of the quads.

-- what it can be, by its code: any other is a starting value's
pub data KindIn (quads : List ℕ) (g : ℕ) : Type 0 where
  chooses : code_at quads g ≡ choice_code → KindIn quads g
  is_word : code_at quads g ≡ 0x11 → KindIn quads g
  is_bit_lem : code_at quads g ≡ 0x12 → KindIn quads g
  applies : Applies (code_at quads g) → KindIn quads g
  starts : (Applies (code_at quads g) → ⊥) → gate_in quads g ≡ start (first_at quads g) → KindIn quads g

module _ (quads : List ℕ) (g : ℕ) where
  pub choice_in : code_at quads g ≡ choice_code → gate_in quads g ≡ choice (first_at quads g) (second_at quads g) (third_at quads g)
  unfolding gate_in
  choice_in = gate_choice (code_at quads g) (first_at quads g) (second_at quads g) (third_at quads g)

  pub word_in : code_at quads g ≡ 0x11 → gate_in quads g ≡ word (first_at quads g)
  unfolding gate_in
  word_in = word_gate (code_at quads g) (first_at quads g) (second_at quads g) (third_at quads g)

  pub bit_in_lem : code_at quads g ≡ 0x12 → gate_in quads g ≡ bit (first_at quads g)
  unfolding gate_in
  bit_in_lem = bit_gate (code_at quads g) (first_at quads g) (second_at quads g) (third_at quads g)

  pub start_in : code_at quads g ≤ 3 → gate_in quads g ≡ start (first_at quads g)
  unfolding gate_in
  start_in = small_gate (code_at quads g) (first_at quads g) (second_at quads g) (third_at quads g)

  -- an operation's code is its operation's, and its arguments are as many as the table says
  pub applied_in : Applies (code_at quads g)
      → gate_in quads g ≡ operation (operation_of (code_at quads g)) (take (entry_of (operation_of (code_at quads g))).arity (first_at quads g ∷ second_at quads g ∷ []))
  unfolding gate_in
  applied_in = applies_gate (code_at quads g) (first_at quads g) (second_at quads g) (third_at quads g)

  pub kind_in_lem : KindIn quads g
  unfolding gate_in
  kind_in_lem = go (same? code choice_code) (same? code 0x11) (same? code 0x12) (same? code 0x10)
    where
      code : ℕ
      code = code_at quads g

      range : (code ≡ choice_code → ⊥) → (code ≡ 0x11 → ⊥) → (code ≡ 0x12 → ⊥) → (code ≡ 0x10 → ⊥) → 4 ≤ code → KindIn quads g
      range n w z v h =
          split (leb 0x20 code)
          (λ l. split (leb code 0x27)
          (λ u. applies (leb-true _ _ l, leb-true _ _ u))
          (λ u. starts (λ r. omega (arith, r, leb-false code 0x27 u))
          (unknown_gate code (first_at quads g) (second_at quads g) (third_at quads g) n h v w z (inr (leb-false _ _ u)))))
          (λ l. starts (λ r. omega (arith, r, leb-false 0x20 code l))
          (unknown_gate code (first_at quads g) (second_at quads g) (third_at quads g) n h v w z (inl (leb-false _ _ l))))

      go : (code ≡ choice_code) ⊎ (code ≡ choice_code → ⊥) → (code ≡ 0x11) ⊎ (code ≡ 0x11 → ⊥) → (code ≡ 0x12) ⊎ (code ≡ 0x12 → ⊥)
          → (code ≡ 0x10) ⊎ (code ≡ 0x10 → ⊥) → KindIn quads g
      go (inl e) y z v = chooses e
      go (inr x) (inl e) z v = is_word e
      go (inr x) (inr y) (inl e) v = is_bit_lem e
      go (inr x) (inr y) (inr z) (inl e) = starts (λ r. omega (arith, r, e)) (variable_gate code (first_at quads g) (second_at quads g) (third_at quads g) e)
      go (inr x) (inr y) (inr z) (inr v) =
          split (leb 4 code) (λ l. range x y z v (leb-true _ _ l))
          (λ l. let h = leb-false 4 code l in starts (λ r. omega (arith, r, h)) (start_in (omega (arith, h))))

  -- one that is no choice: by the form of its code in the table, its arguments, its cost
  pub other_in : (code_at quads g ≡ choice_code → ⊥)
      → gate_in quads g ≡ of_form (code_of (code_at quads g)).form (first_at quads g) (arguments_of (code_of (code_at quads g)) (first_at quads g) (second_at quads g))
  unfolding gate_in
  other_in = gate_other (code_at quads g) (first_at quads g) (second_at quads g) (third_at quads g)

  pub arguments_in : (code_at quads g ≡ choice_code → ⊥) → arguments (gate_in quads g) ≡ arguments_of (code_of (code_at quads g)) (first_at quads g) (second_at quads g)
  arguments_in n = ap arguments (other_in n) ∙ arguments_other (code_at quads g) (first_at quads g) (second_at quads g)

  pub cost_in : (code_at quads g ≡ choice_code → ⊥) → cost_of (gate_in quads g) ≡ (code_of (code_at quads g)).cost
  unfolding gate_in
  cost_in n = cost_code (code_at quads g) (first_at quads g) (second_at quads g) (third_at quads g) ∙ cost_other (code_at quads g) n
