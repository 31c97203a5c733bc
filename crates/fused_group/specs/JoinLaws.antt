-- A joined group: its records, by the decision which picks it has, are those that the definition gives.
use Rattle.std.specs.Prelude.{ℕ, zero, suc, ◌+◌, ◌*◌, ◌≤◌, ◌<◌, ◌≡◌, refl, Bool, cond, not, ◌||◌, List, [], ◌∷◌, ◌++◌, map, ◌⊎◌, length, get_or}
use Rattle.std.proofs.Common.{sym, ap, ap₂, ◌∙◌, inl, inr, add-zero, add-one, arith}
use Rattle.std.proofs.lemmas.Simd.{map-map}
use Rattle.std.proofs.lemmas.List.{length-map}
use Rattle.base.specs.Lists.{◌∈◌, Inside}
use Rattle.base.specs.ListLaws.{map_same}
use Rattle.base.specs.TestLaws.{split}
use Rattle.base.specs.Sets.{rests}
use Rattle.base.specs.Guards.{table}
use Rattle.base.specs.Codes.{entry_of, operation_of}
use Rattle.base.specs.declared.Operation.{Operation}
use Rattle.base.specs.CodeLaws.{one_or_two}
use Rattle.circuit.specs.Gates.{Gate, start, word, bit, operation, choice, gate_at, arguments, conditions}
use Rattle.circuit.specs.Limits.{most_conditions}
use Rattle.circuit_needed.specs.Held.{Applies, gate_in, gates_in, code_at, first_at, second_at, third_at}
use Rattle.circuit_needed.specs.HeldLaws.{gates_at}
use Rattle.circuit_needed.specs.QuadLaws.{KindIn, chooses, is_word, is_bit_lem, applies, starts, kind_in_lem, choice_in, word_in, bit_in_lem, applied_in}
use Rattle.plan.specs.RestLaws.{rests_held}
use Rattle.file.specs.Records.{Record, pick}
use Rattle.file.specs.Records as records
use Rattle.fused.specs.Emission as emission
use Rattle.fused.specs.EmitLaws.{emit_two}
use Rattle.fused.specs.JoinedShapes.{both_picked, first_picked, second_picked, none_picked}
use Rattle.fused_group.specs.Joined.{emit_in, guard_in, guards_in, argument_at, values_in}
use Rattle.fused_group.specs.Decisions.{Decided, joined_in}
use Rattle.fused_group.specs.declared.Picks.{Picks}

-- A gate of two arguments is an operation, and they are its first and second number.

module _ (quads : List ℕ) (m : ℕ) (two : length (arguments (gate_in quads m)) ≡ 2) where
  wrong : (g : Gate) → gate_in quads m ≡ g → (length (arguments g) ≡ 2 → ⊥) → ⊥
  wrong g e n = n (ap (λ (k : Gate). length (arguments k)) (sym e) ∙ two)

  pub two_applies : Applies (code_at quads m)
  two_applies = go (kind_in_lem quads m)
    where
      go : KindIn quads m → Applies (code_at quads m)
      go (chooses e) = absurd (wrong (choice (first_at quads m) (second_at quads m) (third_at quads m)) (choice_in quads m e) (λ z. omega (arith, z)))
      go (is_word e) = absurd (wrong (word (first_at quads m)) (word_in quads m e) (λ z. omega (arith, z)))
      go (is_bit_lem e) = absurd (wrong (bit (first_at quads m)) (bit_in_lem quads m e) (λ z. omega (arith, z)))
      go (applies h) = h
      go (starts _ e) = absurd (wrong (start (first_at quads m)) e (λ z. omega (arith, z)))

  pub two_gate : gate_in quads m ≡ operation (operation_of (code_at quads m)) (first_at quads m ∷ second_at quads m ∷ [])
  two_gate = go (one_or_two (operation_of (code_at quads m)))
    where
      go : ((entry_of (operation_of (code_at quads m))).arity ≡ 1) ⊎ ((entry_of (operation_of (code_at quads m))).arity ≡ 2)
          → gate_in quads m ≡ operation (operation_of (code_at quads m)) (first_at quads m ∷ second_at quads m ∷ [])
      go (inl e) = absurd (wrong (operation (operation_of (code_at quads m)) (first_at quads m ∷ [])) (applied_in quads m two_applies ∙ rw e) (λ z. omega (arith, z)))
      go (inr e) = applied_in quads m two_applies ∙ rw e

  pub two_arguments : arguments (gate_in quads m) ≡ argument_at quads m 0 ∷ argument_at quads m 1 ∷ []
  two_arguments =
      let e : 4 * m + 1 ≡ 4 * m + 1 + 0 = omega arith in
      let f : 4 * m + 2 ≡ 4 * m + 1 + 1 = omega arith in
      ap arguments two_gate ∙ ap₂ (λ (i j : ℕ). get_or quads i 0 ∷ get_or quads j 0 ∷ []) e f

two_at : (f : ℕ → ℕ) (k : ℕ) → k < 2 → get_or (f 0 ∷ f 1 ∷ []) k 0 ≡ f k
two_at f zero h = refl
two_at f (suc zero) h = refl
two_at f (suc (suc k)) h = absurd (omega arith)

-- A joined group by the decision which of its two places have a pick.

joined_decided : (n : ℕ) (op : Operation) (guards : List Record) (size : ℕ) → length guards ≡ size → (a b : List ℕ) (p q : Bool)
    → p ≡ not (emission.one_wire a) → q ≡ not (emission.one_wire b)
    → emission.joined n op guards (a ∷ b ∷ [])
    ≡ cond (p || q) guards []
    ++ ((cond p (pick (emission.pairs n a) ∷ []) [] ++ cond q (pick (emission.pairs n b) ∷ []) [])
    ++ (records.operation op (cond p (n + size) (get_or a 0 0) ∷ cond q (n + size + cond p 1 0) (get_or b 0 0) ∷ []) ∷ []))
joined_decided n op guards size e a b p q ep eq =
    split (emission.one_wire a)
    (λ x. split (emission.one_wire b)
    (λ y. none_picked n op guards a b x y ∙ rw (ep, eq, x, y))
    (λ y. second_picked n op guards a b x y ∙ rw (ep, eq, x, y, e, add-zero (n + size))))
    (λ x. split (emission.one_wire b)
    (λ y. first_picked n op guards a b x y ∙ rw (ep, eq, x, y, e))
    (λ y. both_picked n op guards a b x y ∙ rw (ep, eq, x, y, e, add-one (n + size))))

-- The records of a joined group.

module _ (quads : List ℕ) (count : ℕ) (sets conds : List ℕ) (wire : ℕ → ℕ) (n : ℕ) where
  guard_same : ((t : ℕ) → t < most_conditions → get_or conds t 0 ≡ get_or (conditions (gates_in quads count)) t 0) → (m : ℕ)
      → emission.guard_of [] (gates_in quads count) sets wire m ≡ guard_in conds wire (get_or sets m 0)
  guard_same held m =
      ap (λ (l : List ℕ). records.guard l (table most_conditions (get_or sets m 0)))
      (ap (map wire) (rests_held (gates_in quads count) sets conds held m) ∙ map-map wire (λ t. get_or conds t 0) (rests most_conditions (get_or sets m 0)))

  module _ (ms : List ℕ) (below : Inside count ms) (two : (m : ℕ) → m ∈ ms → length (arguments (gate_in quads m)) ≡ 2) where
    args_at : (m : ℕ) → m ∈ ms → arguments (gate_at (gates_in quads count) m) ≡ argument_at quads m 0 ∷ argument_at quads m 1 ∷ []
    args_at m i = ap arguments (gates_at quads count m (below m i)) ∙ two_arguments quads m (two m i)

    values_at_lem : (k : ℕ) → k < 2 → emission.values_at [] (gates_in quads count) sets wire ms k ≡ values_in quads wire k ms
    values_at_lem k l = map_same _ (λ m. wire (argument_at quads m k)) ms (λ m i. ap (λ (l : List ℕ). wire (get_or l k 0)) (args_at m i) ∙ ap wire (two_at (argument_at quads m) k l))

  pub emit_joined : (ms : List ℕ) (picks : Picks) → Decided quads wire ms picks → 2 ≤ length ms → Inside count ms
      → ((m : ℕ) → m ∈ ms → length (arguments (gate_in quads m)) ≡ 2)
      → ((t : ℕ) → t < most_conditions → get_or conds t 0 ≡ get_or (conditions (gates_in quads count)) t 0) → emit_in quads count sets wire n ms ≡ joined_in quads sets conds wire n ms picks
  emit_joined [] picks d h below two held = absurd (omega arith)
  emit_joined (m ∷ []) picks d h below two held = absurd (omega arith)
  emit_joined (m ∷ k ∷ l) picks d h below two held =
      let ms : List ℕ = m ∷ k ∷ l in
      let g : gate_at (gates_in quads count) m ≡ operation (operation_of (code_at quads m)) (first_at quads m ∷ second_at quads m ∷ []) = gates_at quads count m
      (below m (inl refl)) ∙ two_gate quads m (two m (inl refl)) in
      let op : emission.gate_operation (gate_at (gates_in quads count) m) ≡ operation_of (code_at quads m) = ap emission.gate_operation g in
      let size : length (arguments (gate_at (gates_in quads count) m)) ≡ 2 = ap (λ (i : Gate). length (arguments i)) g in
      let guards : map (emission.guard_of [] (gates_in quads count) sets wire) ms ≡ guards_in conds wire sets ms = map_same _ (λ m. guard_in conds wire (get_or sets m 0)) ms
      (λ m i. guard_same held m) in
      let first : emission.values_at [] (gates_in quads count) sets wire ms 0 ≡ values_in quads wire 0 ms = values_at_lem ms below two 0 (omega arith) in
      let second : emission.values_at [] (gates_in quads count) sets wire ms 1 ≡ values_in quads wire 1 ms = values_at_lem ms below two 1 (omega arith) in
      emit_two [] (gates_in quads count) sets wire n m k l size
      ∙ ap₂ (λ (o : Operation) (gs : List Record). emission.joined n o gs
      (emission.values_at [] (gates_in quads count) sets wire ms 0 ∷ emission.values_at [] (gates_in quads count) sets wire ms 1 ∷ [])) op guards
      ∙ ap₂ (λ (a b : List ℕ). emission.joined n (operation_of (code_at quads m)) (guards_in conds wire sets ms) (a ∷ b ∷ [])) first second
      ∙ joined_decided n (operation_of (code_at quads m)) (guards_in conds wire sets ms) (length ms) (length-map ms (λ m. guard_in conds wire (get_or sets m 0)))
      (values_in quads wire 0 ms) (values_in quads wire 1 ms) picks.first picks.second d.at_first d.at_second
