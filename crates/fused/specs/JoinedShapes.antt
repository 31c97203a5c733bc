-- Laws for document 02, C-18, "No pick between equal wires": the four shapes of a joined group, by whether its members have one wire at each of its two argument places;
-- every larger group of an accepted plan has one of them; no pick of its circuit is between equal wires.
use Rattle.std.specs.Prelude.{ℕ, suc, ◌+◌, ◌≤◌, ◌<◌, ◌≡◌, refl, true, false, List, [], ◌∷◌, ◌++◌, map, length, get_or}
use Rattle.std.proofs.Common.{sym, ap, ◌∙◌, inl, arith}
use Rattle.base.specs.Lists.{◌∈◌, upto}
use Rattle.base.specs.declared.Operation.{Operation}
use Rattle.file.specs.Records.{Record, input, word, bit, operation, choice, pick, guard, record_in, Pair}
use Rattle.file.specs.WireKinds.{values_of}
use Rattle.file.specs.RecordLaws.{Along, along_map, along_at}
use Rattle.circuit.specs.Gates.{gate_at, arguments, Gates}
use Rattle.circuit.specs.PlainCircuit.{gates_of, gate_count}
use Rattle.circuit_needed.specs.Pass.{rule_preconditions}
use Rattle.plan.specs.PlanFile.{groups_in}
use Rattle.plan.specs.Groups.{group_of, members}
use Rattle.plan.specs.GroupLaws.{member_of}
use Rattle.plan.specs.Rows.{plan_answer}
use Rattle.fused.specs.Emission.{gate_operation, pairs, one_wire, joined, guard_of, values_at, emit}
use Rattle.fused.specs.FusedCircuit.{records_of, wire_of}
use Rattle.fused.specs.JoinedParts.{joined_along}
use Rattle.fused.specs.EmitLaws.{alone_any, emit_two}
use Rattle.fused.specs.KindedLaws.{pairs_values}
use Rattle.fused.specs.BoundLaws.{fused_along}
use Rattle.fused.specs.PlannedLaws.{planned_joined, planned_two}
use Rattle.fused.specs.JoinedGates.{joined_with, records_with, Stands}
use Rattle.fused.specs.GroupStands.{stands_as, group_stands}

-- n is the first record's wire; a and b are the members' wires at the first place and at the second
module _ (n : ℕ) (op : Operation) (guards : List Record) (a b : List ℕ) where
  pub both_picked : one_wire a ≡ false → one_wire b ≡ false
      → joined n op guards (a ∷ b ∷ []) ≡ guards ++ (pick (pairs n a) ∷ pick (pairs n b) ∷ operation op ((n + length guards) ∷ suc (n + length guards) ∷ []) ∷ [])
  unfolding joined
  both_picked x y = rw (x, y)

  pub first_picked : one_wire a ≡ false → one_wire b ≡ true
      → joined n op guards (a ∷ b ∷ []) ≡ guards ++ (pick (pairs n a) ∷ operation op ((n + length guards) ∷ get_or b 0 0 ∷ []) ∷ [])
  unfolding joined
  first_picked x y = rw (x, y)

  pub second_picked : one_wire a ≡ true → one_wire b ≡ false
      → joined n op guards (a ∷ b ∷ []) ≡ guards ++ (pick (pairs n b) ∷ operation op (get_or a 0 0 ∷ (n + length guards) ∷ []) ∷ [])
  unfolding joined
  second_picked x y = rw (x, y)

  pub none_picked : one_wire a ≡ true → one_wire b ≡ true → joined n op guards (a ∷ b ∷ []) ≡ operation op (get_or a 0 0 ∷ get_or b 0 0 ∷ []) ∷ []
  unfolding joined
  none_picked x y = rw (x, y)

-- Every group of two or more of an accepted plan is a joined group; wires are those of the whole circuit.

module _ (s p : List ℕ) (h : (plan_answer s p).number ≡ 0) where
  -- the records of members of which m is one
  joined_as : (ms : List ℕ) (q : ℕ) → members (gate_count s) (group_of (groups_in p)) q ≡ ms → 2 ≤ length ms → (m : ℕ) → m ∈ ms → (n : ℕ)
      → emit s (gates_of s) (rule_preconditions s) (wire_of s p) n ms
      ≡ joined n (gate_operation (gate_at (gates_of s) m)) (map (guard_of s (gates_of s) (rule_preconditions s) (wire_of s p)) ms)
      (values_at s (gates_of s) (rule_preconditions s) (wire_of s p) ms 0 ∷ values_at s (gates_of s) (rule_preconditions s) (wire_of s p) ms 1 ∷ [])
  joined_as [] q e two m i n = absurd i
  joined_as (j ∷ []) q e two m i n = absurd (omega (arith, two))
  joined_as (j ∷ k ∷ l) q e two m i n =
      let ms : List ℕ = j ∷ k ∷ l in
      let many : 2 ≤ length (members (gate_count s) (group_of (groups_in p)) q) = rw e two in
      let r = (planned_joined s p h).alike q many j m (rw e (inl refl)) (rw e i) in
      let op : gate_operation (gate_at (gates_of s) j) ≡ gate_operation (gate_at (gates_of s) m) = r.3 ∙ sym (ap gate_operation r.2) in
      let args : length (arguments (gate_at (gates_of s) j)) ≡ 2 = planned_two s p h q many j (rw e (inl refl)) in
      emit_two s (gates_of s) (rule_preconditions s) (wire_of s p) n j k l args
      ∙ ap (λ (o : Operation). joined n o (map (guard_of s (gates_of s) (rule_preconditions s) (wire_of s p)) ms)
      (values_at s (gates_of s) (rule_preconditions s) (wire_of s p) ms 0 ∷ values_at s (gates_of s) (rule_preconditions s) (wire_of s p) ms 1 ∷ [])) op

  pub joined_stands : (m : ℕ) → m < gate_count s → 2 ≤ length (joined_with s p m)
      → Stands (records_of s p) (wire_of s p m) (records_with s p m)
  joined_stands m l two =
      stands_as (records_of s p) (wire_of s p m) _ _
      (joined_as (joined_with s p m) (group_of (groups_in p) m) refl two m (member_of (gate_count s) (group_of (groups_in p)) m (group_of (groups_in p) m) l refl))
      (group_stands s p h m l)

-- No pick is between equal wires.

-- the values of a pick are not all one wire
abbrev pub Differs : Record → Type 0
Differs (input k x) = Unit {0}
Differs (word n) = Unit {0}
Differs (bit b) = Unit {0}
Differs (operation op l) = Unit {0}
Differs (choice c a b) = Unit {0}
Differs (pick l) = one_wire (values_of l) ≡ false
Differs (guard cs t) = Unit {0}

emit_differs : (s : List ℕ) (C : Gates) (sets : List ℕ) (wire : ℕ → ℕ) (n : ℕ) (ms : List ℕ) → Along (λ i. Differs) n (emit s C sets wire n ms)
emit_differs s C sets wire n [] = tt
emit_differs s C sets wire n (m ∷ []) = (alone_any Differs (λ k x. tt) (λ n. tt) (λ b. tt) (λ op l. tt) (λ c a b. tt) s wire (gate_at C m), tt)
emit_differs s C sets wire n (m ∷ k ∷ l) =
    joined_along (λ i. Differs) n (gate_operation (gate_at C m)) (map (guard_of s C sets wire) (m ∷ k ∷ l)) (values_at s C sets wire (m ∷ k ∷ l))
    (upto (length (arguments (gate_at C m))))
    (along_map (λ i. Differs) (guard_of s C sets wire) (m ∷ k ∷ l) n n (omega arith) (λ _ _ _ _. tt))
    (λ i _ f j _. rw (pairs_values n (values_at s C sets wire (m ∷ k ∷ l) i)) f) tt

pub picks_differ : (s p : List ℕ) (i : ℕ) → i < length (records_of s p) → (l : List Pair) → record_in (records_of s p) i ≡ pick l → one_wire (values_of l) ≡ false
picks_differ s p i b l e =
    rw e at
    (along_at (λ j. Differs) (records_of s p) 0
    (fused_along s p (λ j. Differs)
    (λ wire n q. emit_differs s (gates_of s) (rule_preconditions s) wire n (members (gate_count s) (group_of (groups_in p)) q))) i b)
