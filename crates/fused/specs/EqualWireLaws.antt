-- Laws for document 02, C-18, on an accepted plan: when members have one wire at a place, what stands where a group has no guards and what its wire holds; that a
-- joined gate still comes after the conditions that it rests on; what a group's records come to by its picks.
use Rattle.std.specs.Prelude.{ℕ, ◌+◌, ◌*◌, ◌≤◌, ◌<◌, ◌≡◌, refl, true, List, [], ◌∷◌, map, ◌↔◌, get_or}
use Rattle.std.proofs.Math.Path.{sym, ap, ap₂}
use Rattle.std.proofs.Common.{◌∙◌, arith}
use Rattle.std.proofs.lemmas.Simd.{map-map}
use Rattle.std.proofs.Math.ListN.{length}
use Rattle.std.proofs.lemmas.List.{length-map}
use Rattle.base.specs.Lists.{◌∈◌}
use Rattle.base.specs.MemberLaws.{in_map, map_in, get_or_in}
use Rattle.base.specs.Codes.{entry_of}
use Rattle.base.specs.Results.{result_on}
use Rattle.base.specs.declared.Operation.{Operation}
use Rattle.file.specs.Versions.{written_version}
use Rattle.file.specs.Records.{Record, operation, record_in, record_figure, records_cost}
use Rattle.file.specs.CircuitFile.{records_bytes}
use Rattle.file.specs.SizeLaws.{cost_none}
use Rattle.file.specs.RecordLaws.{wires_right}
use Rattle.file.specs.WireKinds.{wire_kind}
use Rattle.file.specs.WireFigures.{pick_sum, wire_figure}
use Rattle.circuit.specs.Gates.{gate_at, arguments}
use Rattle.circuit.specs.PlainCircuit.{gates_of, gate_count}
use Rattle.circuit_needed.specs.Pass.{rule_preconditions}
use Rattle.plan.specs.PlanFile.{groups_in, EachGroup}
use Rattle.plan.specs.Groups.{group_of, rests_of}
use Rattle.plan.specs.GroupLaws.{member_of}
use Rattle.plan.specs.ReadsLaws.{waits_rests}
use Rattle.plan.specs.Rows.{plan_answer}
use Rattle.fused.specs.Emission.{gate_operation, one_wire, picked, guarded, guard_of}
use Rattle.fused.specs.JoinedParts.{joined_count}
use Rattle.fused.specs.SizeJoined.{joined_size, joined_cost, joined_most, guards_cost, values_each}
use Rattle.fused.specs.FusedCircuit.{records_of, wire_of}
use Rattle.fused.specs.JoinedGates.{argument, joined_with, guards_with, wires_at, records_with, picks_with, Stands}
use Rattle.fused.specs.PlaceLaws.{one_wire_each, one_wire_lem}
use Rattle.fused.specs.PlannedLaws.{planned_two, planned_earlier, planned_wire}
use Rattle.fused.specs.GroupStands.{record_behind, stands_as, waited_earlier}
use Rattle.fused.specs.JoinedShapes.{none_picked, joined_stands}

in_some : (l : List ℕ) (a : ℕ) → a ∈ l → 0 < length l
in_some [] a m = absurd m
in_some (b ∷ l) a m = omega arith

-- the first numbers of a list of two are the list
two_of : (l : List ℕ) → length l ≡ 2 → get_or l 0 0 ∷ get_or l 1 0 ∷ [] ≡ l
two_of [] e = absurd (omega (arith, e))
two_of (a ∷ []) e = absurd (omega (arith, e))
two_of (a ∷ b ∷ []) e = refl
two_of (a ∷ b ∷ c ∷ l) e = absurd (omega (arith, e))

module _ (s p : List ℕ) where
  -- m is joined with itself
  own : (m : ℕ) → m < gate_count s → m ∈ joined_with s p m
  own m l = member_of (gate_count s) (group_of (groups_in p)) m (group_of (groups_in p) m) l refl

  -- the gates joined with m have one wire at place k exactly when each has m's
  pub one_wire_right : (m k : ℕ) → m < gate_count s → (one_wire (wires_at s p m k) ≡ true) ↔ ((j : ℕ) → j ∈ joined_with s p m → wire_of s p (argument s j k) ≡ wire_of s p (argument s m k))
  unfolding argument
  one_wire_right m k l = (
    λ t j i. each t j i ∙ sym (each t m (own m l)),
    λ h. one_wire_lem (wires_at s p m k) some (λ w i. gives h w i ∙ sym (gives h (get_or (wires_at s p m k) 0 0) (get_or_in (wires_at s p m k) 0 some))),
  )
    where
      some : 0 < length (wires_at s p m k)
      some = rw (length-map (joined_with s p m) (λ j. wire_of s p (argument s j k))) (in_some (joined_with s p m) m (own m l))

      each : one_wire (wires_at s p m k) ≡ true → (j : ℕ) → j ∈ joined_with s p m → wire_of s p (argument s j k) ≡ get_or (wires_at s p m k) 0 0
      each t j i = one_wire_each (wires_at s p m k) t (wire_of s p (argument s j k)) (in_map (λ j. wire_of s p (argument s j k)) j (joined_with s p m) i)

      gives : ((j : ℕ) → j ∈ joined_with s p m → wire_of s p (argument s j k) ≡ wire_of s p (argument s m k)) → (w : ℕ) → w ∈ wires_at s p m k → w ≡ wire_of s p (argument s m k)
      gives h w i = let r = map_in (λ j. wire_of s p (argument s j k)) w (joined_with s p m) i in r.2 ∙ h r.0 r.1

  module _ (h : (plan_answer s p).number ≡ 0) where
    module _ (m : ℕ) (l : m < gate_count s) (two : 2 ≤ length (joined_with s p m)) where
      -- a group without a pick is its operation on the wires that all members have
      module _ (first : one_wire (wires_at s p m 0) ≡ true) (second : one_wire (wires_at s p m 1) ≡ true) where
        wire_of_lem : (k : ℕ) → one_wire (wires_at s p m k) ≡ true → get_or (wires_at s p m k) 0 0 ≡ wire_of s p (argument s m k)
        unfolding argument
        wire_of_lem k t = sym (one_wire_each (wires_at s p m k) t (wire_of s p (argument s m k)) (in_map (λ j. wire_of s p (argument s j k)) m (joined_with s p m) (own m l)))

        reads : get_or (wires_at s p m 0) 0 0 ∷ get_or (wires_at s p m 1) 0 0 ∷ [] ≡ map (wire_of s p) (arguments (gate_at (gates_of s) m))
        unfolding argument
        reads =
            ap₂ (λ (a b : ℕ). a ∷ b ∷ []) (wire_of_lem 0 first) (wire_of_lem 1 second)
            ∙ ap (map (wire_of s p)) (two_of (arguments (gate_at (gates_of s) m)) (planned_two s p h (group_of (groups_in p) m) two m (own m l)))

        pub unpicked_stands : Stands (records_of s p) (wire_of s p m)
            (λ _. operation (gate_operation (gate_at (gates_of s) m)) (map (wire_of s p) (arguments (gate_at (gates_of s) m))) ∷ [])
        unpicked_stands =
            stands_as (records_of s p) (wire_of s p m) _ _
            (λ n. none_picked n (gate_operation (gate_at (gates_of s) m)) (guards_with s p m) (wires_at s p m 0) (wires_at s p m 1) first second
            ∙ ap (λ (r : List ℕ). operation (gate_operation (gate_at (gates_of s) m)) r ∷ []) reads)
            (joined_stands s p h m l two)

        pub unpicked_record : record_in (records_of s p) (wire_of s p m) ≡ operation (gate_operation (gate_at (gates_of s) m)) (map (wire_of s p) (arguments (gate_at (gates_of s) m)))
        unpicked_record =
            let g = unpicked_stands in
            let r : Record = operation (gate_operation (gate_at (gates_of s) m)) (map (wire_of s p) (arguments (gate_at (gates_of s) m))) in
            let w : wire_of s p m ≡ length g.before = g.last ∙ omega arith in
            ap₂ (λ (R : List Record) (i : ℕ). record_in R i) g.together w ∙ record_behind g.before r g.after

        -- its wire holds what its argument wires give, whatever the inputs and whether a member is needed or not
        pub unpicked_figure : (inputs : List ℕ)
            → wire_figure inputs (records_of s p) (wire_of s p m)
            ≡ result_on (gate_operation (gate_at (gates_of s) m)) (map (λ a. wire_figure inputs (records_of s p) (wire_of s p a)) (arguments (gate_at (gates_of s) m)))
        unpicked_figure inputs =
            wires_right inputs (records_of s p) (planned_earlier s p h) (wire_of s p m) (planned_wire s p h m l)
            ∙ ap (record_figure inputs (pick_sum (wire_kind (records_of s p))) (wire_figure inputs (records_of s p))) unpicked_record
            ∙ ap (result_on (gate_operation (gate_at (gates_of s) m))) (map-map (wire_figure inputs (records_of s p)) (wire_of s p) (arguments (gate_at (gates_of s) m)))

      -- with or without guards, it comes after the conditions that a member rests on
      pub condition_earlier : (c : ℕ) → c ∈ rests_of (gates_of s) (rule_preconditions s) m → wire_of s p c < wire_of s p m
      condition_earlier c k =
          waited_earlier s p h m c l
          (waits_rests (gates_of s) (rule_preconditions s) (group_of (groups_in p)) (group_of (groups_in p) m) m c
          (own m l) two k)

-- What the records of a group come to, by its picks.

-- guards are written where there is a pick
kept_some : (picks : List (List ℕ)) (guards : List Record) → 0 < length picks → guarded picks guards ≡ guards
kept_some [] guards h = absurd (omega arith)
kept_some (values ∷ picks) guards h = refl

kept_none : (picks : List (List ℕ)) (guards : List Record) → length picks ≡ 0 → guarded picks guards ≡ []
kept_none [] guards h = refl
kept_none (values ∷ picks) guards h = absurd (omega (arith, h))

module _ (s p : List ℕ) (m n : ℕ) where
  abbrev op : Operation
  op = gate_operation (gate_at (gates_of s) m)

  abbrev places : List (List ℕ)
  places = wires_at s p m 0 ∷ wires_at s p m 1 ∷ []

  abbrev k : ℕ
  k = length (joined_with s p m)

  each : EachGroup (λ values. length values ≡ k) places
  each = values_each s (gates_of s) (rule_preconditions s) (wire_of s p) (joined_with s p m) (0 ∷ 1 ∷ [])

  guards_many : length (guards_with s p m) ≡ k
  guards_many = length-map (joined_with s p m) (guard_of s (gates_of s) (rule_preconditions s) (wire_of s p))

  guards_one : records_cost (guards_with s p m) ≡ k
  guards_one = guards_cost s (gates_of s) (rule_preconditions s) (wire_of s p) (joined_with s p m)

  -- with no pick the operation alone
  pub unpicked_sizes : picks_with s p m ≡ 0
      → (length (records_with s p m n) ≡ 1) × (length (records_bytes written_version (records_with s p m n)) ≡ 5)
      × (records_cost (records_with s p m n) ≡ (entry_of (gate_operation (gate_at (gates_of s) m))).cost)
  unpicked_sizes e =
      let kept = kept_none (picked places) (guards_with s p m) e in (
        joined_count n op (guards_with s p m) places ∙ rw (kept, e),
        joined_size n op (guards_with s p m) places k each ∙ rw (kept, e) (omega arith),
        joined_cost n op (guards_with s p m) places k each ∙ rw (kept, e) (omega (arith, cost_none)),
      )

  -- with picks all guards, so many picks of a pair for each member, and the operation
  pub picked_sizes : 0 < picks_with s p m
      → (length (records_with s p m n) ≡ length (joined_with s p m) + picks_with s p m + 1)
      × (length (records_bytes written_version (records_with s p m n))
      ≡ length (records_bytes written_version (guards_with s p m)) + picks_with s p m * (2 + 4 * length (joined_with s p m)) + 5)
      × (records_cost (records_with s p m n)
      ≡ (entry_of (gate_operation (gate_at (gates_of s) m))).cost + length (joined_with s p m) + picks_with s p m * (2 * length (joined_with s p m)))
  picked_sizes h =
      let kept = kept_some (picked places) (guards_with s p m) h in (
        joined_count n op (guards_with s p m) places ∙ rw kept (omega (arith, guards_many)),
        joined_size n op (guards_with s p m) places k each ∙ rw kept,
        joined_cost n op (guards_with s p m) places k each ∙ rw kept (omega (arith, guards_one)),
      )

  -- so never more than with both picks
  pub sizes_most :
      (length (records_with s p m n) ≤ length (joined_with s p m) + 3)
      × (length (records_bytes written_version (records_with s p m n)) ≤ length (records_bytes written_version (guards_with s p m)) + 2 * (2 + 4 * length (joined_with s p m)) + 5)
      × (records_cost (records_with s p m n) ≤ (entry_of (gate_operation (gate_at (gates_of s) m))).cost + 5 * length (joined_with s p m))
  sizes_most =
      let most = joined_most n op (guards_with s p m) places k each in
      (omega (arith, most.0, guards_many), most.1, omega (arith, most.2, guards_one))
