-- Laws for document 01, "The fused circuit file": the records of a group: how many, how many bytes, what cost.
use Rattle.std.specs.Prelude.{◌≡◌, refl, List, [], ◌∷◌, ◌++◌, map, ℕ, suc, ◌+◌, ◌*◌, ◌≤◌}
use Rattle.std.proofs.Common.{ap, ap₂, ◌∙◌, suc-mul, mul-le-mul_right, arith, length-append}
use Rattle.std.proofs.Math.ListN.{length}
use Rattle.std.proofs.lemmas.List.{length-map}
use Rattle.base.specs.Lists.{upto}
use Rattle.base.specs.TestLaws.{split}
use Rattle.base.specs.ListLaws.{length_from}
use Rattle.base.specs.Codes.{entry_of}
use Rattle.base.specs.declared.Operation.{Operation}
use Rattle.file.specs.Versions.{written_version, table_bytes}
use Rattle.file.specs.Records.{Record, operation, pick, records_cost}
use Rattle.file.specs.CircuitFile.{record_bytes, records_bytes}
use Rattle.file.specs.SizeLaws.{operation_size, pick_size, guard_size, size_append, size_one, cost_none, cost_more, cost_append, cost_one, cost_ones}
use Rattle.circuit.specs.Gates.{Gates}
use Rattle.plan.specs.PlanFile.{EachGroup}
use Rattle.plan.specs.Groups.{rests_of}
use Rattle.plan.specs.RestLaws.{rests_few}
use Rattle.fused.specs.SizeLimits.{most_guard_bytes}
use Rattle.fused.specs.Emission.{pairs, one_wire, picked, guarded, joined, guard_of, values_at}
use Rattle.fused.specs.JoinedParts.{arguments_count, behind_guards, operation_reads, joined_count}

-- a pair for each value
pub length_pairs : (n : ℕ) (values : List ℕ) → length (pairs n values) ≡ length values
length_pairs n [] = refl
length_pairs n (w ∷ values) = ap suc (length_pairs (suc n) values)

-- a pick for each of some places, of k members
abbrev pub picks : ℕ → List (List ℕ) → List Record
picks n places = map (λ values. pick (pairs n values)) places

pub picks_size : (n k : ℕ) (places : List (List ℕ)) → EachGroup (λ values. length values ≡ k) places → length (records_bytes written_version (picks n places)) ≡ length places *
    (2 + 4 * k)
picks_size n k [] e = omega arith
picks_size n k (values ∷ places) (e, f) =
    length-append (record_bytes written_version (pick (pairs n values))) (records_bytes written_version (picks n places))
    ∙ ap₂ (λ (x y : ℕ). x + y) (pick_size written_version (pairs n values) ∙ ap (λ (i : ℕ). 2 + 4 * i) (length_pairs n values ∙ e)) (picks_size n k places f)
    ∙ rw (suc-mul (length places) (2 + 4 * k)) (omega arith)

pub picks_cost : (n k : ℕ) (places : List (List ℕ)) → EachGroup (λ values. length values ≡ k) places → records_cost (picks n places) ≡ length places * (2 * k)
picks_cost n k [] e = omega (arith, cost_none)
picks_cost n k (values ∷ places) (e, f) =
    cost_more (pick (pairs n values)) (picks n places)
    ∙ ap₂ (λ (x y : ℕ). x + y) (ap (λ (i : ℕ). 2 * i) (length_pairs n values ∙ e)) (picks_cost n k places f)
    ∙ rw (suc-mul (length places) (2 * k)) (omega arith)

-- the places that have a pick are some of them
picked_few : (places : List (List ℕ)) → length (picked places) ≤ length places
picked_few [] = omega arith
picked_few (values ∷ places) = split (one_wire values) (λ t. rw t (omega (arith, picked_few places))) (λ f. rw f (omega (arith, picked_few places)))

pub picked_each : (P : List ℕ → Type 0) (places : List (List ℕ)) → EachGroup P places → EachGroup P (picked places)
picked_each P [] e = tt
picked_each P (values ∷ places) (e, f) = split (one_wire values) (λ t. rw t (picked_each P places f)) (λ o. rw o (e, picked_each P places f))

-- the guards that are written are all or none
kept_most : (picks : List (List ℕ)) (guards : List Record)
    → (length (guarded picks guards) ≤ length guards) × (length (records_bytes written_version (guarded picks guards)) ≤ length (records_bytes written_version guards))
    × (records_cost (guarded picks guards) ≤ records_cost guards)
kept_most [] guards = (omega arith, omega arith, omega (arith, cost_none))
kept_most (values ∷ picks) guards = (omega arith, omega arith, omega arith)

-- a joined group: its guards, a pick for each place that has one, the operation
module _ (n : ℕ) (op : Operation) (guards : List Record) (places : List (List ℕ)) where
  abbrev kept : List Record
  kept = guarded (picked places) guards

  abbrev last : Record
  last = operation op (operation_reads n guards places)

  module _ (k : ℕ) (each : EachGroup (λ values. length values ≡ k) places) where
    pub joined_size : length (records_bytes written_version (joined n op guards places)) ≡ length (records_bytes written_version (guarded (picked places) guards))
        + length (picked places) * (2 + 4 * k) + (1 + 2 * length places)
    unfolding joined
    joined_size =
        rw (
          size_append written_version kept (picks n (picked places) ++ (last ∷ [])),
          size_append written_version (picks n (picked places)) (last ∷ []),
          picks_size n k (picked places) (picked_each (λ values. length values ≡ k) places each),
          size_one written_version last,
          operation_size written_version op (operation_reads n guards places),
          arguments_count places (behind_guards n guards places),
        )
        (omega arith)

    pub joined_cost : records_cost (joined n op guards places) ≡ records_cost (guarded (picked places) guards) + length (picked places) * (2 * k) + (entry_of op).cost
    unfolding joined
    joined_cost =
        rw (
          cost_append kept (picks n (picked places) ++ (last ∷ [])),
          cost_append (picks n (picked places)) (last ∷ []),
          picks_cost n k (picked places) (picked_each (λ values. length values ≡ k) places each),
          cost_one last,
        )
        (omega arith)

    -- all its guards and a pick for each place would come to no less
    pub joined_most : (length (joined n op guards places) ≤ length guards + length places + 1)
        × (length (records_bytes written_version (joined n op guards places)) ≤ length (records_bytes written_version guards) + length places * (2 + 4 * k) + (1 + 2 * length places))
        × (records_cost (joined n op guards places) ≤ records_cost guards + length places * (2 * k) + (entry_of op).cost)
    joined_most =
        let g = kept_most (picked places) guards in
        let f = picked_few places in (
          omega (arith, joined_count n op guards places, g.0, f),
          omega (arith, joined_size, g.1, mul-le-mul_right (2 + 4 * k) f),
          omega (arith, joined_cost, g.2, mul-le-mul_right (2 * k) f),
        )

-- the guards and the places of these members
module _ (s : List ℕ) (C : Gates) (sets : List ℕ) (wire : ℕ → ℕ) where
  pub guard_bytes : (m : ℕ) → length (record_bytes written_version (guard_of s C sets wire m)) ≡ 2 + 2 * length (rests_of C sets m) + table_bytes written_version
  guard_bytes m = guard_size written_version (map wire (rests_of C sets m)) _ ∙ rw length-map

  pub guards_most : (ms : List ℕ) → length (records_bytes written_version (map (guard_of s C sets wire) ms)) ≤ most_guard_bytes * length ms
  guards_most [] = omega arith
  guards_most (m ∷ ms) =
      rw (length-append (record_bytes written_version (guard_of s C sets wire m)) (records_bytes written_version (map (guard_of s C sets wire) ms)), guard_bytes m)
      (omega (arith, rests_few C sets m, guards_most ms))

  -- a guard costs 1
  pub guards_cost : (ms : List ℕ) → records_cost (map (guard_of s C sets wire) ms) ≡ length ms
  guards_cost = cost_ones (guard_of s C sets wire) (λ m. refl)

  -- at each place as many wires as members
  pub values_each : (ms l : List ℕ) → EachGroup (λ values. length values ≡ length ms) (map (values_at s C sets wire ms) l)
  values_each ms [] = tt
  values_each ms (k ∷ l) = (length-map ms _, values_each ms l)

  -- the group of these members, joined, its operation of a arguments
  module _ (n : ℕ) (op : Operation) (ms : List ℕ) (a : ℕ) where
    abbrev pub group : List Record
    group = joined n op (map (guard_of s C sets wire) ms) (map (values_at s C sets wire ms) (upto a))

    places : length (map (values_at s C sets wire ms) (upto a)) ≡ a
    places = length-map (upto a) (values_at s C sets wire ms) ∙ length_from 0 a

    most : (length group ≤ length (map (guard_of s C sets wire) ms) + a + 1)
        × (length (records_bytes written_version group) ≤ length (records_bytes written_version (map (guard_of s C sets wire) ms)) + a * (2 + 4 * length ms) + (1 + 2 * a))
        × (records_cost group ≤ records_cost (map (guard_of s C sets wire) ms) + a * (2 * length ms) + (entry_of op).cost)
    most =
        rw places at
        (joined_most n op (map (guard_of s C sets wire) ms) (map (values_at s C sets wire ms) (upto a)) (length ms) (values_each ms (upto a)))

    -- at most so many records, bytes and so much cost
    pub group_count : length group ≤ length ms + a + 1
    group_count = omega (arith, most.0, length-map ms (guard_of s C sets wire))

    pub group_size : length (records_bytes written_version group) ≤ length (records_bytes written_version (map (guard_of s C sets wire) ms)) + a * (2 + 4 * length ms) + (1 + 2 * a)
    group_size = most.1

    pub group_cost : records_cost group ≤ length ms + a * (2 * length ms) + (entry_of op).cost
    group_cost = omega (arith, most.2, guards_cost ms)
