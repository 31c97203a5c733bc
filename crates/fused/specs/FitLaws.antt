-- Laws for document 01, "The fused circuit file": the records of a group of gates that fit do fit their bytes.
use Rattle.std.specs.Prelude.{◌≡◌, refl, false, List, [], ◌∷◌, map, ℕ, ◌^◌, ◌≤◌, ◌<◌, eqb, length, get_or}
use Rattle.std.proofs.Common.{◌∙◌, inl, lt_of_lt_of_le, arith, pow_mono}
use Rattle.std.proofs.lemmas.List.{length-map}
use Rattle.file.specs.Versions.{written_version, most_guard_wires, table_bytes}
use Rattle.file.specs.VersionLaws.{table_room}
use Rattle.file.specs.FieldLaws.{FieldsFit, AllFieldsFit}
use Rattle.base.specs.Lists.{from, upto}
use Rattle.base.specs.ListLaws.{length_from, length_keep}
use Rattle.base.specs.Sets.{has, rests_on, rests}
use Rattle.base.specs.Guards.{spread, table_over, table}
use Rattle.base.specs.BitLaws.{collect_below}
use Rattle.base.specs.Codes.{entry_of}
use Rattle.base.specs.declared.Kind.{Kind}
use Rattle.base.specs.declared.Operation.{Operation}
use Rattle.file.specs.RecordLaws.{along_map}
use Rattle.circuit.specs.Gates.{Gate, Gates, gate_at, arguments}
use Rattle.circuit.specs.Gates as gate
use Rattle.circuit.specs.Limits.{most_conditions}
use Rattle.circuit.specs.GateKinds.{GateFits}
use Rattle.circuit.proofs.EachGateLaws.{StartGate}
use Rattle.plan.specs.Groups.{members, rests_of}
use Rattle.plan.specs.RestLaws.{rests_few}
use Rattle.plan.specs.Accepted.{OneCostly}
use Rattle.fused.specs.Emission.{alone, joined, guard_of, values_at, emit}
use Rattle.fused.specs.SizeJoined.{length_pairs}
use Rattle.fused.specs.JoinedParts.{arguments_count, joined_along}

-- a table has no bit past the settings of the conditions that it is over
pub table_below : (n s : ℕ) → table n s < 2 ^ 2 ^ length (rests n s)
unfolding table table_over
table_below n s = collect_below (2 ^ length (rests n s)) (λ j. has s (spread n (rests n s) j))

-- so it has its bytes in the version that is written
pub table_small : (s : ℕ) → table most_conditions s < 256 ^ table_bytes written_version
unfolding rests
table_small s =
    let kept : length (rests most_conditions s) ≤ most_conditions = rw (length_from 0 most_conditions) at (length_keep (rests_on most_conditions s) (upto most_conditions)) in
    let few : length (rests most_conditions s) ≤ most_guard_wires written_version = omega (arith, kept) in
    rw (table_room written_version) (lt_of_lt_of_le (table_below most_conditions s) (pow_mono (pow_mono few)))

-- a gate alone
pub alone_sized : (s : List ℕ) (wire : ℕ → ℕ) (kinds : ℕ → Kind) (v : ℕ) (k : Gate) → GateFits kinds k → StartGate v k → v ≤ 32 → FieldsFit written_version (alone s wire k)
alone_sized s wire kinds v (gate.start x) f h l = omega arith
alone_sized s wire kinds v (gate.word n) f h l = f
alone_sized s wire kinds v (gate.bit b) f h l = omega arith
alone_sized s wire kinds v (gate.operation op m) f h l = length-map m wire ∙ f.0
alone_sized s wire kinds v (gate.choice c a b) f h l = tt

-- a group that does not hold gate 0 has at most 255 of 256 gates
pub members_few : (C : Gates) (group : ℕ → ℕ) (q : ℕ) → eqb (group 0) q ≡ false → length C ≤ 256 → length (members (length C) group q) < 256
members_few [] group q h l = omega arith
members_few (k ∷ C) group q h l = rw h (omega (arith, length_keep (λ g. eqb (group g) q) (from 1 (length C)), length_from 1 (length C)))

module _ (s : List ℕ) (C : Gates) (sets : List ℕ) (wire : ℕ → ℕ) where
  -- a joined group of fewer than 256 members
  joined_sized : (n : ℕ) (op : Operation) (ms : List ℕ) → length ms < 256
      → AllFieldsFit written_version n (joined n op (map (guard_of s C sets wire) ms) (map (values_at s C sets wire ms) (upto (entry_of op).arity)))
  joined_sized n op ms h =
      joined_along (λ i. FieldsFit written_version) n op (map (guard_of s C sets wire) ms) (values_at s C sets wire ms) (upto (entry_of op).arity)
      (along_map (λ i. FieldsFit written_version) (guard_of s C sets wire) ms n n (omega arith)
      (λ m _ _ _. (omega (arith, length-map (rests_of C sets m) wire, rests_few C sets m), table_small (get_or sets m 0))))
      (λ k _ _ _ _. omega (arith, length_pairs n (values_at s C sets wire ms k), length-map ms (λ m. wire (get_or (arguments (gate_at C m)) k 0))))
      (arguments_count (map (values_at s C sets wire ms) (upto (entry_of op).arity)) _
      ∙ length-map (upto (entry_of op).arity) (values_at s C sets wire ms) ∙ length_from 0 (entry_of op).arity)

  -- any group whose gates fit
  pub emit_sized : (kinds : ℕ → Kind) (v : ℕ) → v ≤ 32 → ((i : ℕ) → GateFits kinds (gate_at C i)) → ((i : ℕ) → StartGate v (gate_at C i))
      → (n : ℕ) (ms : List ℕ) → (2 ≤ length ms → OneCostly C ms × (length ms < 256)) → AllFieldsFit written_version n (emit s C sets wire n ms)
  emit_sized kinds v l fits starts n [] h = tt
  emit_sized kinds v l fits starts n (m ∷ []) h = (alone_sized s wire kinds v (gate_at C m) (fits m) (starts m) l, tt)
  emit_sized kinds v l fits starts n (m ∷ k ∷ ms) h =
      let ((op, c, f), few) = h (omega arith) in
      let (l, e) = f m (inl refl) in
      let a : length l ≡ (entry_of op).arity = (rw e at (fits m)).0 in
      rw (e, a) (joined_sized n op (m ∷ k ∷ ms) few)
