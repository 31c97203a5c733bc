-- Laws for document 01, "The fused circuit file": what a group of k members comes to at most: k + 3 records where two or more are joined; how many, how many bytes
-- and what cost any group has.
use Rattle.std.specs.Prelude.{◌≡◌, refl, true, List, [], ◌∷◌, map, ℕ, ◌+◌, ◌*◌, ◌≤◌, length}
use Rattle.std.proofs.Common.{ap, ◌∙◌, inl, arith}
use Rattle.std.proofs.lemmas.Bool.{false≢true}
use Rattle.std.proofs.lemmas.List.{length-map}
use Rattle.base.specs.Lists.{upto}
use Rattle.base.specs.Codes.{entry_of, costly}
use Rattle.base.specs.declared.Operation.{Operation}
use Rattle.base.specs.declared.Operation.TheVariants.{Sum, Difference, Product, LessThan, Equal, And, Or, Not}
use Rattle.file.specs.Versions.{written_version}
use Rattle.file.specs.Records.{record_cost, records_cost}
use Rattle.file.specs.CircuitFile.{record_bytes, records_bytes}
use Rattle.file.specs.SizeLaws.{word_size, operation_size, choice_size, size_one, cost_none, cost_one}
use Rattle.circuit.specs.Gates.{Gate, Gates, gate_at, arguments, cost_of}
use Rattle.circuit.specs.Gates as gate
use Rattle.circuit.specs.CostLaws.{cost_most}
use Rattle.circuit_needed.specs.Held.{ShapedGate, Shaped}
use Rattle.plan.specs.Accepted.{OneCostly}
use Rattle.fused.specs.Emission.{alone, gate_operation, joined, guard_of, values_at, emit}
use Rattle.fused.specs.EmitLaws.{emit_two}
use Rattle.fused.specs.SizeLimits.{most_bytes_of_two}
use Rattle.fused.specs.SizeJoined.{guards_most, group_count, group_size, group_cost}

-- a costly operation has two arguments
pub costly_two : (op : Operation) → costly op ≡ true → (entry_of op).arity ≡ 2
costly_two Sum h = refl
costly_two Difference h = refl
costly_two Product h = refl
costly_two LessThan h = refl
costly_two Equal h = refl
costly_two And h = refl
costly_two Or h = refl
costly_two Not h = absurd (false≢true h)

-- and any has at most two
pub arity_most : (op : Operation) → (entry_of op).arity ≤ 2
arity_most Sum = omega arith
arity_most Difference = omega arith
arity_most Product = omega arith
arity_most LessThan = omega arith
arity_most Equal = omega arith
arity_most And = omega arith
arity_most Or = omega arith
arity_most Not = omega arith

-- a gate alone costs what it did
pub alone_cost : (s : List ℕ) (wire : ℕ → ℕ) (k : Gate) → record_cost (alone s wire k) ≡ cost_of k
alone_cost s wire (gate.start x) = refl
alone_cost s wire (gate.word n) = refl
alone_cost s wire (gate.bit b) = refl
alone_cost s wire (gate.operation op l) = refl
alone_cost s wire (gate.choice c a b) = refl

-- and has at most 7 bytes
pub alone_most : (s : List ℕ) (wire : ℕ → ℕ) (k : Gate) → ShapedGate k → length (record_bytes written_version (alone s wire k)) ≤ 7
alone_most s wire (gate.start x) h = omega arith
alone_most s wire (gate.word n) h = omega (arith, word_size written_version n)
alone_most s wire (gate.bit b) h = omega arith
alone_most s wire (gate.operation op l) h = omega (arith, operation_size written_version op (map wire l), length-map l wire, h, arity_most op)
alone_most s wire (gate.choice c a b) h = omega (arith, choice_size written_version (wire c) (wire a) (wire b))

module _ (s : List ℕ) (C : Gates) (sets : List ℕ) (wire : ℕ → ℕ) (n : ℕ) where
  -- two or more members of one costly operation: the one place that says that there are two picks at most
  module _ (m k : ℕ) (l : List ℕ) (op : Operation) (shaped : Shaped C) (costs : costly op ≡ true) (args : List ℕ) (e : gate_at C m ≡ gate.operation op args) where
    two : length args ≡ 2
    two = (rw e at (shaped m)) ∙ costly_two op costs

    emit_joined : emit s C sets wire n (m ∷ k ∷ l) ≡ joined n op (map (guard_of s C sets wire) (m ∷ k ∷ l)) (map (values_at s C sets wire (m ∷ k ∷ l)) (upto 2))
    emit_joined =
        emit_two s C sets wire n m k l (ap (λ (g : Gate). length (arguments g)) e ∙ two)
        ∙ ap (λ (g : Gate). joined n (gate_operation g) (map (guard_of s C sets wire) (m ∷ k ∷ l)) (map (values_at s C sets wire (m ∷ k ∷ l)) (upto 2))) e

    pub emit_count : length (emit s C sets wire n (m ∷ k ∷ l)) ≤ length (m ∷ k ∷ l) + 3
    emit_count = rw emit_joined (omega (arith, group_count s C sets wire n op (m ∷ k ∷ l) 2))

    pub emit_size : length (records_bytes written_version (emit s C sets wire n (m ∷ k ∷ l)))
        ≤ length (records_bytes written_version (map (guard_of s C sets wire) (m ∷ k ∷ l))) + 2 * (2 + 4 * length (m ∷ k ∷ l)) + 5
    emit_size = rw emit_joined (group_size s C sets wire n op (m ∷ k ∷ l) 2)

    pub emit_cost : records_cost (emit s C sets wire n (m ∷ k ∷ l)) ≤ 5 * length (m ∷ k ∷ l) + (entry_of op).cost
    emit_cost = rw emit_joined (omega (arith, group_cost s C sets wire n op (m ∷ k ∷ l) 2))

  -- any group of k members: at most 5 k / 2 records, of at most `most_bytes_of_two` bytes to two members, at a cost of at most 40 k
  pub emit_most : Shaped C → (ms : List ℕ) → (2 ≤ length ms → OneCostly C ms)
      → (2 * length (emit s C sets wire n ms) ≤ 5 * length ms) × (2 * length (records_bytes written_version (emit s C sets wire n ms)) ≤ most_bytes_of_two * length ms)
      × (records_cost (emit s C sets wire n ms) ≤ 40 * length ms)
  emit_most shaped [] h = (omega arith, omega arith, omega (arith, cost_none))
  emit_most shaped (m ∷ []) h = (
    omega arith,
    omega (arith, size_one written_version (alone s wire (gate_at C m)), alone_most s wire (gate_at C m) (shaped m)),
    omega (arith, cost_one (alone s wire (gate_at C m)), alone_cost s wire (gate_at C m), cost_most (gate_at C m)),
  )
  emit_most shaped (m ∷ k ∷ l) h =
      let (op, c, f) = h (omega arith) in
      let (args, e) = f m (inl refl) in (
        omega (arith, emit_count m k l op shaped c args e),
        omega (arith, emit_size m k l op shaped c args e, guards_most s C sets wire (m ∷ k ∷ l)),
        omega (arith, emit_cost m k l op shaped c args e, cost_most (gate.operation op args)),
      )
