-- What holds along every group's records holds along all; so of an accepted plan a bit constant is 0 or 1, a pick has a pair, a guard reads no more wires than the written version admits.
use Rattle.std.specs.Prelude.{ℕ, ◌≤◌, ◌<◌, ◌≡◌, List, [], ◌∷◌, map, length}
use Rattle.std.proofs.Common.{zero-add, arith}
use Rattle.std.proofs.lemmas.List.{length-map}
use Rattle.base.specs.Lists.{upto}
use Rattle.base.specs.Numbers.{Bytes}
use Rattle.base.specs.declared.Kind.{Kind}
use Rattle.base.specs.ParsingLaws.{is_read}
use Rattle.rule.specs.Header.{kind_at}
use Rattle.rule.specs.Rule.{read_rule}
use Rattle.circuit.specs.Gates.{Gate, Gates, gate_at, arguments}
use Rattle.circuit.specs.Gates as gate
use Rattle.circuit.specs.PlainCircuit.{gates_of, gate_count}
use Rattle.circuit.specs.GateKinds.{kind_of_gate, GateFits}
use Rattle.circuit.proofs.GateKindLaws.{plain_fits}
use Rattle.circuit_needed.specs.Pass.{rule_preconditions}
use Rattle.circuit.specs.WholeLaws.{accepted}
use Rattle.plan.specs.PlanFile.{groups_in}
use Rattle.plan.specs.Groups.{group_of, members, rests_of}
use Rattle.plan.specs.Order.{order}
use Rattle.plan.specs.Rows.{plan_answer}
use Rattle.plan.proofs.AcceptedLaws.{plan_accepted}
use Rattle.file.specs.Records.{Record, record_in}
use Rattle.file.specs.Versions.{written_version, most_guard_wires}
use Rattle.file.specs.LaidOut.{Bounded}
use Rattle.fused.specs.Emission.{alone, gate_operation, guard_of, values_at, emit}
use Rattle.fused.specs.FusedCircuit.{group_records, written, fused, records_of}
use Rattle.file.specs.RecordLaws.{Along, along_append, along_at, along_map}
use Rattle.fused.specs.JoinedParts.{joined_along}
use Rattle.fused.specs.WrittenLaws.{written_none, written_more}
use Rattle.plan.specs.RestLaws.{rests_few}

-- what holds along the records of every group, whatever wires it reads and wherever it begins, holds along all that is written
pub written_along : (s : List ℕ) (C : Gates) (sets : List ℕ) (group : ℕ → ℕ) (P : ℕ → Record → Type 0)
    → ((wire : ℕ → ℕ) (n q : ℕ) → Along P n (emit s C sets wire n (members (length C) group q)))
    → (done : List ℕ) → Along P 0 (written s C sets group done).records
written_along s C sets group P h [] = rw (written_none s C sets group) tt
written_along s C sets group P h (q ∷ done) =
    let w = written s C sets group done in
    rw (written_more s C sets group q done)
    (along_append P w.records (group_records s C sets group w q) 0 (written_along s C sets group P h done)
    (rw zero-add (h (λ a. w.wire (group a)) (length w.records) q)))

pub fused_along : (s p : List ℕ) (P : ℕ → Record → Type 0)
    → ((wire : ℕ → ℕ) (n q : ℕ) → Along P n (emit s (gates_of s) (rule_preconditions s) wire n (members (gate_count s) (group_of (groups_in p)) q)))
    → Along P 0 (records_of s p)
unfolding fused
fused_along s p P h =
    let group = group_of (groups_in p) in
    written_along s (gates_of s) (rule_preconditions s) group P h (order (gates_of s) (rule_preconditions s) group)

-- a bit constant of a gate alone is 0 or 1
alone_bounded : (s : List ℕ) (wire : ℕ → ℕ) (kinds : ℕ → Kind) (k : Gate) → GateFits kinds k → Bounded written_version (alone s wire k)
alone_bounded s wire kinds (gate.start x) h = tt
alone_bounded s wire kinds (gate.word n) h = tt
alone_bounded s wire kinds (gate.bit b) h = h
alone_bounded s wire kinds (gate.operation op l) h = tt
alone_bounded s wire kinds (gate.choice c a b) h = tt

-- a guard reads no more conditions than its version allows, and a pick has a pair for each member
emit_bounded : (kinds : ℕ → Kind) (s : List ℕ) (C : Gates) (sets : List ℕ) → ((i : ℕ) → GateFits kinds (gate_at C i))
    → (wire : ℕ → ℕ) (n : ℕ) (ms : List ℕ) → Along (λ i. Bounded written_version) n (emit s C sets wire n ms)
emit_bounded kinds s C sets fits wire n [] = tt
emit_bounded kinds s C sets fits wire n (m ∷ []) = (alone_bounded s wire kinds (gate_at C m) (fits m), tt)
emit_bounded kinds s C sets fits wire n (m ∷ k ∷ l) =
    joined_along (λ i. Bounded written_version) n (gate_operation (gate_at C m)) (map (guard_of s C sets wire) (m ∷ k ∷ l)) (values_at s C sets wire (m ∷ k ∷ l))
    (upto (length (arguments (gate_at C m))))
    (along_map (λ i. Bounded written_version) (guard_of s C sets wire) (m ∷ k ∷ l) n n (omega arith)
    (λ i _ _ _. let few : length (map wire (rests_of C sets i)) ≤ most_guard_wires written_version = omega (arith, length-map (rests_of C sets i) wire, rests_few C sets i) in few))
    (λ _ _ _ _ _. omega arith) tt

-- every record of the fused circuit of an accepted plan
pub fused_bounded : (s p : List ℕ) → Bytes s → (plan_answer s p).number ≡ 0 → (i : ℕ) → i < length (records_of s p) → Bounded written_version (record_in (records_of s p) i)
fused_bounded s p bytes h =
    let (b, n, read) = is_read (read_rule s) (accepted s ((plan_accepted s p).0 h).0).read in
    along_at (λ i. Bounded written_version) (records_of s p) 0
    (fused_along s p (λ i. Bounded written_version)
    (λ wire k q. emit_bounded (kind_of_gate (kind_at s) (gates_of s)) s (gates_of s) (rule_preconditions s) (plain_fits s bytes b n read) wire k
    (members (gate_count s) (group_of (groups_in p)) q)))
