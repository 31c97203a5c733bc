-- Laws for document 02, C-18, "If no pick remains, write no guards for the group": every guard of a fused circuit is named by a pick.
use Rattle.std.specs.Prelude.{ℕ, suc, ◌+◌, ◌≤◌, ◌<◌, ◌≡◌}
use Rattle.std.proofs.Common.{sym, ap, ◌∙◌, zero-add, arith}
use mathlib.Core.List.{List, [], ◌∷◌, ◌++◌, map, append_assoc, append-nil}
use Rattle.std.proofs.Math.ListN.{length}
use Rattle.base.specs.Lists.{◌∈◌, upto}
use Rattle.base.specs.MemberLaws.{from_in}
use Rattle.base.specs.declared.Operation.{Operation}
use Rattle.file.specs.Records.{Pair, Record, input, word, bit, operation, choice, pick, guard, record_in}
use Rattle.file.specs.WireKinds.{guards_of}
use Rattle.file.specs.RecordLaws.{Along, along_append, along_at}
use Rattle.circuit.specs.Gates.{Gates, gate_at, arguments}
use Rattle.circuit.specs.PlainCircuit.{gates_of}
use Rattle.circuit_needed.specs.Pass.{rule_preconditions}
use Rattle.plan.specs.PlanFile.{groups_in, EachGroup}
use Rattle.plan.specs.Groups.{group_of, members}
use Rattle.plan.specs.Order.{order}
use Rattle.fused.specs.Emission.{gate_operation, pairs, picked, guarded, joined, guard_of, values_at, emit}
use Rattle.fused.specs.FusedCircuit.{group_records, written, fused, records_of}
use Rattle.fused.specs.EmitLaws.{alone_any}
use Rattle.fused.specs.JoinedParts.{pick_of, operation_reads}
use Rattle.fused.specs.SizeJoined.{picked_each, values_each}
use Rattle.fused.specs.KindedLaws.{pairs_guards}
use Rattle.fused.specs.WrittenLaws.{written_none, written_more}
use Rattle.fused.specs.GroupStands.{record_behind}

-- record i, if it is a guard, is named by a pick of R
abbrev ReadIn : List Record → ℕ → Record → Type 0
ReadIn R i (input k x) = Unit {0}
ReadIn R i (word n) = Unit {0}
ReadIn R i (bit b) = Unit {0}
ReadIn R i (operation op l) = Unit {0}
ReadIn R i (choice c a b) = Unit {0}
ReadIn R i (pick l) = Unit {0}
ReadIn R i (guard cs t) = (j : ℕ) × (l : List Pair) × (record_in R j ≡ pick l) × (i ∈ guards_of l)

picks_read : (R : List Record) (n : ℕ) (picks : List (List ℕ)) (op : Operation) (l : List ℕ) (at : ℕ)
    → Along (ReadIn R) at (map (pick_of n) picks ++ (operation op l ∷ []))
picks_read R n [] op l at = (tt, tt)
picks_read R n (values ∷ picks) op l at = (tt, picks_read R n picks op l (suc at))

module _ (s : List ℕ) (C : Gates) (sets : List ℕ) (wire : ℕ → ℕ) where
  -- the guards of members, from wire k on, of which a pick of R names all
  guards_read : (R : List Record) (j : ℕ) (l : List Pair) → record_in R j ≡ pick l → (ms : List ℕ) (k : ℕ)
      → ((i : ℕ) → k ≤ i → i < k + length ms → i ∈ guards_of l) → Along (ReadIn R) k (map (guard_of s C sets wire) ms)
  guards_read R j l e [] k h = tt
  guards_read R j l e (m ∷ ms) k h = ((j, l, e, h k (omega arith) (omega arith)), guards_read R j l e ms (suc k) (λ i a b. h i (omega (arith, a)) (omega (arith, b))))

  -- a joined group that stands in R behind some records
  joined_read : (R before after : List Record) (op : Operation) (ms : List ℕ) (picks : List (List ℕ)) (l : List ℕ)
      → EachGroup (λ values. length values ≡ length ms) picks
      → R ≡ before ++ ((guarded picks (map (guard_of s C sets wire) ms) ++ (map (pick_of (length before)) picks ++ (operation op l ∷ []))) ++ after)
      → Along (ReadIn R) (length before) (guarded picks (map (guard_of s C sets wire) ms) ++ (map (pick_of (length before)) picks ++ (operation op l ∷ [])))
  joined_read R before after op ms [] l each e = (tt, tt)
  joined_read R before after op ms (values ∷ picks) l (size, each) e =
      let n : ℕ = length before in
      let G : List Record = map (guard_of s C sets wire) ms in
      let P : List Record = map (pick_of n) picks ++ (operation op l ∷ []) in
      let stands : R ≡ (before ++ G) ++ (pick_of n values ∷ (P ++ after)) =
      e ∙ ap (λ (x : List Record). before ++ x) (append_assoc G (pick_of n values ∷ P) after) ∙ sym (append_assoc before G (pick_of n values ∷ (P ++ after))) in
      let there : record_in R (length (before ++ G)) ≡ pick (pairs n values) =
      ap (λ (x : List Record). record_in x (length (before ++ G))) stands ∙ record_behind (before ++ G) (pick_of n values) (P ++ after) in
      along_append (ReadIn R) G (pick_of n values ∷ P) n
      (guards_read R (length (before ++ G)) (pairs n values) there ms n (λ i a b. rw (pairs_guards n values, size) (from_in n (length ms) i a b)))
      (picks_read R n (values ∷ picks) op l (n + length G))

  emit_read : (R before after : List Record) (ms : List ℕ) → R ≡ before ++ (emit s C sets wire (length before) ms ++ after)
      → Along (ReadIn R) (length before) (emit s C sets wire (length before) ms)
  unfolding joined
  emit_read R before after [] e = tt
  emit_read R before after (m ∷ []) e = (alone_any (ReadIn R (length before)) (λ k x. tt) (λ n. tt) (λ b. tt) (λ op l. tt) (λ c a b. tt) s wire (gate_at C m), tt)
  emit_read R before after (m ∷ k ∷ l) e =
      let places : List (List ℕ) = map (values_at s C sets wire (m ∷ k ∷ l)) (upto (length (arguments (gate_at C m)))) in
      joined_read R before after (gate_operation (gate_at C m)) (m ∷ k ∷ l) (picked places)
      (operation_reads (length before) (map (guard_of s C sets wire) (m ∷ k ∷ l)) places)
      (picked_each (λ values. length values ≡ length (m ∷ k ∷ l)) places (values_each s C sets wire (m ∷ k ∷ l) (upto (length (arguments (gate_at C m))))))
      e

written_read : (s : List ℕ) (C : Gates) (sets : List ℕ) (group : ℕ → ℕ) (R : List Record) (done : List ℕ) (after : List Record)
    → R ≡ (written s C sets group done).records ++ after → Along (ReadIn R) 0 (written s C sets group done).records
written_read s C sets group R [] after e = rw (written_none s C sets group) tt
written_read s C sets group R (q ∷ done) after e =
    let w = written s C sets group done in
    let G : List Record = group_records s C sets group w q in
    let stands : R ≡ w.records ++ (G ++ after) = e ∙ ap (λ (x : List Record). x ++ after) (written_more s C sets group q done) ∙ append_assoc w.records G after in
    rw (written_more s C sets group q done)
    (along_append (ReadIn R) w.records G 0 (written_read s C sets group R done (G ++ after) stands)
    (rw zero-add (emit_read s C sets (λ a. w.wire (group a)) R w.records after (members (length C) group q) stands)))

-- every guard of the circuit is named by a pick
pub guards_picked : (s p : List ℕ) (i : ℕ) → i < length (records_of s p) → (cs : List ℕ) (t : ℕ) → record_in (records_of s p) i ≡ guard cs t
    → (j : ℕ) × (l : List Pair) × (record_in (records_of s p) j ≡ pick l) × (i ∈ guards_of l)
unfolding fused
guards_picked s p i b cs t e =
    let group = group_of (groups_in p) in
    rw (zero-add, e) at
    (along_at (ReadIn (records_of s p)) (records_of s p) 0
    (written_read s (gates_of s) (rule_preconditions s) group (records_of s p) (order (gates_of s) (rule_preconditions s) group) [] (sym (append-nil (records_of s p)))) i b)
