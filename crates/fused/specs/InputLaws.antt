-- The inputs of the fused circuit of an accepted plan: they are its first V records, in the variables' order, and no later record is one.
use Rattle.std.specs.Prelude.{ℕ, zero, suc, ◌+◌, ◌-◌, ◌≤◌, ◌<◌, ◌≡◌, refl, ltb, length}
use Rattle.std.proofs.Common.{sym, subst, ◌∙◌, inl, inr, arith, length-append, get_or-append-add, ltb-true, ltb-false}
use Rattle.std.proofs.Math.Path.{ap}
use mathlib.Core.List.{List, [], ◌∷◌, ◌++◌, map, append_assoc, append-nil, map-append}
use Rattle.std.proofs.lemmas.List.{length-map}
use Rattle.std.proofs.Math.ListN.{get_or-append}
use Rattle.base.specs.Lists.{◌∈◌, upto}
use Rattle.base.specs.ListLaws.{length_from, upto_more, get_or_upto}
use Rattle.base.specs.MemberLaws.{in_append}
use Rattle.base.specs.TestLaws.{split}
use Rattle.base.specs.Settings.{Once}
use Rattle.rule.specs.Header.{variables, kind_at}
use Rattle.circuit.specs.Gates.{Gate, Gates, gate_at, arguments}
use Rattle.circuit.specs.Gates as gate
use Rattle.circuit.specs.PlainCircuit.{gates_of, gate_count}
use Rattle.circuit.proofs.EachGateLaws.{NotStart, rule_start, rule_no_start, rule_gates_many}
use Rattle.circuit_needed.specs.Pass.{rule_preconditions}
use Rattle.plan.specs.PlanFile.{groups_in}
use Rattle.plan.specs.Groups.{group_of, members}
use Rattle.plan.specs.Order.{order}
use Rattle.plan.specs.Rows.{plan_answer}
use Rattle.plan.proofs.AcceptedLaws.{plan_accepted}
use Rattle.plan.specs.GroupLaws.{of_member}
use Rattle.plan.proofs.WaitLaws.{order_once}
use Rattle.plan.proofs.FirstLaws.{down, down_in, Alone, order_first, start_alone}
use Rattle.file.specs.Records.{Record, input, word, record_in, NotInput}
use Rattle.file.specs.RecordLaws.{Along, along_append, along_map, along_any}
use Rattle.fused.specs.Emission.{alone, gate_operation, guard_of, values_at, emit}
use Rattle.fused.specs.FusedCircuit.{group_records, written, fused, records_of}
use Rattle.fused.specs.JoinedParts.{joined_along}
use Rattle.fused.specs.WrittenLaws.{written_none, written_more}
use Rattle.fused.specs.PlannedLaws.{planned_read}

-- the inputs of v variables, in order
abbrev input_records : List ℕ → ℕ → List Record
input_records s v = map (λ x. input (kind_at s x) x) (upto v)

-- a gate alone that is no starting value is no input
alone_later : (s : List ℕ) (wire : ℕ → ℕ) (k : Gate) → NotStart k → NotInput (alone s wire k)
alone_later s wire (gate.start x) h = h
alone_later s wire (gate.word n) h = tt
alone_later s wire (gate.bit b) h = tt
alone_later s wire (gate.operation op l) h = tt
alone_later s wire (gate.choice c a b) h = tt

-- what a list without repetition begins with does not stand in its rest
once_apart : (a b : List ℕ) (q : ℕ) → Once (a ++ b) → q ∈ a → q ∈ b → ⊥
once_apart [] b q o m k = m
once_apart (x ∷ a) b q (new, o) (inl e) k = new (in_append x a b (inr (rw e at k)))
once_apart (x ∷ a) b q (new, o) (inr m) k = once_apart a b q o m k

module _ (s : List ℕ) (C : Gates) (sets : List ℕ) (group : ℕ → ℕ) where
  abbrev of : ℕ → List ℕ
  of q = members (length C) group q

  -- the groups 0 to v − 1, starting values alone, are written as the inputs
  written_inputs : (v : ℕ) → ((x : ℕ) → x < v → (of x ≡ x ∷ []) × (gate_at C x ≡ gate.start x)) → (written s C sets group (down v)).records ≡ input_records s v
  written_inputs zero own = written_none s C sets group
  written_inputs (suc v) own =
      let w = written s C sets group (down v) in
      let F : ℕ → Record = λ x. input (kind_at s x) x in
      let r : group_records s C sets group w v ≡ F v ∷ [] = rw ((own v (omega arith)).0, (own v (omega arith)).1) in
      written_more s C sets group v (down v) ∙ ap (λ (l : List Record). w.records ++ l) r
      ∙ ap (λ (l : List Record). l ++ (F v ∷ [])) (written_inputs v (λ x l. own x (omega arith)))
      ∙ sym (ap (map F) (upto_more v) ∙ map-append F (upto v) (v ∷ []))

  -- groups written later leave the records as they are; what holds of the records of each of these groups holds of all that come after
  written_later : (P : Record → Type 0) (more done : List ℕ) → ((q : ℕ) → q ∈ more → (wire : ℕ → ℕ) (n : ℕ) → Along (λ i. P) n (emit s C sets wire n (of q)))
      → (R : List Record) × ((written s C sets group (more ++ done)).records ≡ (written s C sets group done).records ++ R)
      × Along (λ i. P) (length (written s C sets group done).records) R
  written_later P [] done h = ([], sym (append-nil (written s C sets group done).records), tt)
  written_later P (q ∷ more) done h =
      let (R, e, a) = written_later P more done (λ r m. h r (inr m)) in
      let w = written s C sets group (more ++ done) in
      let D = (written s C sets group done).records in
      let G = group_records s C sets group w q in
      let n : length D + length R ≡ length w.records = sym (ap length e ∙ length-append D R) in (
        R ++ G,
        written_more s C sets group q (more ++ done) ∙ ap (λ (l : List Record). l ++ G) e ∙ append_assoc D R G,
        along_append (λ i. P) R G (length D) a (subst (λ (k : ℕ). Along (λ i. P) k G) (sym n) (h q (inl refl) (λ b. w.wire (group b)) (length w.records))),
      )

  -- a group that is no starting value alone has no input among its records
  emit_later : (wire : ℕ → ℕ) (n : ℕ) (ms : List ℕ) → ((m : ℕ) → ms ≡ m ∷ [] → NotStart (gate_at C m)) → Along (λ i. NotInput) n (emit s C sets wire n ms)
  emit_later wire n [] h = tt
  emit_later wire n (m ∷ []) h = (alone_later s wire (gate_at C m) (h m refl), tt)
  emit_later wire n (m ∷ k ∷ l) h =
      joined_along (λ i. NotInput) n (gate_operation (gate_at C m)) (map (guard_of s C sets wire) (m ∷ k ∷ l)) (values_at s C sets wire (m ∷ k ∷ l))
      (upto (length (arguments (gate_at C m))))
      (along_map (λ i. NotInput) (guard_of s C sets wire) (m ∷ k ∷ l) n n (omega arith) (λ _ _ _ _. tt))
      (λ _ _ _ _ _. tt) tt

module _ (s p : List ℕ) (h : (plan_answer s p).number ≡ 0) where
  abbrev group : ℕ → ℕ
  group = group_of (groups_in p)

  -- the variables' starting values are gates, and each of them is a group alone
  enough : variables s ≤ gate_count s
  enough = let (b, n, read) = planned_read s p h in rule_gates_many s b n read

  starting : (x : ℕ) → x < variables s → gate_at (gates_of s) x ≡ gate.start x
  starting x l = let (b, n, read) = planned_read s p h in rule_start s b n read x l

  own : (x : ℕ) → x < variables s → Alone (gate_count s) group x
  own x l = start_alone s p ((plan_accepted s p).0 h).1 x x (omega (arith, enough)) (starting x l)

  -- so these are written first
  begins : (more : List ℕ) × (order (gates_of s) (rule_preconditions s) group ≡ more ++ down (variables s))
  begins = order_first (gates_of s) (rule_preconditions s) group (variables s) enough (λ x l. (own x l, ap arguments (starting x l)))

  -- each group is written once, so a gate alone that is written after them is no starting value
  later : (q : ℕ) → q ∈ begins.0 → (m : ℕ) → members (gate_count s) group q ≡ m ∷ [] → NotStart (gate_at (gates_of s) m)
  later q k m e =
      let (b, n, read) = planned_read s p h in
      split (ltb m (variables s))
      (λ t.
      let l = ltb-true m (variables s) t in
      let same : q ≡ m = sym (of_member (gate_count s) group m q (rw e (inl refl))).1 ∙ (own m l).0 in
      absurd (once_apart begins.0 (down (variables s)) q (subst Once begins.1 (order_once (gates_of s) (rule_preconditions s) group)) k
      (rw same (down_in (variables s) m l))))
      (λ t. rule_no_start s b n read m (ltb-false m (variables s) t))

  -- the inputs, and then records that are none
  parts : (R : List Record) × (records_of s p ≡ input_records s (variables s) ++ R) × ((i : ℕ) → NotInput (record_in R i))
  unfolding fused
  parts =
      let C = gates_of s in
      let sets = rule_preconditions s in
      let (R, e, a) = written_later s C sets group NotInput begins.0 (down (variables s))
      (λ q k wire n. emit_later s C sets group wire n (members (length C) group q) (later q k)) in (
        R,
        ap (λ (l : List ℕ). (written s C sets group l).records) begins.1 ∙ e
            ∙ ap (λ (l : List Record). l ++ R) (written_inputs s C sets group (variables s) (λ x l. ((own x l).1, starting x l))),
        along_any NotInput R _ a tt,
      )

  count : length (input_records s (variables s)) ≡ variables s
  count = length-map (upto (variables s)) (λ x. input (kind_at s x) x) ∙ length_from 0 (variables s)

  -- the first V records are the variables' inputs, in order
  pub input_first : (x : ℕ) → x < variables s → (x < length (records_of s p)) × (record_in (records_of s p) x ≡ input (kind_at s x) x)
  input_first x l =
      let (R, e, _) = parts in
      let I = input_records s (variables s) in (
        omega (arith, ap length e, length-append I R, count),
        ap (λ (l : List Record). record_in l x) e ∙ get_or-append I R (word 0) x (omega (arith, count))
            ∙ get_or_upto (λ y. input (kind_at s y) y) (word 0) (variables s) x l,
      )

  -- no later record is an input
  pub input_last : (i : ℕ) → variables s ≤ i → NotInput (record_in (records_of s p) i)
  input_last i l =
      let (R, e, f) = parts in
      let I = input_records s (variables s) in
      let n : i ≡ length I + (i - variables s) = omega (arith, count) in
      subst NotInput
      (sym (ap (λ (l : List Record). record_in l i) e ∙ ap (record_in (I ++ R)) n ∙ get_or-append-add I R (i - variables s) (word 0)))
      (f (i - variables s))
