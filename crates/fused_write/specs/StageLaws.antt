-- What the arrays hold after i turns is what is written of the fused circuit after i groups.
use Prim.Native.Nat.{ℕ, zero, suc, ◌+◌, ◌-◌, ◌≤◌, ◌<◌}
use Rattle.std.proofs.Common.{arith, sym, ap₂, ◌∙◌, inl, inr, length-append, get_or-set_same, get_or-set_other}
use Rattle.std.specs.Prelude.{◌≡◌, List, ◌∷◌, ◌++◌, set}
use Rattle.std.proofs.Math.Path.{ap, subst}
use Rattle.std.proofs.Math.ListN.{length, get_or, length-set}
use Rattle.std.proofs.lemmas.List.{length-replicate}
use Rattle.base.specs.Lists.{◌∈◌, Inside}
use Rattle.circuit.specs.Gates.{Gates, gate_at, arguments}
use Rattle.circuit.specs.Limits.{most_gates}
use Rattle.circuit.specs.PlainCircuit.{gates_of, gate_count}
use Rattle.circuit_needed.specs.Pass.{rule_preconditions}
use Rattle.circuit_needed.specs.Built.{built_quads, built_needs}
use Rattle.circuit_build.specs.BuiltParts.{built_room, built_earlier, built_need}
use Rattle.plan.specs.PlanFile.{groups_in}
use Rattle.plan.specs.Groups.{group_of, members, rests_of}
use Rattle.plan.specs.GroupLaws.{of_member}
use Rattle.plan.specs.Rows.{plan_answer}
use Rattle.plan.specs.RestLaws.{rests_inside}
use Rattle.plan.specs.ReadsLaws.{waits_argument, waits_rests}
use Rattle.plan_check.specs.Checked.{writing_order, checked_groups, checked_places, checked_order}
use Rattle.plan_check.specs.CheckedLaws.{group_is, turn_is}
use Rattle.file.specs.Records.{Record}
use Rattle.fused.specs.FusedCircuit.{Written, group_records, written}
use Rattle.fused.specs.EmitSame.{emit_same, emit_alike}
use Rattle.fused.specs.PlannedLaws.{planned_level}
use Rattle.fused.specs.WrittenLaws.{written_none, written_more, wire_last, wire_old}
use Rattle.fused_gate.specs.Emitted.{wire_in}
use Rattle.fused_group.specs.Joined.{emit_in}
use Rattle.fused_group.specs.EmitLaws.{emit_in_lem}
use Rattle.fused_file.specs.Staged.{Stage, turn_records, turn, stage}
use Rattle.fused_file.specs.TurnLaws.{stage_none, stage_next}
use Rattle.fused_write.specs.ArrayLaws.{rule_taken, gates_shaped, quads_held, members_are}
use Rattle.fused_write.specs.DoneLaws.{done_at, done_next, next_group, next_waits, next_once}

-- what stands in the arrays of a checked plan after i turns
abbrev pub checked_stage : List ℕ → List ℕ → ℕ → Stage
checked_stage s p = stage p (built_quads s) (gate_count s) (built_needs s) (checked_groups s p) (checked_places s p) (checked_order s p)

module _ (s p : List ℕ) (h : (plan_answer s p).number ≡ 0) where
  abbrev C : Gates
  C = gates_of s

  abbrev sets : List ℕ
  sets = rule_preconditions s

  abbrev group : ℕ → ℕ
  group = group_of (groups_in p)

  abbrev table : List ℕ
  table = checked_groups s p

  abbrev turned : ℕ → Stage
  turned i = checked_stage s p i

  abbrev after : ℕ → Written
  after i = written s C sets group (done_at s p i)

  -- what stands in the arrays after i turns
  pub record Same (i : ℕ) : Type 0 where
    pub records : (turned i).records ≡ (after i).records
    pub size : length (turned i).wires ≡ most_gates
    pub wires : (q : ℕ) → q ∈ done_at s p i → get_or (turned i).wires q 0 ≡ (after i).wire q

  -- the table gives the wire of every gate whose group is written
  wire_same : (i : ℕ) → Same i → (a : ℕ) → a < gate_count s → group a ∈ done_at s p i → wire_in table (turned i).wires a ≡ (after i).wire (group a)
  wire_same i m a l d = ap (λ (q : ℕ). get_or (turned i).wires q 0) (group_is s p h a l) ∙ m.wires (group a) d

  members_below : (q : ℕ) → Inside (length C) (members (gate_count s) group q)
  members_below q m i = (of_member (gate_count s) group m q i).0

  -- the records of turn i are the group's
  turn_same : (i : ℕ) → i < length (writing_order s p) → Same i
      → turn_records p (built_quads s) (gate_count s) (built_needs s) table (checked_places s p) (turned i) (get_or (checked_order s p) i 0)
      ≡ group_records s C sets group (after i) (get_or (writing_order s p) i 0)
  turn_same i l m =
      ap (turn_records p (built_quads s) (gate_count s) (built_needs s) table (checked_places s p) (turned i)) (turn_is s p h i)
      ∙ ap (emit_in (built_quads s) (gate_count s) (built_needs s) (wire_in table (turned i).wires) (length (turned i).records)) (members_are s p h q g.0 g.1)
      ∙ ap (λ (k : ℕ). emit_in (built_quads s) (gate_count s) (built_needs s) (wire_in table (turned i).wires) k ms) (ap length m.records)
      ∙ emit_in_lem s (built_quads s) C (gates_shaped s p h) (quads_held s p h) (built_needs s) (wire_in table (turned i).wires) (length (after i).records) ms
      (members_below q)
      ∙ emit_alike s C (built_needs s) sets (built_need s (rule_taken s p h)) (wire_in table (turned i).wires) (length (after i).records) ms
      ∙ emit_same s C sets (wire_in table (turned i).wires) (λ a. (after i).wire (group a)) (length (after i).records) ms arguing resting (planned_level s p h q)
    where
      q : ℕ
      q = get_or (writing_order s p) i 0

      ms : List ℕ
      ms = members (gate_count s) group q

      g : (q < gate_count s) × (group q ≡ q)
      g = next_group s p i l

      arguing : (k a : ℕ) → k ∈ ms → a ∈ arguments (gate_at C k) → wire_in table (turned i).wires a ≡ (after i).wire (group a)
      arguing k a j b =
          wire_same i m a (omega (arith, built_earlier s (rule_taken s p h) k a b, members_below q k j))
          (next_waits s p i l (group a) (waits_argument C sets group q k a j b))

      resting : 2 ≤ length ms → (k a : ℕ) → k ∈ ms → a ∈ rests_of C sets k → wire_in table (turned i).wires a ≡ (after i).wire (group a)
      resting many k a j b =
          wire_same i m a
          (rests_inside C sets k a (omega (arith, members_below q k j)) b)
          (next_waits s p i l (group a) (waits_rests C sets group q k a j many b))

  same_none : Same 0
  same_none =
      let e = stage_none p (built_quads s) (gate_count s) (built_needs s) table (checked_places s p) (checked_order s p) in
      record {
        records = ap (λ (w : Stage). w.records) e ∙ sym (written_none s C sets group);
        size = ap (λ (w : Stage). length w.wires) e ∙ length-replicate {A = ℕ} most_gates 0;
        wires = λ q m. absurd m;
      }

  more : (i : ℕ) → turned (suc i) ≡ turn p (built_quads s) (gate_count s) (built_needs s) table (checked_places s p) (turned i) (get_or (checked_order s p) i 0)
  more i = stage_next p (built_quads s) (gate_count s) (built_needs s) table (checked_places s p) (checked_order s p) i

  -- one turn more, the groups done being d
  Next : ℕ → List ℕ → Type 0
  Next i d =
      ((turned (suc i)).records ≡ (written s C sets group d).records)
      × ((q : ℕ) → q ∈ d → get_or (turned (suc i)).wires q 0 ≡ (written s C sets group d).wire q)

  next_same : (i : ℕ) → i < length (writing_order s p) → Same i → Next i (get_or (writing_order s p) i 0 ∷ done_at s p i)
  unfolding Next
  next_same i l m = (ap (λ (w : Stage). w.records) (more i) ∙ grown, λ x d. ap (λ (w : Stage). get_or w.wires x 0) (more i) ∙ wires x d)
    where
      q : ℕ
      q = get_or (writing_order s p) i 0

      new : List Record
      new = turn_records p (built_quads s) (gate_count s) (built_needs s) table (checked_places s p) (turned i) (get_or (checked_order s p) i 0)

      grown : (turned i).records ++ new ≡ (written s C sets group (q ∷ done_at s p i)).records
      grown = ap₂ (λ (a b : List Record). a ++ b) m.records (turn_same i l m) ∙ sym (written_more s C sets group q (done_at s p i))

      last : length (turned i).records + length new - 1 ≡ (written s C sets group (q ∷ done_at s p i)).wire q
      last =
          ap (λ (k : ℕ). k - 1) (sym (length-append (turned i).records new) ∙ ap length grown) ∙ sym (wire_last s C sets group q (done_at s p i))

      room : q < length (turned i).wires
      room = omega (arith, (next_group s p i l).0, built_room s (rule_taken s p h), m.size)

      stored : (x : ℕ) → get_or (set (turned i).wires q (length (turned i).records + length new - 1)) x 0
          ≡ get_or (set (turned i).wires (get_or (checked_order s p) i 0) (length (turned i).records + length new - 1)) x 0
      stored x = ap (λ (k : ℕ). get_or (set (turned i).wires k (length (turned i).records + length new - 1)) x 0) (sym (turn_is s p h i))

      wires : (x : ℕ) → x ∈ (q ∷ done_at s p i)
          → get_or (set (turned i).wires (get_or (checked_order s p) i 0) (length (turned i).records + length new - 1)) x 0 ≡ (written s C sets group
          (q ∷ done_at s p i)).wire x
      wires x (inl e) = rw e (sym (stored q) ∙ get_or-set_same (turned i).wires q _ 0 room ∙ last)
      wires x (inr d) =
          let o = next_once s p i l in
          let n : x ≡ q → ⊥ = λ e. o.0 (subst (λ (k : ℕ). k ∈ done_at s p i) e d) in
          sym (stored x) ∙ get_or-set_other (turned i).wires q x _ 0 n ∙ m.wires x d ∙ sym (wire_old s C sets group q (done_at s p i) o x d)

  same_next : (i : ℕ) → i < length (writing_order s p) → Same i → Same (suc i)
  unfolding Next
  same_next i l m =
      let r : Next i (done_at s p (suc i)) = subst (Next i) (sym (done_next s p i l)) (next_same i l m) in
      record { records = r.0; size = ap (λ (w : Stage). length w.wires) (more i) ∙ length-set (turned i).wires _ _ ∙ m.size; wires = r.1 }

  -- after every turn
  pub stage_same : (i : ℕ) → i ≤ length (writing_order s p) → Same i
  stage_same zero l = same_none
  stage_same (suc i) l = same_next i (omega arith) (stage_same i (omega arith))
