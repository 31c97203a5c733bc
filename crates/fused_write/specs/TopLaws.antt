-- The arrays of an accepted plan can be written turn by turn, and what stands at the end is the fused circuit.
use Rattle.std.specs.Prelude.{ℕ, ◌≤◌, ◌<◌, ◌≡◌, cond, length}
use Rattle.std.proofs.Common.{arith, sym, ◌∙◌}
use Rattle.std.proofs.Math.Path.{ap}
use mathlib.Core.List.{List, map}
use Rattle.std.proofs.Math.ListN.{get_or}
use Rattle.std.proofs.lemmas.List.{length-reverse}
use Rattle.base.specs.Lists.{◌∈◌, upto}
use Rattle.base.specs.MemberLaws.{from_below}
use Rattle.base.specs.Numbers.{Bytes}
use Rattle.base.specs.ListLaws.{map_same}
use Rattle.base.specs.declared.Kind.{Kind}
use Rattle.rule.specs.Header.{variables, kind_at, working_at}
use Rattle.circuit.specs.Gates.{Gate, start, operation, choice, gate_at}
use Rattle.circuit.specs.Gates as gate
use Rattle.circuit.specs.GateKinds.{kind_of_gate, GateFits}
use Rattle.circuit.proofs.GateKindLaws.{plain_fits}
use Rattle.circuit.specs.Limits.{most_gates}
use Rattle.circuit.specs.PlainCircuit.{gates_of, gate_count}
use Rattle.circuit.proofs.EachGateLaws.{StartGate, rule_starting}
use Rattle.circuit_needed.specs.Pass.{rule_preconditions}
use Rattle.circuit_needed.specs.Built.{built_quads, built_needs, built_outputs, built_conditions}
use Rattle.circuit_build.specs.BuiltParts.{built_room, built_earlier, built_condition, built_output, built_output_inside, built_variables}
use Rattle.plan.specs.PlanFile.{groups_in}
use Rattle.plan.specs.Groups.{group_of}
use Rattle.plan.specs.Order.{order}
use Rattle.plan.specs.Rows.{plan_answer}
use Rattle.plan.specs.Places.{place_of}
use Rattle.plan.specs.PlaceLaws.{group_listed}
use Rattle.plan.proofs.CountLaws.{order_length}
use Rattle.plan_check.specs.Checked.{writing_order, checked_groups, checked_places, checked_order}
use Rattle.plan_check.specs.CheckedLaws.{group_is, place_is, turn_is}
use Rattle.file.specs.CircuitFile.{no_wire}
use Rattle.fused.specs.FusedCircuit.{written, fused, records_of, wire_of, output_wire, output_wires}
use Rattle.fused.specs.PlannedLaws.{planned_read, planned_named, planned_group, planned_two}
use Rattle.fused.specs.SizeBounds.{plan_written}
use Rattle.fused_gate.specs.Emitted.{wire_in, Writable}
use Rattle.fused_group.specs.Joined.{JoinWritable}
use Rattle.fused_gate.specs.HeldLaws.{SmallGate, writable_held}
use Rattle.fused_group.specs.HeldLaws.{joining_held}
use Rattle.plan.specs.NumberLaws.{length_group}
use Rattle.fused_file.specs.Staged.{Turnable}
use Rattle.fused_file.specs.Turns.{output_in}
use Rattle.fused_write.specs.ArrayLaws.{rule_taken, plan_taken, gates_shaped, quads_held}
use Rattle.fused_write.specs.DoneLaws.{done_at, done_once, done_all, next_group}
use Rattle.fused_write.specs.StageLaws.{checked_stage, stage_same}

small_gate : (kinds : ℕ → Kind) (v : ℕ) (k : Gate) → GateFits kinds k → StartGate v k → v ≤ 32 → SmallGate k
small_gate kinds v (start x) f h l = omega arith
small_gate kinds v (gate.word n) f h l = tt
small_gate kinds v (gate.bit b) f h l = omega (arith, f)
small_gate kinds v (operation op m) f h l = tt
small_gate kinds v (choice c a b) f h l = tt

module _ (s p : List ℕ) (h : (plan_answer s p).number ≡ 0) where
  abbrev group : ℕ → ℕ
  group = group_of (groups_in p)

  pub table_named : (a : ℕ) → a < length (gates_of s) → get_or (checked_groups s p) a 0 < most_gates
  table_named a l =
      let r : (group a ≤ a) × (group (group a) ≡ group a) = planned_named s p h a in
      rw (group_is s p h a l) (omega (arith, r.0, built_room s (rule_taken s p h)))

  -- the rule is bytes
  module _ (bytes : Bytes s) where
    small : (g : ℕ) → SmallGate (gate_at (gates_of s) g)
    small g =
        let (b, n, read) = planned_read s p h in
        small_gate (kind_of_gate (kind_at s) (gates_of s)) (variables s) (gate_at (gates_of s) g) (plain_fits s bytes b n read g) (rule_starting s b n read g)
        (built_variables s (rule_taken s p h))

    turn_alone : (q : ℕ) → q < gate_count s → Writable (built_quads s) (checked_groups s p) q
    turn_alone q l =
        let taken = rule_taken s p h in
        writable_held s (built_quads s) (gates_of s) (gates_shaped s p h) (quads_held s p h) (built_room s taken) (built_earlier s taken)
        (checked_groups s p) table_named q l (small q)

  -- a group of two or more, at its place in the plan
  module _ (q : ℕ) (l : q < gate_count s) (e : group q ≡ q) (z : place_of p q ≡ 0 → ⊥) where
    turn_joined : JoinWritable (built_quads s) p (built_conditions s) (checked_groups s p) (gate_count s) (place_of p q)
    turn_joined =
        let r = group_listed s p (plan_taken s p h) q e z in
        let taken = rule_taken s p h in
        joining_held s (built_quads s) (gates_of s) (gates_shaped s p h) (quads_held s p h) (built_room s taken) (built_earlier s taken) (checked_groups s p) table_named
        p (place_of p q) (built_conditions s) r.lies (rw (sym (length_group p (place_of p q))) r.two) r.exist
        (λ m i. planned_two s p h q (rw r.listed r.two) m (rw r.listed i)) (λ t _. built_condition s taken t)

module _ (s p : List ℕ) (h : (plan_answer s p).number ≡ 0) where
  abbrev last : ℕ
  last = length (writing_order s p)

  last_few : last ≤ most_gates
  last_few =
      omega (
        arith,
        length-reverse (order (gates_of s) (rule_preconditions s) (group_of (groups_in p))),
        order_length (gates_of s) (rule_preconditions s) (group_of (groups_in p)),
        built_room s (rule_taken s p h),
      )

  next_below : (i : ℕ) → i < last → get_or (checked_order s p) i 0 < gate_count s
  next_below i l = rw (turn_is s p h i) (next_group s p i l).0

  pub plan_turnable : Bytes s
      → Turnable p (built_quads s) (gate_count s) (built_needs s) (checked_groups s p) (checked_places s p) (built_conditions s) (checked_order s p) (length (writing_order s p))
  plan_turnable bytes =
      record {
        few = last_few;
        inside = λ i l. omega (arith, next_below i l, built_room s (rule_taken s p h));
        alone = λ i l z. turn_alone s p h bytes (get_or (checked_order s p) i 0) (next_below i l);
        joins = λ i l z.
            let q = get_or (checked_order s p) i 0 in
            let e : group_of (groups_in p) q ≡ q = rw (turn_is s p h i) (next_group s p i l).1 in
            let at = place_is s p h q (next_below i l) in
            rw at (turn_joined s p h q (next_below i l) e (λ k. z (at ∙ k)));
        below = built_room s (rule_taken s p h);
        member = next_below;
        wired = λ i l. rw (stage_same s p h i l).records (plan_written s p h (done_at s p i) (done_once s p i)).0;
        long = λ i l. rw (stage_same s p h i l).records (plan_written s p h (done_at s p i) (done_once s p i)).1;
        costs = λ i l. rw (stage_same s p h i l).records (plan_written s p h (done_at s p i) (done_once s p i)).2;
      }

  -- what stands after the last turn
  pub last_records : (checked_stage s p (length (writing_order s p))).records ≡ records_of s p
  unfolding fused
  last_records =
      (stage_same s p h last (omega arith)).records
      ∙ ap (λ (d : List ℕ). (written s (gates_of s) (rule_preconditions s) (group_of (groups_in p)) d).records) (done_all s p)

  wire_last : (a : ℕ) → a < gate_count s
      → wire_in (checked_groups s p) (checked_stage s p last).wires a ≡ wire_of s p a
  unfolding fused
  wire_last a l =
      let m = stage_same s p h last (omega arith) in
      let d : group_of (groups_in p) a ∈ done_at s p last = rw (done_all s p) (planned_group s p h a l) in
      ap (λ (q : ℕ). get_or (checked_stage s p last).wires q 0) (group_is s p h a l)
      ∙ m.wires (group_of (groups_in p) a) d
      ∙ ap (λ (d : List ℕ). (written s (gates_of s) (rule_preconditions s) (group_of (groups_in p)) d).wire (group_of (groups_in p) a)) (done_all s p)

  pub last_outputs : map (output_in s (built_outputs s) (checked_groups s p) (checked_stage s p (length (writing_order s p))).wires) (upto (variables s)) ≡ output_wires s p
  last_outputs =
      let accepted = rule_taken s p h in
      map_same (output_in s (built_outputs s) (checked_groups s p) (checked_stage s p last).wires) (output_wire s p) (upto (variables s))
      (λ x m.
      let l = (from_below 0 (variables s) x m).1 in
      ap (cond (working_at s x) no_wire)
      (wire_last (get_or (built_outputs s) x 0) (built_output_inside s accepted x (omega (arith, l))) ∙ ap (wire_of s p) (built_output s accepted x)))
