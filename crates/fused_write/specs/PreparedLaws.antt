-- Preparing the fused circuit, and writing it from the arrays that were lent: the answer, its counts, and the file are those of the definitions.
use Rattle.std.specs.Prelude.{Ok, ℕ, ◌+◌, ◌*◌, ◌≤◌, ◌<◌, ◌≡◌, List, map, get_or}
use Rattle.std.proofs.Common.{arith, sym, ◌∙◌, eq-eqb}
use Rattle.std.proofs.Math.Path.{ap, ap₂}
use Rattle.std.proofs.Math.ListN.{length}
use Rattle.base.specs.Lists.{upto}
use Rattle.base.specs.Numbers.{Bytes}
use Rattle.base.specs.Answers.{success, refusal}
use Rattle.base.specs.Refusals.{answer_in}
use Rattle.base.specs.Rows.{number_of}
use Rattle.base.specs.SetsHeld.{sets_in}
use Rattle.base.specs.declared.Counts.{Counts}
use Rattle.base.specs.declared.Refusal.{Refusal}
use Rattle.base.specs.declared.Answer.{Answer}
use Rattle.rule.specs.Header.{variables, HasKinds}
use Rattle.rule.specs.FirstStatement.{rule_read}
use Rattle.circuit.specs.PlainCircuit.{gate_count, cost_before}
use Rattle.circuit.specs.Limits.{most_gates}
use Rattle.circuit.specs.WholeLaws.{accepted}
use Rattle.circuit.specs.declared.Circuit.{Circuit}
use Rattle.base.specs.RowLaws.{some_row}
use Rattle.circuit_build.specs.BuiltParts.{built_output_inside, built_outputs_held, built_room, built_variables}
use Rattle.plan.specs.declared.Grouping.{Grouping}
use Rattle.plan.specs.Rows.{plan_answer}
use Rattle.plan.proofs.AcceptedLaws.{answer_accepted, plan_accepted, row_right}
use Rattle.plan_check.specs.Checked.{writing_order}
use Rattle.plan_check.specs.Handed.{Handed}
use Rattle.plan_check.specs.CheckedLaws.{accepted_lists}
use Rattle.file.specs.Versions.{written_version}
use Rattle.file.specs.Records.{Record, records_cost}
use Rattle.fused.specs.FusedCircuit.{records_of, output_wires, cost_after, fused_file}
use Rattle.file.specs.CircuitFile.{records_bytes, file_bytes}
use Rattle.fused.specs.Answers.{fused_counts, fused_answer}
use Rattle.fused.specs.AnswerLaws.{fused_refused, fused_plan, answer_bytes}
use Rattle.fused.specs.SizeBounds.{fused_size, wires_bound, bytes_bound}
use Rattle.fused_size.specs.declared.Size.{Size}
use Rattle.fused_file.specs.Staged.{stage, Turnable}
use Rattle.fused_file.specs.Turns.{Sum, OutputsPlaced, output_in, file_in}
use Rattle.fused_write.specs.ArrayLaws.{rule_taken}
use Rattle.fused_write.specs.TopLaws.{plan_turnable, last_records, last_outputs, table_named}
use Rattle.file.specs.Limits.{most_file_bytes, most_wires}

-- a rule with an accepted plan has its kind bytes, and before them V
kinds_there : (s p : List ℕ) → (plan_answer s p).number ≡ 0 → HasKinds s
kinds_there s p taken = (rule_read s (accepted s (rule_taken s p taken)).read).header.kinds

pub rule_long : (s p : List ℕ) → (plan_answer s p).number ≡ 0 → 5 < length s
rule_long s p taken = omega (arith, kinds_there s p taken)

-- a refused plan is a refused circuit
pub refused_prepared : (s p : List ℕ) (r : Refusal) → refusal (number_of r.0) r.1 ≡ plan_answer s p → refusal (number_of r.0) r.1 ≡ fused_answer s p
refused_prepared s p r e = e ∙ sym (fused_refused s p (λ z. some_row r.0 (ap (λ (b : Answer). b.number) e ∙ z)))

-- what the check of an accepted plan counts
module _ (s p : List ℕ) (c : Counts) (e : answer_in (Ok c) ≡ plan_answer s p) where
  pub check_taken : (plan_answer s p).number ≡ 0
  check_taken = ap (λ (b : Answer). b.number) (sym e)

  counted : answer_in (Ok c) ≡ success (gate_count s) 0 0 (cost_before s) 0
  counted =
      let r = (plan_accepted s p).0 check_taken in
      e ∙ answer_accepted s p r.0 ((row_right s p r.0).1 r.1) ∙ (accepted s (rule_taken s p check_taken)).answer

  pub check_gates : c.gates ≡ gate_count s
  check_gates = ap (λ (b : Answer). b.gates) counted

  pub check_before : c.before ≡ cost_before s
  check_before = ap (λ (b : Answer). b.before) counted

-- what preparing it counts
module _ (s p : List ℕ) (c : Counts) (e : answer_in (Ok c) ≡ fused_answer s p) where
  pub prepared_taken : (plan_answer s p).number ≡ 0
  prepared_taken = fused_plan s p (ap (λ (b : Answer). b.number) (sym e))

  counts : fused_answer s p ≡ fused_counts s p
  unfolding fused_answer
  counts = rw (eq-eqb _ _ prepared_taken)

  pub prepared_gates : c.gates ≡ gate_count s
  unfolding fused_counts
  prepared_gates = ap (λ (b : Answer). b.gates) (e ∙ counts)

  pub prepared_wires : c.wires ≡ length (records_of s p)
  unfolding fused_counts
  prepared_wires = ap (λ (b : Answer). b.wires) (e ∙ counts)

  pub prepared_few : c.wires ≤ most_wires
  prepared_few = omega (arith, prepared_wires, wires_bound s p prepared_taken)

  pub prepared_fits : (room : ℕ) → c.bytes ≤ room → length (fused_file s p) ≤ room
  prepared_fits room l =
      let e : c.bytes ≡ length (fused_file s p) = ap (λ (b : Answer). b.bytes) e ∙ answer_bytes s p prepared_taken in
      omega (arith, e, l)

-- the arrays of an accepted plan, as the check fills them
module _ (s p : List ℕ) (taken : (plan_answer s p).number ≡ 0) (circuit : Circuit) (grouping : Grouping) (k : Handed s p circuit grouping) where
  abbrev quads : List ℕ
  quads = circuit.quads

  abbrev needs : List ℕ
  needs = sets_in circuit.needs

  abbrev outputs : List ℕ
  outputs = circuit.outputs

  abbrev conds : List ℕ
  conds = circuit.conditions

  abbrev count : ℕ
  count = circuit.count

  abbrev group : List ℕ
  group = grouping.group

  abbrev places : List ℕ
  places = grouping.places

  abbrev ord : List ℕ
  ord = grouping.order

  abbrev groups : ℕ
  groups = grouping.groups

  gates_are : count ≡ gate_count s
  gates_are = k.count_is ∙ ap (λ (a : Answer). a.gates) (accepted s (rule_taken s p taken)).answer

  groups_all : groups ≡ length (writing_order s p)
  groups_all = k.groups_are ∙ ap length (accepted_lists s p taken (writing_order s p))

  pub arrays_turnable : Bytes s → Turnable p quads count needs group places conds ord groups
  arrays_turnable bytes =
      rw (k.quads_are, k.needs_are, k.conditions_are, k.group_is, k.places_are, k.order_is, gates_are, groups_all) (plan_turnable s p taken bytes)

  records_are : (stage p quads count needs group places ord groups).records ≡ records_of s p
  records_are = rw (k.quads_are, k.needs_are, k.group_is, k.places_are, k.order_is, gates_are, groups_all) (last_records s p taken)

  outputs_are : map (output_in s outputs group (stage p quads count needs group places ord groups).wires) (upto (variables s)) ≡ output_wires s p
  outputs_are = rw (k.quads_are, k.needs_are, k.outputs_are, k.group_is, k.places_are, k.order_is, gates_are, groups_all) (last_outputs s p taken)

  -- the file that the arrays give is the one that the rules fix
  pub file_is : file_in s p quads count needs group places ord groups outputs ≡ fused_file s p
  unfolding fused_file
  file_is = ap₂ (file_bytes written_version (variables s)) records_are outputs_are

  outputs_held : length outputs ≡ 32
  outputs_held = ap length k.outputs_are ∙ built_outputs_held s (rule_taken s p taken)

  outputs_placed : OutputsPlaced outputs (variables s) group
  outputs_placed = record {
    held = outputs_held;
    few = built_variables s (rule_taken s p taken);
    placed = λ x l.
        let o : get_or outputs x 0 < gate_count s = rw k.outputs_are (built_output_inside s (rule_taken s p taken) x l) in
        let g : get_or group (get_or outputs x 0) 0 < most_gates = rw k.group_is (table_named s p taken (get_or outputs x 0) o) in
        (omega (arith, o, built_room s (rule_taken s p taken)), g);
  }

  -- what writing the file asks for
  pub file_ready : Bytes s → (wires : ℕ) → wires ≡ length (records_of s p) → (d : List ℕ) → length (fused_file s p) ≤ length d
      → (length (file_in s p quads count needs group places ord groups outputs) ≤ length d)
      × (Turnable p quads count needs group places conds ord groups
      × ((wires ≡ length (stage p quads count needs group places ord groups).records) × (HasKinds s × OutputsPlaced outputs (variables s) group)))
  file_ready b wires w d l =
      let e : length (file_in s p quads count needs group places ord groups outputs) ≡ length (fused_file s p) = ap length file_is in
      (rw e l, (arrays_turnable b, (w ∙ ap length (sym records_are), (kinds_there s p taken, outputs_placed))))

  -- the file's counts, from what is measured
  module _ (size : Size) (m : Sum p quads count needs group places ord groups size) where
    size_is : 8 + size.bytes + 2 * variables s ≡ length (fused_file s p)
    size_is =
        let e : size.bytes ≡ length (records_bytes written_version (records_of s p)) = m.long ∙ ap (λ (R : List Record). length (records_bytes written_version R)) records_are in
        omega (arith, e, fused_size s p taken)

    pub bytes_few : size.bytes ≤ most_file_bytes
    bytes_few = omega (arith, size_is, bytes_bound s p taken)

    pub counts_are : (gates before : ℕ) → gates ≡ gate_count s → before ≡ cost_before s
        → success gates size.wires (8 + size.bytes + 2 * variables s) before size.cost ≡ fused_answer s p
    unfolding fused_answer fused_counts
    counts_are gates before g e =
        let z : size.cost ≡ cost_after s p = m.costs ∙ ap records_cost records_are in
        let w : size.wires ≡ length (records_of s p) = m.wired ∙ ap length records_are in
        rw (eq-eqb _ _ taken, g, w, size_is, e, z)
