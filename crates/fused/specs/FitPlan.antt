-- Laws for document 01, "The fused circuit file": the records and outputs of an accepted plan fit their bytes; so its file, taken apart, gives them back.
use Rattle.std.specs.Prelude.{◌≡◌, List, map, ◌⊎◌, ℕ, ◌≤◌, ◌<◌, eqb, ltb, length}
use Rattle.std.proofs.Common.{sym, ◌∙◌, ⊎_elim, arith, eqb-true, ltb-true, ltb-false}
use Rattle.std.proofs.Math.ListN.{get_or-eq_default}
use Rattle.file.specs.Versions.{written_version}
use Rattle.file.specs.FieldLaws.{FieldsFit, AllFieldsFit, all_fit}
use Rattle.base.specs.Lists.{◌∈◌, upto}
use Rattle.base.specs.ListLaws.{length_from, length_keep}
use Rattle.base.specs.TestLaws.{split}
use Rattle.base.specs.declared.Operation.{Operation}
use Rattle.base.specs.Numbers.{Bytes}
use Rattle.base.specs.ParsingLaws.{is_read}
use Rattle.rule.specs.Header.{variables, kind_at}
use Rattle.rule.specs.Rule.{read_rule}
use Rattle.rule.specs.FirstStatement.{rule_read}
use Rattle.circuit.specs.Gates.{gate_at, start, operation}
use Rattle.circuit.specs.GateKinds.{kind_of_gate}
use Rattle.circuit.proofs.GateKindLaws.{plain_fits}
use Rattle.circuit.specs.PlainCircuit.{gates_of, gate_count}
use Rattle.circuit.proofs.EachGateLaws.{rule_starting, rule_start}
use Rattle.circuit_needed.specs.Pass.{rule_preconditions}
use Rattle.circuit.specs.WholeLaws.{Accepted, accepted}
use Rattle.plan.specs.PlanFile.{groups_in}
use Rattle.plan.specs.Groups.{group_of, members}
use Rattle.plan.specs.GroupLaws.{member_of}
use Rattle.plan.specs.Rows.{plan_answer}
use Rattle.plan.proofs.AcceptedLaws.{plan_accepted}
use Rattle.plan.specs.JoinedLaws.{members_costly}
use Rattle.file.specs.CircuitFile.{no_wire}
use Rattle.file.specs.Records.{word, reads, record_in, ReadsEarlier}
use Rattle.fused.specs.FusedCircuit.{records_of, output_wires, fused_file}
use Rattle.fused.specs.OutputLaws.{outputs_length}
use Rattle.file.specs.FileFigures.{file_variables, wire_count, file_records, file_outputs, output_figure, file_figures}
use Rattle.file.specs.FitRecords.{Wires, AllReadBack, FileFits}
use Rattle.fused.specs.FitLaws.{members_few, emit_sized}
use Rattle.fused.specs.SizeBounds.{wires_bound, outputs_count}
use Rattle.file.specs.FileLaws.{file_found, file_figures_lem}
use Rattle.file.specs.FileBytes.{file_bytes_lem}
use Rattle.fused.specs.BoundLaws.{fused_along}

-- a starting value is no operation
start_apart : (x : ℕ) (op : Operation) (l : List ℕ) → start x ≡ operation op l → ⊥
start_apart x op l e = let z : ◌≡◌ {A = ℕ} 0 1 = cc in omega arith

module _ (s p : List ℕ) (h : (plan_answer s p).number ≡ 0) where
  abbrev group : ℕ → ℕ
  group = group_of (groups_in p)

  rule : Accepted s
  rule = accepted s ((plan_accepted s p).0 h).0

  -- a group of two or more is one costly operation, and gate 0 is none
  group_few : (q : ℕ) → 2 ≤ length (members (gate_count s) group q) → length (members (gate_count s) group q) < 256
  group_few q many =
      let (op, c, f) = members_costly s p ((plan_accepted s p).0 h).1 q many in
      let (b, n, read) = is_read (read_rule s) rule.read in
      let zero : gate_at (gates_of s) 0 ≡ start 0 = rule_start s b n read 0 (rule_read s rule.read).header.some in
      split (eqb (group 0) q)
      (λ t.
      let some : 0 < gate_count s = omega (arith, many, length_keep (λ g. eqb (group g) q) (upto (gate_count s)), length_from 0 (gate_count s)) in
      let (l, e) = f 0 (member_of (gate_count s) group 0 q some (eqb-true (group 0) q t)) in
      absurd (start_apart 0 op l (sym zero ∙ e)))
      (λ t. members_few (gates_of s) group q t rule.gates)

  -- the rule is bytes
  module _ (bytes : Bytes s) where
    fused_sized : AllFieldsFit written_version 0 (records_of s p)
    fused_sized =
        let (b, n, read) = is_read (read_rule s) rule.read in
        fused_along s p (λ i. FieldsFit written_version)
        (λ wire k q. emit_sized s (gates_of s) (rule_preconditions s) wire (kind_of_gate (kind_at s) (gates_of s)) (variables s) (outputs_count s p h).1
        (plain_fits s bytes b n read) (rule_starting s b n read) k (members (gate_count s) group q)
        (λ many. (members_costly s p ((plan_accepted s p).0 h).1 q many, group_few q many)))

    -- every record reads earlier wires
    module _ (earlier : ReadsEarlier (records_of s p)) where
      reads_small : (i : ℕ) → Wires (reads (record_in (records_of s p) i))
      reads_small i w m =
          split (ltb i (length (records_of s p)))
          (λ t. omega (arith, ltb-true i (length (records_of s p)) t, earlier i w m, wires_bound s p h))
          (λ t. absurd (rw (get_or-eq_default (records_of s p) (word 0) {n = i} (ltb-false i (length (records_of s p)) t)) at m))

      pub fused_fits : AllReadBack written_version (records_of s p)
      fused_fits = all_fit written_version (records_of s p) 0 fused_sized reads_small

      -- and every output is no wire or a record's
      module _ (inside : (w : ℕ) → w ∈ output_wires s p → (w ≡ no_wire) ⊎ (w < length (records_of s p))) where
        -- so the file fits its bytes
        pub fused_file_fits : FileFits written_version (variables s) (records_of s p) (output_wires s p)
        fused_file_fits = record {
          each = fused_fits;
          few = omega (arith, wires_bound s p h);
          wires = λ w m. ⊎_elim (λ e. omega (arith, e)) (λ l. omega (arith, l, wires_bound s p h)) (inside w m);
          count = outputs_length s p;
        }

        -- taken apart, it gives its records and its outputs
        pub fused_found : (file_records (fused_file s p) ≡ records_of s p) × (file_outputs (fused_file s p) ≡ output_wires s p)
            × (file_variables (fused_file s p) ≡ variables s) × (wire_count (fused_file s p) ≡ length (records_of s p))
        unfolding fused_file
        fused_found = file_found written_version (variables s) (records_of s p) (output_wires s p) fused_file_fits

        -- so its figures, worked out from its bytes, are those of its records at its outputs
        pub fused_file_figures : (inputs : List ℕ) → file_figures (fused_file s p) inputs ≡ map (output_figure inputs (records_of s p)) (output_wires s p)
        unfolding fused_file
        fused_file_figures inputs = file_figures_lem written_version (variables s) (records_of s p) (output_wires s p) fused_file_fits inputs

-- the file of an accepted plan consists of bytes
pub fused_bytes : (s p : List ℕ) → (plan_answer s p).number ≡ 0 → Bytes s → ReadsEarlier (records_of s p) → Bytes (fused_file s p)
unfolding fused_file
fused_bytes s p h bytes earlier = file_bytes_lem written_version (variables s) (records_of s p) (output_wires s p) (omega (arith, (outputs_count s p h).1)) (fused_fits s p h bytes earlier)
