-- Laws for document 02, C-11: "Every file that our writer makes is read": the circuit of an accepted plan is well-formed, so rows 60 to 62 find no fault with its file.
use Rattle.std.specs.Prelude.{ℕ, ◌<◌, ◌≡◌, refl, List, [], ◌∷◌, map, ◌⊎◌, length, get_or}
use Rattle.std.proofs.Common.{sym, ap, ◌∙◌, inl, inr, arith}
use Rattle.std.proofs.lemmas.List.{length-map}
use Rattle.base.specs.Lists.{upto}
use Rattle.base.specs.TestLaws.{split}
use Rattle.base.specs.Numbers.{Bytes}
use Rattle.rule.specs.Header.{variables, kind_at, working_at}
use Rattle.rule.specs.FirstStatement.{rule_read}
use Rattle.circuit.specs.Gates.{Gates, gate_at, arguments}
use Rattle.circuit.specs.Limits.{most_conditions}
use Rattle.circuit.specs.PlainCircuit.{gates_of, gate_count}
use Rattle.circuit_needed.specs.Pass.{rule_preconditions}
use Rattle.circuit.specs.WholeLaws.{accepted}
use Rattle.plan.specs.PlanFile.{groups_in}
use Rattle.plan.specs.Groups.{group_of, members, rests_of}
use Rattle.plan.specs.Rows.{plan_answer}
use Rattle.plan.proofs.AcceptedLaws.{plan_accepted}
use Rattle.plan.specs.RestLaws.{rests_count}
use Rattle.file.specs.Versions.{written_version}
use Rattle.file.specs.RecordLaws.{Along, along_map, along_at}
use Rattle.file.specs.WireKinds.{record_kind, wire_kind}
use Rattle.file.specs.WireKindLaws.{kinds_right}
use Rattle.file.specs.CircuitFile.{file_bytes, no_wire}
use Rattle.file.specs.CircuitRows.{circuit_row}
use Rattle.file.specs.WellFormed.{TableFits, Standing, WellFormed}
use Rattle.file.specs.FormatLaws.{well_row}
use Rattle.fused.specs.Emission.{gate_operation, guard_of, values_at, emit}
use Rattle.fused.specs.FusedCircuit.{records_of, output_wire, output_wires, fused_file}
use Rattle.fused.specs.OutputLaws.{outputs_length, output_at, working_wire}
use Rattle.fused.specs.EmitLaws.{alone_any}
use Rattle.fused.specs.JoinedParts.{joined_along}
use Rattle.fused.specs.BoundLaws.{fused_along, fused_bounded}
use Rattle.fused.specs.FitLaws.{table_below}
use Rattle.fused.specs.FitPlan.{fused_file_fits}
use Rattle.fused.specs.SizeBounds.{wires_bound, outputs_count, bytes_bound}
use Rattle.fused.specs.FusedKinds.{fused_fits, output_wire_kinds}
use Rattle.fused.specs.InputLaws.{input_first, input_last}
use Rattle.fused.specs.FusedFigures.{reads_earlier, result_earlier, output_earlier}

-- only a guard has a table

module _ (s : List ℕ) (C : Gates) (sets : List ℕ) (wire : ℕ → ℕ) where
  -- that of a member is over the conditions whose wires the guard reads
  guard_table : (m : ℕ) → TableFits (guard_of s C sets wire m)
  guard_table m = rw (length-map (rests_of C sets m) wire, rests_count C sets m) (table_below most_conditions (get_or sets m 0))

  emit_tables : (n : ℕ) (ms : List ℕ) → Along (λ i. TableFits) n (emit s C sets wire n ms)
  emit_tables n [] = tt
  emit_tables n (m ∷ []) = (alone_any TableFits (λ k x. tt) (λ n. tt) (λ b. tt) (λ op l. tt) (λ c a b. tt) s wire (gate_at C m), tt)
  emit_tables n (m ∷ k ∷ l) =
      joined_along (λ i. TableFits) n (gate_operation (gate_at C m)) (map (guard_of s C sets wire) (m ∷ k ∷ l)) (values_at s C sets wire (m ∷ k ∷ l))
      (upto (length (arguments (gate_at C m))))
      (along_map (λ i. TableFits) (guard_of s C sets wire) (m ∷ k ∷ l) n n (omega arith) (λ i _ _ _. guard_table i)) (λ _ _ _ _ _. tt) tt

module _ (s p : List ℕ) (bytes : Bytes s) (h : (plan_answer s p).number ≡ 0) where
  -- an input's wire is of its variable's kind
  pub input_kind : (x : ℕ) → x < variables s → wire_kind (records_of s p) x ≡ kind_at s x
  input_kind x l =
      let (i, e) = input_first s p h x l in
      kinds_right (records_of s p) (reads_earlier s p h) x i ∙ ap (record_kind (wire_kind (records_of s p))) e

  -- an output is no wire, or a record's and of its variable's kind
  output_stands_lem : (x : ℕ) → x < variables s
      → (output_wire s p x ≡ no_wire) ⊎ ((output_wire s p x < length (records_of s p)) × (wire_kind (records_of s p) (output_wire s p x) ≡ wire_kind (records_of s p) x))
  output_stands_lem x l =
      split (working_at s x) (λ t. inl (working_wire s p x t))
      (λ t. inr (result_earlier s p h x l t, output_wire_kinds s p bytes h x l t ∙ sym (input_kind x l)))

  -- what row 62 asks
  fused_standing : Standing (variables s) (records_of s p) (output_wires s p)
  fused_standing = record {
    first = λ x l. ((input_first s p h x l).0, (kind_at s x, (input_first s p h x l).1));
    later = input_last s p h;
    earlier = reads_earlier s p h;
    kinds = fused_fits s p bytes h;
    tables = along_at (λ i. TableFits) (records_of s p) 0
        (fused_along s p (λ i. TableFits)
        (λ wire n q. emit_tables s (gates_of s) (rule_preconditions s) wire n (members (gate_count s) (group_of (groups_in p)) q)));
    outs = λ x l.
        let v : x < variables s = omega (arith, l, outputs_length s p) in
        rw (output_at s p x v) (output_stands_lem x v);
  }

  pub fused_well_formed : WellFormed written_version (variables s) (records_of s p) (output_wires s p)
  unfolding fused_file
  fused_well_formed = record {
    some = (rule_read s (accepted s ((plan_accepted s p).0 h).0).read).header.some;
    few = (outputs_count s p h).1;
    wires = wires_bound s p h;
    size = bytes_bound s p h;
    fits = fused_file_fits s p h bytes (reads_earlier s p h) (output_earlier s p h);
    bounded = fused_bounded s p bytes h;
    standing = fused_standing;
  }

  -- so no row of a circuit file refuses its file, and the file is that of these records and outputs
  pub fused_row : circuit_row (fused_file s p) ≡ 0
  unfolding fused_file
  fused_row = well_row written_version (variables s) (records_of s p) (output_wires s p) fused_well_formed

pub fused_is : (s p : List ℕ) → fused_file s p ≡ file_bytes written_version (variables s) (records_of s p) (output_wires s p)
unfolding fused_file
fused_is s p = refl
