-- The kinds of the fused circuit of an accepted plan: every record reads wires of the right kinds, a gate's wire is of the gate's kind, a result variable's output of the variable's.
use Rattle.std.specs.Prelude.{ℕ, ◌<◌, ◌≡◌, List, false, length, get_or}
use Rattle.std.proofs.Common.{ap, ◌∙◌, arith}
use Rattle.base.specs.Numbers.{Bytes}
use Rattle.rule.specs.Header.{variables, kind_at, working_at}
use Rattle.circuit.specs.PlainCircuit.{gates_of, outputs_of}
use Rattle.circuit.specs.GateKinds.{kind_of_gate}
use Rattle.circuit.proofs.GateKindLaws.{plain_fits, output_kinds}
use Rattle.circuit_needed.specs.Needed.{wanted_of}
use Rattle.circuit_needed.specs.Pass.{rule_preconditions}
use Rattle.plan.specs.PlanFile.{groups_in}
use Rattle.plan.specs.Groups.{group_of}
use Rattle.plan.specs.Order.{order}
use Rattle.plan.specs.Rows.{plan_answer}
use Rattle.plan.proofs.WaitLaws.{order_ordered, order_once}
use Rattle.file.specs.Records.{record_in}
use Rattle.file.specs.WireKinds.{wire_kind, RecordFits}
use Rattle.file.specs.WireKindLaws.{run_kinds}
use Rattle.file.specs.RecordLaws.{Along, along_at}
use Rattle.fused.specs.FusedCircuit.{fused, records_of, wire_of, output_wire}
use Rattle.fused.specs.OutputLaws.{result_wire}
use Rattle.fused.specs.KindedLaws.{FitsAt}
use Rattle.fused.specs.KindWritten.{written_kinds}
use Rattle.fused.specs.PlannedLaws.{planned_read, planned_gates, planned_wanted, planned_output, planned_few, planned_joined, planned_group, planned_earlier}
use Rattle.fused.specs.SizeBounds.{outputs_count}

module _ (s p : List ℕ) (bytes : Bytes s) (h : (plan_answer s p).number ≡ 0) where
  both : Along (FitsAt (wire_kind (records_of s p))) 0 (records_of s p)
      × ((g : ℕ) → g < length (gates_of s) → wire_kind (records_of s p) (wire_of s p g) ≡ kind_of_gate (kind_at s) (gates_of s) g)
  unfolding fused
  both =
      let group = group_of (groups_in p) in
      let r = planned_read s p h in
      let w = written_kinds s (gates_of s) (wanted_of s) (planned_gates s p h) (planned_wanted s p h) (planned_few s p h) (plain_fits s bytes r.0 r.1 r.2)
      group (planned_joined s p h) (wire_kind (records_of s p)) (order (gates_of s) (rule_preconditions s) group) (order_once (gates_of s) (rule_preconditions s) group)
      (order_ordered (gates_of s) (rule_preconditions s) group) (run_kinds (records_of s p) (planned_earlier s p h)) in
      (w.0, λ g l. w.1 g l (planned_group s p h g l))

  -- every record reads wires of the right kinds
  pub fused_fits : (i : ℕ) → i < length (records_of s p) → RecordFits (wire_kind (records_of s p)) (record_in (records_of s p) i)
  fused_fits i l = along_at (FitsAt (wire_kind (records_of s p))) (records_of s p) 0 both.0 i l

  -- the wire of a gate is of the gate's kind
  pub fused_kinds : (g : ℕ) → g < length (gates_of s) → wire_kind (records_of s p) (wire_of s p g) ≡ kind_of_gate (kind_at s) (gates_of s) g
  fused_kinds = both.1

  -- a result variable's output is of the variable's kind
  pub output_wire_kinds : (x : ℕ) → x < variables s → working_at s x ≡ false → wire_kind (records_of s p) (output_wire s p x) ≡ kind_at s x
  output_wire_kinds x l t =
      let r = planned_read s p h in
      ap (wire_kind (records_of s p)) (result_wire s p x t)
      ∙ fused_kinds (get_or (outputs_of s) x 0) (planned_output s p h x l)
      ∙ output_kinds s bytes r.0 r.1 r.2 x (omega (arith, l, (outputs_count s p h).0))
