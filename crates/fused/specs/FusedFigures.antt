-- The fused circuit of an accepted plan: its records read only earlier wires, and the figures of its result variables, from its records and from its file's bytes,
-- are the direct run's; for a working variable it gives 0, so that it gives what a direct run writes.
-- The inputs are of their variables' kinds: with a bit above 1 there is no direct run (row 41), and no input has more than 32 bits. (There a pick would be cut to its kind.)
use Rattle.std.specs.Prelude.{ℕ, ◌<◌, ◌≡◌, List, true, false, ◌⊎◌, length, get_or}
use Rattle.std.proofs.Common.{sym, ap, ◌∙◌, inl, inr, arith}
use Rattle.std.proofs.lemmas.Simd.{map-map}
use Rattle.base.specs.Inputs.{FiguresFit}
use Rattle.base.specs.Lists.{◌∈◌, upto}
use Rattle.base.specs.MemberLaws.{map_in, from_below}
use Rattle.base.specs.Numbers.{Bytes}
use Rattle.base.specs.TestLaws.{split}
use Rattle.file.specs.Records.{ReadsEarlier}
use Rattle.file.specs.WireFigures.{wire_figure}
use Rattle.file.specs.CircuitFile.{no_wire}
use Rattle.file.specs.FileFigures.{output_figure, file_figures}
use Rattle.file.specs.NoWireLaws.{none_figure, some_figure}
use Rattle.base.specs.Results.{is_one}
use Rattle.rule.specs.Header.{variables, kind_at, working_at}
use Rattle.circuit.specs.Running.{run_rule, written_for, run_writes}
use Rattle.circuit.specs.Gates.{figure_at}
use Rattle.circuit.specs.PlainCircuit.{gates_of, outputs_of}
use Rattle.circuit.proofs.StartLaws.{read_run}
use Rattle.circuit.proofs.OutputLaws.{output_figure_lem}
use Rattle.circuit.specs.WrittenLaws.{written_result, written_working, writes_result, writes_map}
use Rattle.circuit_needed.specs.Needed.{Needed, wanted_of, from_start}
use Rattle.circuit_needed.specs.NeededLaws.{needed_inside}
use Rattle.circuit_needed.specs.WantedLaws.{result_wanted}
use Rattle.circuit_needed.specs.Pass.{rule_preconditions}
use Rattle.plan.specs.PlanFile.{groups_in}
use Rattle.plan.specs.Groups.{group_of}
use Rattle.plan.specs.Order.{order}
use Rattle.plan.proofs.WaitLaws.{order_ordered, order_once}
use Rattle.plan.specs.Rows.{plan_answer}
use Rattle.fused.specs.FusedCircuit.{fused, records_of, wire_of, output_wire, output_wires, fused_file}
use Rattle.fused.specs.OutputLaws.{working_wire, result_wire}
use Rattle.fused.specs.SizeBounds.{wires_bound}
use Rattle.fused.specs.FitPlan.{fused_file_figures}
use Rattle.fused.specs.RightLaws.{written_right}
use Rattle.fused.specs.PickSums.{fused_figured}
use Rattle.fused.specs.PlannedLaws.{planned_read, planned_gates, planned_wanted, planned_output, planned_few, planned_joined, planned_group, planned_earlier, planned_wire}

-- every record reads only earlier wires
pub reads_earlier : (s p : List ℕ) → (plan_answer s p).number ≡ 0 → ReadsEarlier (records_of s p)
reads_earlier = planned_earlier

-- a result variable's output is a record's wire
pub result_earlier : (s p : List ℕ) → (plan_answer s p).number ≡ 0 → (x : ℕ) → x < variables s → working_at s x ≡ false → output_wire s p x < length (records_of s p)
result_earlier s p h x l t = rw (result_wire s p x t) (planned_wire s p h (get_or (outputs_of s) x 0) (planned_output s p h x l))

-- so every output is no wire, or a record's
pub output_earlier : (s p : List ℕ) → (plan_answer s p).number ≡ 0 → (w : ℕ) → w ∈ output_wires s p → (w ≡ no_wire) ⊎ (w < length (records_of s p))
output_earlier s p h w m =
    let r = map_in (output_wire s p) w (upto (variables s)) m in
    let b = (from_below 0 (variables s) r.0 r.1).1 in
    rw r.2 (split (working_at s r.0) (λ t. inl (working_wire s p r.0 t)) (λ t. inr (result_earlier s p h r.0 (omega (arith, b)) t)))

-- whatever the inputs, a working variable's output gives 0
pub working_figure : (s p inputs : List ℕ) (x : ℕ) → working_at s x ≡ true → output_figure inputs (records_of s p) (output_wire s p x) ≡ 0
working_figure s p inputs x t = ap (output_figure inputs (records_of s p)) (working_wire s p x t) ∙ none_figure inputs (records_of s p)

-- on inputs that fit their variables' kinds
module _ (s p : List ℕ) (bytes : Bytes s) (h : (plan_answer s p).number ≡ 0) (inputs : List ℕ) (fit : FiguresFit (variables s) (kind_at s) inputs) where
  -- the wire of a gate that is needed has the plain circuit's figure
  pub needed_figure : (g : ℕ) → Needed (gates_of s) (wanted_of s) (λ c. is_one (figure_at inputs (gates_of s) c)) g
      → wire_figure inputs (records_of s p) (wire_of s p g) ≡ figure_at inputs (gates_of s) g
  unfolding fused
  needed_figure g d =
      let C = gates_of s in
      let group = group_of (groups_in p) in
      let earlier = planned_gates s p h in
      let inside = planned_wanted s p h in
      written_right s C (wanted_of s) earlier inside (planned_few s p h) group (planned_joined s p h) inputs (wire_figure inputs (records_of s p))
      (order C (rule_preconditions s) group) (order_once C (rule_preconditions s) group) (order_ordered C (rule_preconditions s) group)
      (fused_figured s p h bytes inputs fit) g
      (planned_group s p h g (needed_inside C (wanted_of s) (λ c. is_one (figure_at inputs C c)) earlier inside g d)) d

  -- there are V of them
  module _ (l : length inputs ≡ variables s) where
    -- a result variable's output has the figure that the direct run ends with
    pub result_figure : (x : ℕ) → x < variables s → working_at s x ≡ false → output_figure inputs (records_of s p) (output_wire s p x) ≡ get_or (run_rule s inputs) x 0
    result_figure x v t =
        let r = planned_read s p h in
        let some : output_wire s p x ≡ no_wire → ⊥ = λ e. omega (arith, e, result_earlier s p h x v t, wires_bound s p h) in
        some_figure inputs (records_of s p) (output_wire s p x) some
        ∙ rw (result_wire s p x t)
        (needed_figure (get_or (outputs_of s) x 0) (from_start (result_wanted s x v t))
        ∙ output_figure_lem s r.0 r.1 r.2 inputs l x v
        ∙ ap (λ (f : List ℕ). get_or f x 0) (sym (read_run s r.0 r.1 r.2 inputs)))

    -- every output gives what the direct run writes
    output_written : (x : ℕ) → x < variables s → output_figure inputs (records_of s p) (output_wire s p x) ≡ written_for s x (get_or (run_rule s inputs) x 0)
    output_written x v = split (working_at s x) (λ t. working_figure s p inputs x t ∙ sym (written_working s x _ t)) (λ t. result_figure x v t ∙ sym (written_result s x _ t))

    -- so the file's own bytes, worked out record by record, give what a direct run writes
    pub file_run : file_figures (fused_file s p) inputs ≡ run_writes s inputs
    file_run =
        fused_file_figures s p h bytes (reads_earlier s p h) (output_earlier s p h) inputs
        ∙ map-map (output_figure inputs (records_of s p)) (output_wire s p) (upto (variables s))
        ∙ writes_map s inputs (λ x. output_figure inputs (records_of s p) (output_wire s p x)) output_written

    -- for a result variable its figure at the end of the direct run
    pub file_result : (x : ℕ) → x < variables s → working_at s x ≡ false → get_or (file_figures (fused_file s p) inputs) x 0 ≡ get_or (run_rule s inputs) x 0
    file_result x v t = ap (λ (f : List ℕ). get_or f x 0) file_run ∙ writes_result s inputs x v t
