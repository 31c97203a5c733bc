-- Laws for document 01, "The fused circuit file": an accepted plan's file has at most 640 wires and 16,384 bytes.
use Rattle.std.specs.Prelude.{◌≡◌, ℕ, ◌+◌, ◌*◌, ◌≤◌, length}
use Rattle.std.proofs.Common.{ap, ◌∙◌, length-append}
use mathlib.Core.List.{List, [], ◌∷◌}
use native.Mathlib.Omega.{arith}
use Rattle.base.specs.Lists.{upto}
use Rattle.base.specs.ListLaws.{length_from}
use Rattle.base.specs.Settings.{Once}
use Rattle.base.specs.ParsingLaws.{is_read}
use Rattle.file.specs.Versions.{written_version}
use Rattle.file.specs.Records.{records_cost}
use Rattle.file.specs.CircuitFile.{records_bytes}
use Rattle.file.specs.SizeLaws.{size_append, cost_none, cost_append, file_size}
use Rattle.rule.specs.Limits.{most_variables}
use Rattle.rule.specs.Header.{variables}
use Rattle.rule.specs.Rule.{read_rule}
use Rattle.rule.specs.FirstStatement.{rule_read}
use Rattle.circuit.specs.Gates.{Gates}
use Rattle.circuit.specs.PlainCircuit.{gates_of, outputs_of}
use Rattle.circuit.proofs.StartLaws.{plain_sound}
use Rattle.circuit_needed.specs.Held.{Shaped}
use Rattle.circuit_needed.specs.ShapedLaws.{rule_shaped}
use Rattle.circuit_needed.specs.Pass.{rule_preconditions}
use Rattle.circuit.specs.WholeLaws.{accepted}
use Rattle.plan.specs.PlanFile.{groups_in}
use Rattle.plan.specs.Groups.{group_of, members}
use Rattle.plan.specs.Order.{order}
use Rattle.plan.specs.Rows.{plan_answer}
use Rattle.plan.specs.Accepted.{OneCostly}
use Rattle.plan.proofs.AcceptedLaws.{plan_accepted}
use Rattle.plan.specs.JoinedLaws.{members_costly}
use Rattle.plan.proofs.WaitLaws.{order_once}
use Rattle.fused.specs.FusedCircuit.{group_records, written, fused, records_of, output_wires, cost_after, fused_file}
use Rattle.fused.specs.OutputLaws.{outputs_length}
use Rattle.fused.specs.SizeLimits.{most_bytes_of_two, most_record_bytes, most_fused_bytes}
use Rattle.fused.specs.SizeEmit.{emit_most}
use Rattle.fused.specs.SizeTotal.{total, total_le}
use Rattle.file.specs.Limits.{most_file_bytes, most_wires}

-- the groups written so far: five wires to two gates at most, `most_bytes_of_two` bytes to two, 40 of cost to one
module _ (s : List ℕ) (C : Gates) (shaped : Shaped C) (sets : List ℕ) (group : ℕ → ℕ)
    (costly : (q : ℕ) → 2 ≤ length (members (length C) group q) → OneCostly C (members (length C) group q)) where
  by_group : (done : List ℕ)
      → (2 * length (written s C sets group done).records ≤ 5 * total group (upto (length C)) done)
      × (2 * length (records_bytes written_version (written s C sets group done).records) ≤ most_bytes_of_two * total group (upto (length C)) done)
      × (records_cost (written s C sets group done).records ≤ 40 * total group (upto (length C)) done)
  unfolding written
  by_group [] = (omega arith, omega arith, omega (arith, cost_none))
  by_group (q ∷ done) =
      let w = written s C sets group done in
      let new = group_records s C sets group w q in
      let ih = by_group done in
      let e = emit_most s C sets (λ a. w.wire (group a)) (length w.records) shaped (members (length C) group q) (costly q) in (
        rw (length-append w.records new) (omega (arith, ih.0, e.0)),
        rw (size_append written_version w.records new) (omega (arith, ih.1, e.1)),
        rw (cost_append w.records new) (omega (arith, ih.2, e.2)),
      )

  pub written_most : (done : List ℕ) → Once done
      → (2 * length (written s C sets group done).records ≤ 5 * length C)
      × (2 * length (records_bytes written_version (written s C sets group done).records) ≤ most_bytes_of_two * length C)
      × (records_cost (written s C sets group done).records ≤ 40 * length C)
  written_most done once =
      let w = by_group done in
      let t : total group (upto (length C)) done ≤ length C = rw (length_from 0 (length C)) at (total_le group (upto (length C)) done once) in
      (omega (arith, w.0, t), omega (arith, w.1, t), omega (arith, w.2, t))

-- of an accepted plan, whatever groups are written, each once
pub plan_written : (s p : List ℕ) → (plan_answer s p).number ≡ 0 → (done : List ℕ) → Once done
    → let R = (written s (gates_of s) (rule_preconditions s) (group_of (groups_in p)) done).records in
    (length R ≤ most_wires) × (length (records_bytes written_version R) ≤ most_record_bytes) × (records_cost R ≤ 10240)
plan_written s p h done once =
    let (r, x) = (plan_accepted s p).0 h in
    let a = accepted s r in
    let (b, n, read) = is_read (read_rule s) a.read in
    let m = written_most s (gates_of s) (rule_shaped s b n read) (rule_preconditions s) (group_of (groups_in p)) (members_costly s p x) done once in
    (omega (arith, m.0, a.gates), omega (arith, m.1, a.gates), omega (arith, m.2, a.gates))

pub plan_most : (s p : List ℕ) → (plan_answer s p).number ≡ 0 → (length (records_of s p) ≤ most_wires)
    × (length (records_bytes written_version (records_of s p)) ≤ most_record_bytes) × (cost_after s p ≤ 10240)
unfolding fused
plan_most s p h =
    plan_written s p h (order (gates_of s) (rule_preconditions s) (group_of (groups_in p)))
    (order_once (gates_of s) (rule_preconditions s) (group_of (groups_in p)))

-- at most 640 wires
pub wires_bound : (s p : List ℕ) → (plan_answer s p).number ≡ 0 → length (records_of s p) ≤ most_wires
wires_bound s p h = (plan_most s p h).0

-- an output for each of at most 32 variables
pub outputs_count : (s p : List ℕ) → (plan_answer s p).number ≡ 0 → (length (outputs_of s) ≡ variables s) × (variables s ≤ most_variables)
outputs_count s p h =
    let a = accepted s ((plan_accepted s p).0 h).0 in
    let (b, n, read) = is_read (read_rule s) a.read in
    ((plain_sound s b n read).count, (rule_read s a.read).header.few)

-- the file's bytes: 8, its records, two for each output
pub fused_size : (s p : List ℕ) → (plan_answer s p).number ≡ 0 → length (fused_file s p) ≡ 8 + length (records_bytes written_version (records_of s p)) + 2 * variables s
unfolding fused_file
fused_size s p h =
    file_size written_version (variables s) (records_of s p) (output_wires s p)
    ∙ ap (λ (k : ℕ). 8 + length (records_bytes written_version (records_of s p)) + 2 * k) (outputs_length s p)

-- at most so many bytes, and so at most 16,384
pub bytes_most : (s p : List ℕ) → (plan_answer s p).number ≡ 0 → length (fused_file s p) ≤ most_fused_bytes
bytes_most s p h = omega (arith, (plan_most s p h).1, fused_size s p h, (outputs_count s p h).1)

pub bytes_bound : (s p : List ℕ) → (plan_answer s p).number ≡ 0 → length (fused_file s p) ≤ most_file_bytes
bytes_bound s p h = omega (arith, bytes_most s p h)
