-- Laws for sentences of document 01 beside the demands: our own file counts at most 640 wires, a buffer of 16,384 bytes suffices, and a refused rule is answered before plan and inputs.
use Rattle.std.specs.Prelude.{ℕ, ◌≤◌, ◌≡◌, List, eqb}
use Rattle.std.proofs.Common.{arith, sym, ap, ◌∙◌, eqb-true}
use Rattle.std.proofs.Math.Path.{subst⁻¹}
use Rattle.std.proofs.lemmas.Bool.{eqb-false}
use Rattle.base.specs.Numbers.{Bytes}
use Rattle.base.specs.TestLaws.{split}
use Rattle.base.specs.declared.Answer.{Answer}
use Rattle.circuit.specs.Whole.{rule_answer}
use Rattle.run.specs.Direct.{run_answer}
use Rattle.plan.specs.Rows.{plan_answer}
use Rattle.plan.proofs.AcceptedLaws.{answer_rule}
use Rattle.file.specs.Limits.{most_file_bytes, most_wires}
use Rattle.file.specs.FileFigures.{wire_count}
use Rattle.fused.specs.FusedCircuit.{fused_file}
use Rattle.fused.specs.SizeBounds.{wires_bound, bytes_bound}
use Rattle.fused.specs.FitPlan.{fused_found}
use Rattle.fused.specs.FusedFigures.{reads_earlier, output_earlier}
use Rattle.fused.specs.Answers.{fused_answer, write_answer}
use Rattle.fused.specs.AnswerLaws.{fused_refused, write_refused, write_taken}
use Rattle.demands.specs.AnsweredLaws.{plan_number}

-- the wires that our own file counts
pub wires_counted : (s p : List ℕ) → Bytes s → (plan_answer s p).number ≡ 0 → wire_count (fused_file s p) ≤ most_wires
wires_counted s p bytes h = subst⁻¹ (λ (n : ℕ). n ≤ most_wires) (fused_found s p h bytes (reads_earlier s p h) (output_earlier s p h)).3 (wires_bound s p h)

-- a buffer of that many bytes or more
pub room_suffices : (s p : List ℕ) (room : ℕ) → most_file_bytes ≤ room → write_answer s p room ≡ fused_answer s p
room_suffices s p room l =
    split (eqb (plan_answer s p).number 0)
    (λ t. let h = eqb-true _ _ t in write_taken s p room h (let b = bytes_bound s p h in omega (arith, b, l)))
    (λ t. let n = eqb-false _ _ t in write_refused s p room n ∙ sym (fused_refused s p n))

-- a refused rule
module _ (s p : List ℕ) (h : (rule_answer s).number ≡ 0 → ⊥) where
  plan_too : (plan_answer s p).number ≡ 0 → ⊥
  plan_too z = h (ap (λ (a : Answer). a.number) (sym (answer_rule s p h)) ∙ z)

  pub rule_before_writing : (room : ℕ) → write_answer s p room ≡ rule_answer s
  rule_before_writing room = write_refused s p room plan_too ∙ answer_rule s p h

  pub rule_before_running : (inputs : List ℕ) (room : ℕ) → run_answer (fused_answer s p) s inputs room ≡ rule_answer s
  rule_before_running inputs room = plan_number s p plan_too inputs room ∙ answer_rule s p h
