-- The result places after a run that is answered with 0: directly, of the fused circuit, of a circuit file.
use Rattle.std.specs.Prelude.{ℕ, ◌≤◌, ◌≡◌, List, eqb, length, take, drop}
use Rattle.std.proofs.Common.{sym, ap, subst, ◌∙◌, eqb-true}
use Rattle.std.proofs.Math.Path.{subst⁻¹}
use Rattle.std.proofs.lemmas.Bool.{eqb-false}
use Rattle.base.specs.TestLaws.{split}
use Rattle.base.specs.Buffers.{over}
use Rattle.base.specs.BufferLaws.{length_over, take_over, drop_over, over_at}
use Rattle.base.specs.Numbers.{Bytes, Words}
use Rattle.base.specs.InputLaws as any
use Rattle.base.specs.declared.Answer.{Answer}
use Rattle.rule.specs.Header.{variables}
use Rattle.circuit.specs.Running.{run_writes}
use Rattle.circuit.specs.WrittenLaws.{writes_count, writes_result, writes_working}
use Rattle.circuit.specs.Whole.{rule_answer}
use Rattle.run.specs.Direct.{run_answer, run_results}
use Rattle.run.specs.InputLaws.{inputs_room}
use Rattle.run.specs.DirectLaws.{answered_rule, answered_inputs, answered_results}
use Rattle.plan.specs.Rows.{plan_answer}
use Rattle.file.specs.WireKinds.{wire_kind}
use Rattle.file.specs.FileFigures.{file_variables, file_records, file_figures}
use Rattle.file.specs.FilePartLaws.{figures_count}
use Rattle.fused.specs.Answers.{fused_answer}
use Rattle.fused.specs.AnswerLaws.{fused_plan}
use Rattle.run.specs.FusedRun.{fused_results}
use Rattle.file.specs.Answers.{circuit_answer, circuit_run_answer, circuit_run_results}
use Rattle.file.specs.RunLaws as files-run
use Rattle.demands.specs.FusedRunLaws.{same_number, same_results}
use Rattle.demands.specs.Promises.{RunWritten, FileWritten}

-- a buffer with as many numbers written at its start as it has places for
module _ (bs d : List ℕ) (v : ℕ) (count : length bs ≡ v) (room : v ≤ length d) where
  over_taken : take v (over bs d) ≡ bs
  over_taken = subst (λ (n : ℕ). take n (over bs d) ≡ bs) count (take_over bs d)

  over_kept : drop v (over bs d) ≡ drop v d
  over_kept = subst (λ (n : ℕ). drop n (over bs d) ≡ drop n d) count (drop_over bs d)

  over_places : length (over bs d) ≡ length d
  over_places = length_over bs d (rw count room)

-- a direct run
pub run_written : (s inputs results : List ℕ) → (run_answer (rule_answer s) s inputs (length results)).number ≡ 0
    → RunWritten s inputs results (run_results (rule_answer s) s inputs results)
run_written s inputs results h =
    subst⁻¹ (RunWritten s inputs results) (answered_results (rule_answer s) s inputs results h)
    (record {
      figures = λ x l f. over_at (run_writes s inputs) results x (rw n l) ∙ writes_result s inputs x l f;
      working = λ x l t. over_at (run_writes s inputs) results x (rw n l) ∙ writes_working s inputs x l t;
      kept = over_kept (run_writes s inputs) results (variables s) n room;
      places = over_places (run_writes s inputs) results (variables s) n room;
    })
  where
    n : length (run_writes s inputs) ≡ variables s
    n = writes_count s inputs

    room : variables s ≤ length results
    room = inputs_room s inputs (length results) (answered_inputs (rule_answer s) s inputs (length results) h)

-- a run of the fused circuit: its plan is accepted, so it writes what the direct run writes
pub fused_written : (s p inputs results : List ℕ) → Bytes s → Words inputs → (run_answer (fused_answer s p) s inputs (length results)).number ≡ 0
    → RunWritten s inputs results (fused_results s p inputs results)
fused_written s p inputs results bytes words h =
    subst⁻¹ (RunWritten s inputs results) (same_results s p taken bytes inputs words results)
    (run_written s inputs results (sym (same_number s p taken inputs (length results)) ∙ h))
  where
    taken : (plan_answer s p).number ≡ 0
    taken = fused_plan s p (answered_rule (fused_answer s p) s inputs (length results) h)

-- a run of a circuit file
pub file_written : (f inputs results : List ℕ) → (circuit_run_answer f inputs (length results)).number ≡ 0
    → FileWritten f inputs results (circuit_run_results f inputs results)
file_written f inputs results h =
    subst⁻¹ (FileWritten f inputs results) (files-run.run_results_lem f inputs results h)
    (record {
      figures = over_taken (file_figures f inputs) results (file_variables f) n room;
      kept = over_kept (file_figures f inputs) results (file_variables f) n room;
      places = over_places (file_figures f inputs) results (file_variables f) n room;
    })
  where
    n : length (file_figures f inputs) ≡ file_variables f
    n = figures_count f inputs

    taken : (circuit_answer f).number ≡ 0
    taken =
        split (eqb (circuit_answer f).number 0) (λ t. eqb-true _ _ t)
        (λ t. ap (λ (a : Answer). a.number) (sym (files-run.file_answer f inputs (eqb-false _ _ t) (length results))) ∙ h)

    room : file_variables f ≤ length results
    room = any.inputs_room (file_variables f) (wire_kind (file_records f)) inputs (length results) (sym (files-run.run_number f inputs taken (length results)) ∙ h)
