-- The exported operations' promises: what the demands say holds of any answer, bytes and places that are what the definitions give.
use Rattle.std.specs.Prelude.{ℕ, ◌≡◌, List, length, take}
use Rattle.std.proofs.Common.{sym, ap, subst, ◌∙◌}
use Rattle.std.proofs.Math.Path.{subst⁻¹}
use Rattle.base.specs.Numbers.{Bytes, Words}
use Rattle.base.specs.declared.Answer.{Answer}
use Rattle.circuit.specs.Whole.{rule_answer}
use Rattle.run.specs.Direct.{run_answer, run_results}
use Rattle.plan.specs.Rows.{plan_answer}
use Rattle.fused.specs.FusedCircuit.{fused_file}
use Rattle.fused.specs.Answers.{fused_answer, write_answer, written_over}
use Rattle.run.specs.FusedRun.{fused_results}
use Rattle.file.specs.Answers.{circuit_answer, circuit_run_answer, circuit_run_results}
use Rattle.demands.specs.Table.{AnsweredBy, AnsweredAfter, RuleAnswered, plan_rows, run_rows, buffer_rows, circuit_rows, file_run_rows}
use Rattle.demands.specs.Promises.{RunWritten, FileWritten, AcceptedExactly, FileReadsEarlier, FileGives, FusedAsDirect, OwnAsDirect}
use Rattle.demands.specs.FusedRunLaws.{written_answer, file_written}
use Rattle.demands.specs.Demands as demands
use Rattle.demands.specs.Sentences as sentences
use Rattle.demands.specs.C11 as circuits

-- what is answered is answered by the table
pub rule_told : (s : List ℕ) (a : Answer) → a ≡ rule_answer s → RuleAnswered s a
rule_told s a e = subst⁻¹ (RuleAnswered s) e (demands.rule_answered s)

pub plan_told : (s p : List ℕ) (a : Answer) → a ≡ plan_answer s p → AnsweredAfter (rule_answer s) (plan_rows s p) a
plan_told s p a e = subst⁻¹ (AnsweredAfter (rule_answer s) (plan_rows s p)) e (demands.plan_answered s p)

pub run_told : (s inputs : List ℕ) (room : ℕ) (a : Answer) → a ≡ run_answer (rule_answer s) s inputs room → AnsweredAfter (rule_answer s) (run_rows s inputs room) a
run_told s inputs room a e = subst⁻¹ (AnsweredAfter (rule_answer s) (run_rows s inputs room)) e (demands.run_answered s inputs room)

pub fused_told : (s p inputs : List ℕ) (room : ℕ) (a : Answer) → a ≡ run_answer (fused_answer s p) s inputs room → AnsweredAfter (plan_answer s p) (run_rows s inputs room) a
fused_told s p inputs room a e = subst⁻¹ (AnsweredAfter (plan_answer s p) (run_rows s inputs room)) e (demands.fused_run_answered s p inputs room)

pub write_told : (s p : List ℕ) (room : ℕ) (a : Answer) → a ≡ write_answer s p room → AnsweredAfter (plan_answer s p) (buffer_rows s p room) a
write_told s p room a e = subst⁻¹ (AnsweredAfter (plan_answer s p) (buffer_rows s p room)) e (demands.write_answered s p room)

pub circuit_told : (f : List ℕ) (a : Answer) → a ≡ circuit_answer f → AnsweredBy (circuit_rows f) 0 a
circuit_told f a e = subst⁻¹ (AnsweredBy (circuit_rows f) 0) e (demands.circuit_answered f)

pub file_told : (f inputs : List ℕ) (room : ℕ) (a : Answer) → a ≡ circuit_run_answer f inputs room → AnsweredAfter (circuit_answer f) (file_run_rows f inputs room) a
file_told f inputs room a e = subst⁻¹ (AnsweredAfter (circuit_answer f) (file_run_rows f inputs room)) e (demands.circuit_run_answered f inputs room)

-- the check of a plan
pub checked : (s p : List ℕ) (a : Answer) → a ≡ plan_answer s p → AcceptedExactly s p a
checked s p a e = subst⁻¹ (AcceptedExactly s p) e (demands.plan_accepted s p)

-- a direct run; d are the result places before it, new those after
pub run_done : (s inputs d : List ℕ) (a : Answer) (new : List ℕ) → a ≡ run_answer (rule_answer s) s inputs (length d) → new ≡ run_results (rule_answer s) s inputs d
    → a.number ≡ 0 → RunWritten s inputs d new
run_done s inputs d a new e r z = subst⁻¹ (RunWritten s inputs d) r (sentences.run_written s inputs d (ap (λ (b : Answer). b.number) (sym e) ∙ z))

-- writing: the bytes that were left are the file
module _ (s p d : List ℕ) (a : Answer) (new : List ℕ) (e : a ≡ write_answer s p (length d)) (r : new ≡ written_over s p d) (z : a.number ≡ 0) where
  number : (write_answer s p (length d)).number ≡ 0
  number = ap (λ (b : Answer). b.number) (sym e) ∙ z

  left : fused_file s p ≡ take a.bytes new
  left = rw (e, r) (sym (file_written s p d number).0)

  pub written_earlier : Bytes s → FileReadsEarlier (take a.bytes new)
  written_earlier bytes = subst FileReadsEarlier left (demands.reads_earlier s p bytes (written_answer s p (length d) number).0)

  pub written_gives : Bytes s → FileGives s (take a.bytes new)
  written_gives bytes = subst (FileGives s) left (demands.file_run s p bytes (written_answer s p (length d) number).0)

-- a run of the fused circuit
pub fused_done : (s p inputs d : List ℕ) (a : Answer) (new : List ℕ) → a ≡ run_answer (fused_answer s p) s inputs (length d) → new ≡ fused_results s p inputs d
    → Bytes s → Words inputs → FusedAsDirect s p inputs d a new
fused_done s p inputs d a new e r bytes words = rw (e, r) (demands.same_run s p bytes inputs words d)

-- a run of a circuit file
pub file_done : (f inputs d : List ℕ) (a : Answer) (new : List ℕ) → a ≡ circuit_run_answer f inputs (length d) → new ≡ circuit_run_results f inputs d
    → Words inputs → OwnAsDirect f inputs d a new
file_done f inputs d a new e r words = rw (e, r) (circuits.own_run f inputs words d)

pub file_left : (f inputs d : List ℕ) (a : Answer) (new : List ℕ) → a ≡ circuit_run_answer f inputs (length d) → new ≡ circuit_run_results f inputs d
    → a.number ≡ 0 → FileWritten f inputs d new
file_left f inputs d a new e r z = subst⁻¹ (FileWritten f inputs d) r (sentences.circuit_run_written f inputs d (ap (λ (b : Answer). b.number) (sym e) ∙ z))
