-- A fused run beside a direct run of the same rule and inputs: of an accepted plan number and results are the same; what is written is the file, and the rest of the buffer stays.
use Rattle.std.specs.Prelude.{ℕ, ◌≡◌, List, map, eqb, leb, length, take, drop}
use Rattle.std.proofs.Common.{arith, sym, ap, subst, ◌∙◌, eqb-true, leb-true, leb-false}
use Rattle.std.proofs.lemmas.Bool.{eqb-false}
use Rattle.base.specs.TestLaws.{split}
use Rattle.base.specs.BufferLaws.{take_over, drop_over}
use Rattle.base.specs.Numbers.{Bytes, Words}
use Rattle.base.specs.ParsingLaws.{is_read}
use Rattle.base.specs.Parsing.{IsRead}
use Rattle.base.specs.declared.Answer.{Answer}
use Rattle.rule.specs.Header.{variables}
use Rattle.rule.specs.Rule.{read_rule}
use Rattle.circuit.specs.Running.{run_rule}
use Rattle.circuit.specs.Gates.{figure_at}
use Rattle.circuit.specs.PlainCircuit.{gates_of, outputs_of}
use Rattle.circuit.proofs.OutputLaws.{output_figures}
use Rattle.circuit.proofs.StartLaws.{read_run}
use Rattle.circuit.specs.Whole.{rule_answer}
use Rattle.circuit.specs.WholeLaws.{accepted}
use Rattle.run.specs.Inputs.{input_row}
use Rattle.run.specs.Direct.{run_answer, run_results}
use Rattle.run.specs.DirectLaws.{inputs_answer, run_answer_lem, answered_rule, answered_inputs, answered_results, refused_results}
use Rattle.plan.specs.Rows.{plan_answer}
use Rattle.plan.proofs.AcceptedLaws.{plan_accepted}
use Rattle.fused.specs.FusedCircuit.{fused_file}
use Rattle.file.specs.Records.{ReadsEarlier}
use Rattle.file.specs.FileFigures.{file_records}
use Rattle.fused.specs.FitPlan.{fused_found}
use Rattle.fused.specs.FusedFigures.{reads_earlier, output_earlier}
use Rattle.fused.specs.Answers.{fused_answer, write_answer, written_over}
use Rattle.fused.specs.AnswerLaws.{fused_taken, fused_plan, answer_bytes, write_refused, write_short, write_taken, write_over}
use Rattle.run.specs.FusedRun.{fused_results}
use Rattle.run.specs.ResultLaws.{fused_untouched, fused_results_lem}
use Rattle.demands.specs.Promises.{FusedAsDirect}
use Rattle.demands.specs.AnsweredLaws.{plan_number}

-- the plain circuit beside the direct run
pub plain_figures : (s inputs : List ℕ) → IsRead (read_rule s) → length inputs ≡ variables s → map (figure_at inputs (gates_of s)) (outputs_of s) ≡ run_rule s inputs
plain_figures s inputs h l =
    let r = is_read (read_rule s) h in
    output_figures s r.0 r.1 r.2 inputs l ∙ sym (read_run s r.0 r.1 r.2 inputs)

-- two answers that come before the inputs and are both number 0: the inputs decide alike
module _ (a b : Answer) (x : a.number ≡ 0) (y : b.number ≡ 0) (s inputs : List ℕ) where
  pub numbers_same : (room : ℕ) → (run_answer a s inputs room).number ≡ (run_answer b s inputs room).number
  numbers_same room =
      split (eqb (input_row s inputs room) 0)
      (λ t. let z = eqb-true _ _ t in
      ap (λ (c : Answer). c.number) (run_answer_lem a s inputs x room z) ∙ x ∙ sym y ∙ ap (λ (c : Answer). c.number) (sym (run_answer_lem b s inputs y room z)))
      (λ t. let n = eqb-false _ _ t in
      ap (λ (c : Answer). c.number) (inputs_answer a s inputs x room n ∙ sym (inputs_answer b s inputs y room n)))

  pub places_same : (room : ℕ) → a.place ≡ 0 → b.place ≡ 0 → (run_answer a s inputs room).place ≡ (run_answer b s inputs room).place
  places_same room p q =
      split (eqb (input_row s inputs room) 0)
      (λ t. let z = eqb-true _ _ t in
      ap (λ (c : Answer). c.place) (run_answer_lem a s inputs x room z) ∙ p ∙ sym q ∙ ap (λ (c : Answer). c.place) (sym (run_answer_lem b s inputs y room z)))
      (λ t. let n = eqb-false _ _ t in
      ap (λ (c : Answer). c.place) (inputs_answer a s inputs x room n ∙ sym (inputs_answer b s inputs y room n)))

  pub results_same : (results : List ℕ) → run_results a s inputs results ≡ run_results b s inputs results
  results_same results =
      let e = numbers_same (length results) in
      split (eqb (run_answer b s inputs (length results)).number 0)
      (λ t. let z = eqb-true _ _ t in answered_results a s inputs results (e ∙ z) ∙ sym (answered_results b s inputs results z))
      (λ t. let n = eqb-false _ _ t in refused_results a s inputs results (λ z. n (sym e ∙ z)) ∙ sym (refused_results b s inputs results n))

module _ (s p : List ℕ) where
  -- a plan that is accepted: the rule is, and so is the fused circuit
  module _ (h : (plan_answer s p).number ≡ 0) where
    rule_zero : (rule_answer s).number ≡ 0
    rule_zero = ((plan_accepted s p).0 h).0

    fused_zero : (fused_answer s p).number ≡ 0
    fused_zero = (fused_taken s p h).0

    pub same_number : (inputs : List ℕ) (room : ℕ) → (run_answer (fused_answer s p) s inputs room).number ≡ (run_answer (rule_answer s) s inputs room).number
    same_number inputs room = numbers_same (fused_answer s p) (rule_answer s) fused_zero rule_zero s inputs room

    pub same_results : Bytes s → (inputs : List ℕ) → Words inputs → (results : List ℕ) → fused_results s p inputs results ≡ run_results (rule_answer s) s inputs results
    same_results bytes inputs words results =
        fused_results_lem s p bytes inputs words results ∙ results_same (fused_answer s p) (rule_answer s) fused_zero rule_zero s inputs results

    -- the records that the file's bytes give
    pub file_earlier : Bytes s → ReadsEarlier (file_records (fused_file s p))
    file_earlier bytes =
        let e = reads_earlier s p h in
        subst ReadsEarlier (sym (fused_found s p h bytes e (output_earlier s p h)).0) e

  -- writing that is answered with 0: an accepted plan, with its five counts
  pub written_answer : (room : ℕ) → (write_answer s p room).number ≡ 0 → ((plan_answer s p).number ≡ 0) × (write_answer s p room ≡ fused_answer s p)
  written_answer room h =
      split (eqb (plan_answer s p).number 0)
      (λ t. let z = eqb-true _ _ t in
      split (leb (length (fused_file s p)) room)
      (λ u. (z, write_taken s p room z (leb-true _ _ u)))
      (λ u. absurd (omega (arith, number (write_short s p room z (leb-false _ _ u))))))
      (λ t. let n = eqb-false _ _ t in absurd (n (number (write_refused s p room n))))
    where
      number : {a : Answer} → write_answer s p room ≡ a → a.number ≡ 0
      number e = ap (λ (c : Answer). c.number) (sym e) ∙ h

  -- so a run of it is as the direct run is, or refused as the plan is
  pub same_run : Bytes s → (inputs : List ℕ) → Words inputs → (results : List ℕ)
      → FusedAsDirect s p inputs results (run_answer (fused_answer s p) s inputs (length results)) (fused_results s p inputs results)
  same_run bytes inputs words results =
      record {
        accepted = λ h. record {
          number = same_number h inputs (length results);
          place = places_same (fused_answer s p) (rule_answer s) (fused_zero h) (rule_zero h) s inputs (length results)
              (fused_taken s p h).1 (ap (λ (a : Answer). a.place) (accepted s (rule_zero h)).answer);
          results = same_results h bytes inputs words results;
        };
        counts = counts;
        refused = λ n. (plan_number s p n inputs (length results), fused_untouched s p inputs results (λ z. n (fused_plan s p (answered_rule (fused_answer s p) s inputs (length results) z))));
      }
    where
      counts : (run_answer (fused_answer s p) s inputs (length results)).number ≡ 0 → (room : ℕ) → (write_answer s p room).number ≡ 0
          → run_answer (fused_answer s p) s inputs (length results) ≡ write_answer s p room
      counts z room w =
          let e = run_answer_lem (fused_answer s p) s inputs (answered_rule (fused_answer s p) s inputs (length results) z) (length results)
          (answered_inputs (fused_answer s p) s inputs (length results) z) in
          e ∙ sym (written_answer room w).1

  -- a file that is written: its bytes, and nothing after them
  pub file_written : (buffer : List ℕ) → (write_answer s p (length buffer)).number ≡ 0
      → (take (write_answer s p (length buffer)).bytes (written_over s p buffer) ≡ fused_file s p)
      × (drop (write_answer s p (length buffer)).bytes (written_over s p buffer) ≡ drop (length (fused_file s p)) buffer)
  file_written buffer h =
      let (taken, e) = written_answer (length buffer) h in
      let bytes : (write_answer s p (length buffer)).bytes ≡ length (fused_file s p) = ap (λ (c : Answer). c.bytes) e ∙ answer_bytes s p taken in
      rw (write_over s p buffer h, bytes)
      (take_over (fused_file s p) buffer, drop_over (fused_file s p) buffer)
