-- A fused run, step by step as the code takes it: the circuit is written, the inputs are looked at, the file is run.
use Rattle.std.specs.Prelude.{Ok, ℕ, ◌-◌, ◌≤◌, ◌≡◌, List, length, take, drop}
use Rattle.std.proofs.Common.{arith, ◌∙◌}
use Rattle.std.proofs.Math.Path.{sym, ap}
use borrow.Author.Tests.{eq-eqb, ne_eqb}
use Rattle.base.specs.Buffers.{over}
use Rattle.base.specs.BufferLaws.{take_over}
use Rattle.base.specs.Numbers.{Bytes}
use Rattle.base.specs.Answers.{refusal}
use Rattle.base.specs.Refusals.{answer_in}
use Rattle.base.specs.Rows.{number_of}
use Rattle.base.specs.declared.Answer.{Answer}
use Rattle.base.specs.declared.Counts.{Counts}
use Rattle.base.specs.declared.Refusal.{Refusal}
use Rattle.base.specs.declared.Row.{Row}
use Rattle.base.specs.RowLaws.{some_row}
use Rattle.rule.specs.Header.{variables, HasKinds}
use Rattle.rule.specs.FirstStatement.{rule_read}
use Rattle.circuit.specs.WholeLaws.{accepted}
use Rattle.plan.specs.Rows.{plan_answer}
use Rattle.plan.proofs.AcceptedLaws.{plan_accepted}
use Rattle.fused.specs.SizeLimits.{most_fused_bytes}
use Rattle.fused.specs.FusedCircuit.{fused_file}
use Rattle.file.specs.CircuitRows.{circuit_row}
use Rattle.file.specs.FileFigures.{file_variables, file_figures}
use Rattle.fused.specs.Answers.{fused_answer}
use Rattle.fused.specs.SizeBounds.{bytes_most}
use Rattle.fused.specs.AnswerLaws.{fused_plan, answer_bytes}
use Rattle.fused.specs.FitPlan.{fused_found}
use Rattle.fused.specs.FusedFigures.{reads_earlier, output_earlier}
use Rattle.run.specs.Inputs.{input_row}
use Rattle.run.specs.InputLaws.{inputs_count, inputs_room}
use Rattle.run.specs.Direct.{run_answer}
use Rattle.run.specs.DirectLaws.{rule_answer_lem, inputs_answer, run_answer_lem}
use Rattle.run.specs.FusedRun.{fused_results}
use Rattle.fused.specs.WellFormedLaws.{fused_row}

module _ (s p : List ℕ) where
  -- a refused rule or plan
  pub refused_run : (r : Refusal) → refusal (number_of r.0) r.1 ≡ fused_answer s p → (inputs d : List ℕ)
      → (refusal (number_of r.0) r.1 ≡ run_answer (fused_answer s p) s inputs (length d)) × (d ≡ fused_results s p inputs d)
  unfolding fused_results
  refused_run r answer-is inputs d =
      let n : (fused_answer s p).number ≡ 0 → ⊥ = λ q. some_row r.0 (ap (λ (b : Answer). b.number) answer-is ∙ q) in
      let k = rule_answer_lem (fused_answer s p) s inputs n (length d) in
      (answer-is ∙ sym k, rw (k, ne_eqb _ _ n))

  -- c: the counts of preparing the circuit
  module _ (c : Counts) (answer-is : answer_in (Ok c) ≡ fused_answer s p) where
    fused_zero : (fused_answer s p).number ≡ 0
    fused_zero = ap (λ (b : Answer). b.number) (sym answer-is)

    taken : (plan_answer s p).number ≡ 0
    taken = fused_plan s p fused_zero

    pub kinds_there : HasKinds s
    kinds_there = (rule_read s (accepted s ((plan_accepted s p).0 taken).0).read).header.kinds

    -- refused inputs
    pub inputs_refused : (inputs d : List ℕ) (row : Row) → number_of row ≡ input_row s inputs (length d)
        → (refusal (number_of row) 0 ≡ run_answer (fused_answer s p) s inputs (length d)) × (d ≡ fused_results s p inputs d)
    unfolding fused_results
    inputs_refused inputs d row q =
        let n : input_row s inputs (length d) ≡ 0 → ⊥ = λ k. some_row row (q ∙ k) in
        let r = inputs_answer (fused_answer s p) s inputs fused_zero (length d) n in
        (ap (λ (k : ℕ). refusal k 0) q ∙ sym r, rw (r, ne_eqb _ _ n))

    -- inputs that no row refuses, run as they are to be
    pub run_done : (inputs d : List ℕ) → 0 ≡ input_row s inputs (length d) → (new : List ℕ) → new ≡ over (file_figures (fused_file s p) inputs) d
        → (answer_in (Ok c) ≡ run_answer (fused_answer s p) s inputs (length d)) × (new ≡ fused_results s p inputs d)
    unfolding fused_results
    run_done inputs d none new f =
        let r = run_answer_lem (fused_answer s p) s inputs fused_zero (length d) (sym none) in
        (answer-is ∙ sym r, f ∙ rw (r, eq-eqb _ _ fused_zero))

    -- the file's bytes
    size_is : c.bytes ≡ length (fused_file s p)
    size_is = ap (λ (b : Answer). b.bytes) answer-is ∙ answer_bytes s p taken

    pub size_inside : c.bytes ≤ most_fused_bytes
    size_inside = omega (arith, size_is, bytes_most s p taken)

    -- file: the bytes z once it is written into them
    module _ (z : List ℕ) (file : List ℕ) (w : file ≡ over (fused_file s p) z) where
      pub part_is : take (c.bytes - 0) (drop 0 file) ≡ fused_file s p
      part_is =
          let n : c.bytes - 0 ≡ length (fused_file s p) = omega (arith, size_is) in
          ap (λ (k : ℕ). take k file) n ∙ ap (take (length (fused_file s p))) w ∙ take_over (fused_file s p) z

      pub part_runnable : Bytes s → (inputs d : List ℕ) → input_row s inputs (length d) ≡ 0
          → (circuit_row (take (c.bytes - 0) (drop 0 file)) ≡ 0) × (length inputs ≡ file_variables (take (c.bytes - 0) (drop 0 file)))
          × (file_variables (take (c.bytes - 0) (drop 0 file)) ≤ length d)
      part_runnable bytes inputs d none =
          let v : file_variables (fused_file s p) ≡ variables s = (fused_found s p taken bytes (reads_earlier s p taken) (output_earlier s p taken)).2 in
          rw part_is (fused_row s p bytes taken, inputs_count s inputs (length d) none ∙ sym v, rw v (inputs_room s inputs (length d) none))

      pub part_run : (inputs d new : List ℕ) → new ≡ over (file_figures (take (c.bytes - 0) (drop 0 file)) inputs) d → new ≡ over (file_figures (fused_file s p) inputs) d
      part_run inputs d new f = f ∙ ap (λ (x : List ℕ). over (file_figures x inputs) d) part_is
