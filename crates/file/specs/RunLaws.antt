-- Running a circuit file: it is refused by reading's row or by that of the inputs, and then nothing is written; else the answer is reading's, and the results begin with the outputs' figures.
use Rattle.std.specs.Prelude.{ℕ, ◌≡◌, List, eqb, length}
use Rattle.std.proofs.Common.{sym, ap, ◌∙◌}
use borrow.Author.Tests.{eq-eqb, ne_eqb, eqb-true, eqb-false}
use Rattle.base.specs.Buffers.{over}
use Rattle.base.specs.TestLaws.{split}
use Rattle.base.specs.Answers.{refusal}
use Rattle.base.specs.declared.Answer.{Answer}
use Rattle.file.specs.FileFigures.{file_figures}
use Rattle.file.specs.CircuitRows.{circuit_row}
use Rattle.file.specs.Answers.{circuit_answer, circuit_run_answer, circuit_run_results}
use Rattle.file.specs.ReadLaws.{answer_number}
use Rattle.file.specs.RefusalLaws.{file_inputs_row}

module _ (f inputs : List ℕ) where
  -- a refused file
  pub file_answer : ((circuit_answer f).number ≡ 0 → ⊥) → (room : ℕ) → circuit_run_answer f inputs room ≡ circuit_answer f
  unfolding circuit_run_answer
  file_answer h room = rw (ne_eqb _ _ h)

  module _ (a : (circuit_answer f).number ≡ 0) (room : ℕ) where
    -- refused inputs
    pub inputs_answer : (file_inputs_row f inputs room ≡ 0 → ⊥) → circuit_run_answer f inputs room ≡ refusal (file_inputs_row f inputs room) 0
    unfolding circuit_run_answer
    inputs_answer h = rw (eq-eqb _ _ a, ne_eqb _ _ h)

    -- a run
    pub run_answer_lem : file_inputs_row f inputs room ≡ 0 → circuit_run_answer f inputs room ≡ circuit_answer f
    unfolding circuit_run_answer
    run_answer_lem h = rw (eq-eqb _ _ a, eq-eqb _ _ h)

    -- the number is the row
    pub run_number : (circuit_run_answer f inputs room).number ≡ file_inputs_row f inputs room
    run_number =
        split (eqb (file_inputs_row f inputs room) 0)
        (λ t. let z = eqb-true _ _ t in ap (λ (b : Answer). b.number) (run_answer_lem z) ∙ a ∙ sym z)
        (λ t. ap (λ (b : Answer). b.number) (inputs_answer (eqb-false _ _ t)))

  -- the results by the number
  module _ (results : List ℕ) where
    pub run_results_lem : (circuit_run_answer f inputs (length results)).number ≡ 0 → circuit_run_results f inputs results ≡ over (file_figures f inputs) results
    unfolding circuit_run_results
    run_results_lem h = rw (eq-eqb _ _ h)

    pub refused_results : ((circuit_run_answer f inputs (length results)).number ≡ 0 → ⊥) → circuit_run_results f inputs results ≡ results
    unfolding circuit_run_results
    refused_results h = rw (ne_eqb _ _ h)

-- the steps of the code; a: the answer of reading
module _ (f : List ℕ) (a : Answer) (e : a ≡ circuit_answer f) where
  number : a.number ≡ (circuit_answer f).number
  number = ap (λ (b : Answer). b.number) e

  pub file_taken : a.number ≡ 0 → circuit_row f ≡ 0
  file_taken z = sym (answer_number f) ∙ sym number ∙ z

  -- d: the result places before it
  module _ (inputs d : List ℕ) where
    -- a refusal, by whichever row, writes nothing
    refused : (b : Answer) → b ≡ circuit_run_answer f inputs (length d) → (b.number ≡ 0 → ⊥)
        → (b ≡ circuit_run_answer f inputs (length d)) × (d ≡ circuit_run_results f inputs d)
    refused b q h = (q, sym (refused_results f inputs d (λ z. h (ap (λ (c : Answer). c.number) q ∙ z))))

    pub file_refused : (a.number ≡ 0 → ⊥) → (a ≡ circuit_run_answer f inputs (length d)) × (d ≡ circuit_run_results f inputs d)
    file_refused h = refused a (e ∙ sym (file_answer f inputs (λ z. h (number ∙ z)) (length d))) h

    module _ (zero : a.number ≡ 0) where
      taken : (circuit_answer f).number ≡ 0
      taken = sym number ∙ zero

      pub inputs_refused : (row : ℕ) → row ≡ file_inputs_row f inputs (length d) → (row ≡ 0 → ⊥) → (b : Answer) → b ≡ refusal row 0
          → (b ≡ circuit_run_answer f inputs (length d)) × (d ≡ circuit_run_results f inputs d)
      inputs_refused row q h b r =
          refused b (r ∙ ap (λ (k : ℕ). refusal k 0) q ∙ sym (inputs_answer f inputs taken (length d) (λ z. h (q ∙ z))))
          (λ z. h (ap (λ (c : Answer). c.number) (sym r) ∙ z))

      pub run_done : (row : ℕ) → row ≡ file_inputs_row f inputs (length d) → row ≡ 0 → (new : List ℕ) → new ≡ over (file_figures f inputs) d
          → (a ≡ circuit_run_answer f inputs (length d)) × (new ≡ circuit_run_results f inputs d)
      run_done row q h new r =
          let n : file_inputs_row f inputs (length d) ≡ 0 = sym q ∙ h in
          let whole = run_answer_lem f inputs taken (length d) n in
          (e ∙ sym whole, r ∙ sym (run_results_lem f inputs d (ap (λ (c : Answer). c.number) whole ∙ taken)))
