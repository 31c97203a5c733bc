-- A direct run is refused as the rule is, or by the row of the inputs, and then nothing is written; else the answer is the rule's, and the results begin with what the run writes.
use Rattle.std.specs.Prelude.{ℕ, ◌≡◌, List, eqb, length}
use Rattle.std.proofs.Common.{sym, ap, ◌∙◌}
use borrow.Author.Tests.{eq-eqb, ne_eqb, eqb-true, eqb-false}
use Rattle.circuit.specs.Running.{run_writes}
use Rattle.base.specs.Buffers.{over}
use Rattle.base.specs.TestLaws.{split}
use Rattle.base.specs.Answers.{refusal}
use Rattle.base.specs.declared.Answer.{Answer}
use Rattle.run.specs.Inputs.{input_row}
use Rattle.run.specs.Direct.{run_answer, run_results}

module _ (rule : Answer) (s inputs : List ℕ) where
  -- a refused rule
  module _ (h : rule.number ≡ 0 → ⊥) where
    pub rule_answer_lem : (room : ℕ) → run_answer rule s inputs room ≡ rule
    unfolding run_answer
    rule_answer_lem room = rw (ne_eqb _ _ h)

    pub rule_results : (results : List ℕ) → run_results rule s inputs results ≡ results
    unfolding run_results
    rule_results results = rw (rule_answer_lem (length results), ne_eqb _ _ h)

  -- refused inputs
  module _ (a : rule.number ≡ 0) where
    pub inputs_answer : (room : ℕ) → (input_row s inputs room ≡ 0 → ⊥) → run_answer rule s inputs room ≡ refusal (input_row s inputs room) 0
    unfolding run_answer
    inputs_answer room h = rw (eq-eqb _ _ a, ne_eqb _ _ h)

    pub inputs_results : (results : List ℕ) → (input_row s inputs (length results) ≡ 0 → ⊥) → run_results rule s inputs results ≡ results
    unfolding run_results
    inputs_results results h = rw (inputs_answer (length results) h, ne_eqb _ _ h)

    -- a run
    pub run_answer_lem : (room : ℕ) → input_row s inputs room ≡ 0 → run_answer rule s inputs room ≡ rule
    unfolding run_answer
    run_answer_lem room h = rw (eq-eqb _ _ a, eq-eqb _ _ h)

    pub run_results_lem : (results : List ℕ) → input_row s inputs (length results) ≡ 0 → run_results rule s inputs results ≡ over (run_writes s inputs) results
    unfolding run_results
    run_results_lem results h = rw (run_answer_lem (length results) h, eq-eqb _ _ a)

    -- the number is the row
    pub run_number : (room : ℕ) → (run_answer rule s inputs room).number ≡ input_row s inputs room
    run_number room =
        split (eqb (input_row s inputs room) 0)
        (λ t. let z = eqb-true _ _ t in ap (λ (b : Answer). b.number) (run_answer_lem room z) ∙ a ∙ sym z)
        (λ t. ap (λ (b : Answer). b.number) (inputs_answer room (eqb-false _ _ t)))

  -- an answer of number 0: the rule is accepted, and no row refuses the inputs
  module _ (room : ℕ) (h : (run_answer rule s inputs room).number ≡ 0) where
    pub answered_rule : rule.number ≡ 0
    answered_rule = split (eqb rule.number 0) (λ t. eqb-true _ _ t) (λ t. ap (λ (a : Answer). a.number) (sym (rule_answer_lem (eqb-false _ _ t) room)) ∙ h)

    pub answered_inputs : input_row s inputs room ≡ 0
    answered_inputs =
        split (eqb (input_row s inputs room) 0) (λ t. eqb-true _ _ t)
        (λ t. ap (λ (a : Answer). a.number) (sym (inputs_answer answered_rule room (eqb-false _ _ t))) ∙ h)

  -- the results by that number
  pub answered_results : (results : List ℕ) → (run_answer rule s inputs (length results)).number ≡ 0 → run_results rule s inputs results ≡ over (run_writes s inputs) results
  answered_results results h = run_results_lem (answered_rule (length results) h) results (answered_inputs (length results) h)

  pub refused_results : (results : List ℕ) → ((run_answer rule s inputs (length results)).number ≡ 0 → ⊥) → run_results rule s inputs results ≡ results
  unfolding run_results
  refused_results results h = rw (ne_eqb _ _ h)
