-- The results of a fused run: they are those of a direct run that is answered so.
use Rattle.std.specs.Prelude.{ℕ, ◌≡◌, List, eqb, length}
use Rattle.std.proofs.Common.{sym, ap, ◌∙◌, arith, ne_eqb, eqb-true}
use Rattle.std.proofs.lemmas.Bool.{eqb-false}
use Rattle.base.specs.Inputs.{FiguresFit}
use Rattle.base.specs.Buffers.{over}
use Rattle.base.specs.TestLaws.{split}
use Rattle.base.specs.Numbers.{Bytes, Words}
use Rattle.rule.specs.Header.{variables, kind_at}
use Rattle.plan.specs.Rows.{plan_answer}
use Rattle.fused.specs.Answers.{fused_answer}
use Rattle.fused.specs.AnswerLaws.{fused_plan}
use Rattle.fused.specs.FusedFigures.{file_run}
use Rattle.run.specs.InputLaws.{inputs_count, inputs_fit}
use Rattle.run.specs.Direct.{run_answer, run_results}
use Rattle.run.specs.DirectLaws.{answered_rule, answered_inputs, answered_results, refused_results}
use Rattle.run.specs.FusedRun.{fused_results}

-- a run that is answered with number 0 has an accepted plan and V inputs, each of its variable's kind
module _ (s p inputs : List ℕ) (room : ℕ) (h : (run_answer (fused_answer s p) s inputs room).number ≡ 0) where
  taken_plan : (plan_answer s p).number ≡ 0
  taken_plan = fused_plan s p (answered_rule (fused_answer s p) s inputs room h)

  taken_inputs : length inputs ≡ variables s
  taken_inputs = inputs_count s inputs room (answered_inputs (fused_answer s p) s inputs room h)

  taken_kinds : Words inputs → FiguresFit (variables s) (kind_at s) inputs
  taken_kinds words = inputs_fit s inputs room (answered_inputs (fused_answer s p) s inputs room h) (λ x l. words x (omega (arith, l, taken_inputs)))

-- a refused run writes to no result place
pub fused_untouched : (s p inputs results : List ℕ) → ((run_answer (fused_answer s p) s inputs (length results)).number ≡ 0 → ⊥) → fused_results s p inputs results ≡ results
unfolding fused_results
fused_untouched s p inputs results h = rw (ne_eqb _ _ h)

-- the results of a fused run, on inputs that are words, are those of a direct run that is answered so
pub fused_results_lem : (s p : List ℕ) → Bytes s → (inputs : List ℕ) → Words inputs → (results : List ℕ)
    → fused_results s p inputs results ≡ run_results (fused_answer s p) s inputs results
unfolding fused_results
fused_results_lem s p bytes inputs words results =
    split (eqb (run_answer (fused_answer s p) s inputs (length results)).number 0)
    (λ t.
    let zero = eqb-true _ _ t in
    let n = length results in
    let e = file_run s p bytes (taken_plan s p inputs n zero) inputs (taken_kinds s p inputs n zero words) (taken_inputs s p inputs n zero) in
    rw t (ap (λ (f : List ℕ). over f results) e ∙ sym (answered_results (fused_answer s p) s inputs results zero)))
    (λ t. let n = eqb-false _ _ t in fused_untouched s p inputs results n ∙ sym (refused_results (fused_answer s p) s inputs results n))
