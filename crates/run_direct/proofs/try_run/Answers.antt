use Rattle.std.proofs.Common.{ℕ, ◌≡◌, ap, sym, ◌∙◌, length}
use Rattle.base.specs.Answers.{refusal}
use Rattle.run.specs.Inputs.{input_row}
use Rattle.base.specs.declared.Answer.{Answer}
use Rattle.base.proofs.PassedLaws.{passed_answer, passed_at_0}
use Rattle.rule.specs.FirstStatement.{rule_read}
use Rattle.circuit.specs.Whole.{rule_answer}
use Rattle.circuit.specs.WholeLaws.{accepted}
use Rattle.circuit_build.specs.MakingLaws.{refused_row}
use Rattle.base.specs.RowLaws.{some_row}
use Rattle.run.specs.InputLaws.{inputs_count, inputs_room}
use Rattle.run.specs.DirectLaws.{rule_answer_lem, rule_results, inputs_answer, inputs_results, run_answer_lem, run_results_lem}
use Rattle.run_direct.proofs.try_run.Goals as goal

pub returns-in_err-counts : goal.returns-in_err-counts
returns-in_err-counts c = let s = c.args.rule.now in
    let e = c.in_err-counts.ensures in
    let h = refused_row s _ e in record {
      answer = passed_answer _ _ c.from_residual.ensures.1 (e ∙ sym (rule_answer_lem (rule_answer s) s c.args.inputs.now h (length c.args.results.now)));
      results = sym (rule_results (rule_answer s) s c.args.inputs.now h c.args.results.now);
    }

pub invariant_of-inputs_refusal : goal.invariant_of-inputs_refusal
invariant_of-inputs_refusal c = let s = c.args.rule.now in
    let h = (rule_read s (accepted s (ap (λ (b : Answer). b.number) (sym c.in_ok-counts.ensures))).read).header in
    record { kinds = h.kinds }

pub returns-in_err-inputs_refusal : goal.returns-in_err-inputs_refusal
returns-in_err-inputs_refusal c = let s = c.args.rule.now in let inputs = c.args.inputs.now in let results = c.args.results.now in
    let zero : (rule_answer s).number ≡ 0 = ap (λ (b : Answer). b.number) (sym c.in_ok-counts.ensures) in
    let row = c.in_err-inputs_refusal.ensures in
    let refused : input_row s inputs (length results) ≡ 0 → ⊥ = λ z. some_row c.in_err-inputs_refusal.field-0.0 (row ∙ z) in
    record {
      answer = passed_at_0 _ _ c.from_residual-in_err-inputs_refusal.ensures.1
          (ap (λ (k : ℕ). refusal k 0) row ∙ sym (inputs_answer (rule_answer s) s inputs zero (length results) refused));
      results = sym (inputs_results (rule_answer s) s inputs zero results refused);
    }

pub run_checked-requires : goal.run_checked-requires
run_checked-requires c = let s = c.args.rule.now in let inputs = c.args.inputs.now in let results = c.args.results.now in
    let row = sym c.in_ok-inputs_refusal.ensures in
    let zero : (rule_answer s).number ≡ 0 = ap (λ (b : Answer). b.number) (sym c.in_ok-counts.ensures) in
    ((accepted s zero).read, inputs_count s inputs (length results) row, inputs_room s inputs (length results) row)

pub returns : goal.returns
returns c = let s = c.args.rule.now in let inputs = c.args.inputs.now in let results = c.args.results.now in
    let e = c.in_ok-counts.ensures in
    let row = sym c.in_ok-inputs_refusal.ensures in
    let zero : (rule_answer s).number ≡ 0 = ap (λ (b : Answer). b.number) (sym e) in
    record {
      answer = e ∙ sym (run_answer_lem (rule_answer s) s inputs zero (length results) row);
      results = c.run_checked.ensures ∙ sym (run_results_lem (rule_answer s) s inputs zero results row);
    }
