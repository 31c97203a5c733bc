-- An entry that is refused: for its rule's size, for its plan's, or for its rule before its plan.
use Rattle.std.specs.Prelude.{◌<◌, ◌≡◌, length}
use Rattle.std.proofs.Common.{arith, sym, ap, ◌∙◌}
use Rattle.base.specs.Answers.{refusal}
use Rattle.base.specs.declared.Answer.{Answer}
use Rattle.circuit.specs.Whole.{rule_answer}
use Rattle.circuit.specs.WholeLaws as rules
use Rattle.plan.specs.Rows.{plan_answer}
use Rattle.plan.proofs.AcceptedLaws as plans
use Rattle.fused.specs.AnswerLaws.{fused_refused}
use Rattle.report.specs.Packed.{Entry, answer_to}

-- the check's refusal is the entry's
refused_is : (e : Entry) (a : Answer) → plan_answer e.rule e.plan ≡ a → (a.number ≡ 0 → ⊥) → answer_to e ≡ a
refused_is e a h n = fused_refused e.rule e.plan (λ z. n (ap (λ (b : Answer). b.number) (sym h) ∙ z)) ∙ h

pub rule_first : (e : Entry) → ((rule_answer e.rule).number ≡ 0 → ⊥) → answer_to e ≡ rule_answer e.rule
rule_first e h = refused_is e (rule_answer e.rule) (plans.answer_rule e.rule e.plan h) h

pub rule_over : (e : Entry) → 4096 < length e.rule → answer_to e ≡ refusal 1 0
rule_over e h =
    let r = rules.rule_over e.rule h in
    rule_first e (λ z. absurd (omega (arith, ap (λ (a : Answer). a.number) (sym r) ∙ z))) ∙ r

pub plan_over : (e : Entry) → (rule_answer e.rule).number ≡ 0 → 1024 < length e.plan → answer_to e ≡ refusal 20 0
plan_over e h l = refused_is e (refusal 20 0) (plans.plan_over e.rule e.plan h l) (λ z. absurd (omega (arith, z)))
