-- Document 01, "Refusals by place": a rule, read whole; and what reading a rule answers.
use Rattle.std.specs.Prelude.{cond, ℕ, List, length, leb}
use Rattle.base.specs.Answers.{success, refusal}
use Rattle.base.specs.Parsing.{step_of}
use Rattle.base.specs.declared.Answer.{Answer}
use Rattle.base.specs.Parsing.{Step}
use Rattle.base.specs.Parsing.{Past, Refused}
use Rattle.rule.specs.Rule.{read_rule}
use Rattle.circuit.specs.Limits.{most_gates, most_conditions}
use Rattle.circuit.specs.Gates.{Gates, costs, conditions}
use Rattle.circuit.specs.PlainCircuit.{gates_of}

-- 10: over so many gates; 11: over so many conditions; both lie at the file's length. Success counts gates and cost before
unfoldable pub whole_within : ℕ → ℕ → Gates → ℕ → Answer
whole_within gates conds C size =
    cond (leb (length C) gates)
    (cond (leb (length (conditions C)) conds)
    (success (length C) 0 0 (costs C) 0)
    (refusal 11 size))
    (refusal 10 size)

-- the rows byte by byte come first
abbrev pub after_bytes : Step → Answer → Answer
after_bytes (Past next) whole = whole
after_bytes (Refused number place) whole = refusal number place

-- what reading a rule answers, within limits on gates and conditions
abbrev pub answer_within : ℕ → ℕ → List ℕ → Answer
answer_within gates conds s = after_bytes (step_of (read_rule s)) (whole_within gates conds (gates_of s) (length s))

unfoldable pub rule_answer : List ℕ → Answer
rule_answer s = answer_within most_gates most_conditions s
