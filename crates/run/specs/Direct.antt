-- Document 01, "The rule file": "The run gives every variable's figure at its end. A refused rule or refused inputs have no run." Document 02, C-13: for a working variable it writes 0.
-- What a direct run answers and writes, given how its rule was answered.
use Rattle.std.specs.Prelude.{cond, ℕ, List, length, eqb}
use Rattle.base.specs.Buffers.{over}
use Rattle.base.specs.Answers.{then_row}
use Rattle.base.specs.declared.Answer.{Answer}
use Rattle.circuit.specs.Running.{run_writes}
use Rattle.run.specs.Inputs.{input_row}

-- rule before inputs
unfoldable pub run_answer : Answer → List ℕ → List ℕ → ℕ → Answer
run_answer rule s inputs room = then_row rule (input_row s inputs room)

-- the result places after it: a refusal writes to none, success the first V and nothing after
unfoldable pub run_results : Answer → List ℕ → List ℕ → List ℕ → List ℕ
run_results rule s inputs results =
    cond (eqb (run_answer rule s inputs (length results)).number 0) (over (run_writes s inputs) results) results
