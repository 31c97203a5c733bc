-- Document 01, "Refusals by place": what writing the fused circuit answers, and what it leaves in the lent buffer.
use Rattle.std.specs.Prelude.{ℕ, List, cond, eqb, leb, length}
use Rattle.base.specs.Buffers.{over}
use Rattle.base.specs.Answers.{success, refusal}
use Rattle.base.specs.declared.Answer.{Answer}
use Rattle.circuit.specs.PlainCircuit.{gate_count, cost_before}
use Rattle.plan.specs.Rows.{plan_answer}
use Rattle.fused.specs.FusedCircuit.{records_of, cost_after, fused_file}

-- the five counts of an accepted plan: gates, wires, bytes of the file, cost before, cost after
unfoldable pub fused_counts : List ℕ → List ℕ → Answer
fused_counts s p = success (gate_count s) (length (records_of s p)) (length (fused_file s p)) (cost_before s) (cost_after s p)

-- with all five counts, where the check of the plan has two; its refusal is taken over whole
unfoldable pub fused_answer : List ℕ → List ℕ → Answer
fused_answer s p = cond (eqb (plan_answer s p).number 0) (fused_counts s p) (plan_answer s p)

-- 50: a buffer of so many bytes is shorter than the file
unfoldable pub write_answer : List ℕ → List ℕ → ℕ → Answer
write_answer s p room = cond (eqb (plan_answer s p).number 0) (cond (leb (length (fused_file s p)) room) (fused_counts s p) (refusal 50 0)) (plan_answer s p)

-- the buffer d after writing: the file and nothing after it touched, on a refusal d itself
unfoldable pub written_over : List ℕ → List ℕ → List ℕ → List ℕ
written_over s p d = cond (eqb (write_answer s p (length d)).number 0) (over (fused_file s p) d) d
