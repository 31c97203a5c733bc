-- Document 01, "The fused circuit file": "the results that running the fused circuit writes", and "Refusals by place": rule before plan, plan before inputs.
-- What a fused run answers is `run_answer` of a direct run, over the answer of the accepted plan with its five counts (`fused_answer`).
use Rattle.std.specs.Prelude.{cond, ℕ, List, eqb, length}
use Rattle.base.specs.Buffers.{over}
use Rattle.run.specs.Direct.{run_answer}
use Rattle.fused.specs.FusedCircuit.{fused_file}
use Rattle.file.specs.FileFigures.{file_figures}
use Rattle.fused.specs.Answers.{fused_answer}

-- the result places after it: the figures of the file's own bytes in the first V, nothing after; a refusal writes to none
unfoldable pub fused_results : List ℕ → List ℕ → List ℕ → List ℕ → List ℕ
fused_results s p inputs results =
    cond (eqb (run_answer (fused_answer s p) s inputs (length results)).number 0) (over (file_figures (fused_file s p) inputs) results) results
