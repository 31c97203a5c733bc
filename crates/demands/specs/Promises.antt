-- Document 01, demand 3 and "Refusals by place": what the exported operations promise of the very bytes and words that they are lent (crates/linnet/src/lib.rt), and the theorems
-- of Demands.antt and C11.antt say of the definitions. s is a rule's bytes, p a plan's, f a circuit file's; a is an answer, before and after are result places.
use Rattle.std.specs.Prelude.{ℕ, ◌<◌, ◌≡◌, true, false, List, ◌↔◌, length, get_or, take, drop}
use Rattle.base.specs.Numbers.{Bytes}
use Rattle.base.specs.Answers.{success}
use Rattle.base.specs.declared.Answer.{Answer}
use Rattle.base.specs.Inputs.{FiguresFit}
use Rattle.base.specs.BitWords.{Fit}
use Rattle.base.specs.SetsHeld.{sets_in}
use Rattle.rule.specs.Header.{variables, kind_at, working_at}
use Rattle.circuit.specs.Running.{run_rule}
use Rattle.circuit.specs.Whole.{rule_answer}
use Rattle.run.specs.Direct.{run_answer, run_results}
use Rattle.plan.specs.Rows.{plan_answer}
use Rattle.plan.specs.Accepted.{Acceptable}
use Rattle.file.specs.Records.{ReadsEarlier}
use Rattle.file.specs.FileFigures.{file_variables, file_records, file_figures}
use Rattle.fused.specs.FusedCircuit.{records_of, fused_file}
use Rattle.fused.specs.Answers.{write_answer}

-- "It writes the first V results, or the file, and nothing after."
-- The result places after a run of rule s that is answered with 0: for each result variable the direct run's figure at its end, for each working one 0, and nothing after the first V
pub record RunWritten (s inputs before after : List ℕ) : Type 0 where
  pub figures : (x : ℕ) → x < variables s → working_at s x ≡ false → get_or after x 0 ≡ get_or (run_rule s inputs) x 0
  pub working : (x : ℕ) → x < variables s → working_at s x ≡ true → get_or after x 0 ≡ 0
  pub kept : drop (variables s) after ≡ drop (variables s) before
  pub places : length after ≡ length before

-- the result places after a run of circuit file f that is answered with 0: the file's V figures, and nothing after them
pub record FileWritten (f inputs before after : List ℕ) : Type 0 where
  pub figures : take (file_variables f) after ≡ file_figures f inputs
  pub kept : drop (file_variables f) after ≡ drop (file_variables f) before
  pub places : length after ≡ length before

-- "A plan is accepted exactly when it is laid out, names existing gates once, .." (demand 3), of the answer of its check
unfoldable pub AcceptedExactly : List ℕ → List ℕ → Answer → Type 0
AcceptedExactly s p a = (a.number ≡ 0) ↔ (((rule_answer s).number ≡ 0) × Acceptable s p)

-- "Then every record reads only earlier wires,"
unfoldable pub FileReadsEarlier : List ℕ → Type 0
FileReadsEarlier f = ReadsEarlier (file_records f)

-- "and the file's own records .. give every variable the figure of a direct run": worked out record by record, on inputs of their variables' kinds (row 41 refuses others), the
-- bytes f give every result variable (document 02, C-13) of the rule s the figure of its direct run
unfoldable pub FileGives : List ℕ → List ℕ → Type 0
FileGives s f =
    (inputs : List ℕ) → FiguresFit (variables s) (kind_at s) inputs → length inputs ≡ variables s → (x : ℕ) → x < variables s → working_at s x ≡ false
    → get_or (file_figures f inputs) x 0 ≡ get_or (run_rule s inputs) x 0

-- a run that is answered as a direct run of the rule s on the same inputs and places is, in number and place, and leaves what that leaves
pub record AsDirect (s inputs before : List ℕ) (a : Answer) (after : List ℕ) : Type 0 where
  pub number : a.number ≡ (run_answer (rule_answer s) s inputs (length before)).number
  pub place : a.place ≡ (run_answer (rule_answer s) s inputs (length before)).place
  pub results : after ≡ run_results (rule_answer s) s inputs before

-- "and every run of it give every variable the figure of a direct run": a run of the fused circuit of s and p
pub record FusedAsDirect (s p inputs before : List ℕ) (a : Answer) (after : List ℕ) : Type 0 where
  -- with an accepted plan it is as the direct run is,
  pub accepted : (plan_answer s p).number ≡ 0 → AsDirect s inputs before a after
  -- and where it is answered with 0 the answer is that of writing the circuit into a buffer that holds it,
  pub counts : a.number ≡ 0 → (room : ℕ) → (write_answer s p room).number ≡ 0 → a ≡ write_answer s p room
  -- with a refused plan it answers what the plan's check answers, and writes nothing
  pub refused : ((plan_answer s p).number ≡ 0 → ⊥) → (a ≡ plan_answer s p) × (after ≡ before)

-- document 02, C-11: "Every file that our writer makes is read and gives the figures of its rule": a run of f, where f is the file of any rule and accepted plan, is as the direct
-- run of that rule is, and where it is answered with 0 it counts the file's wires and bytes
unfoldable pub OwnAsDirect : (f inputs before : List ℕ) → Answer → List ℕ → Type 0
OwnAsDirect f inputs before a after =
    (s p : List ℕ) → Bytes s → (plan_answer s p).number ≡ 0 → f ≡ fused_file s p
    → AsDirect s inputs before a after × (a.number ≡ 0 → a ≡ success 0 (length (records_of s p)) (length f) 0 0)

-- document 02, C-17: "a precondition is a set of 256 settings", in code four words of 64 bits: sets leave one possible array of 1,024 words, those of 256 gates
unfoldable pub OneArray : List ℕ → Type 0
OneArray sets = (a b : List ℕ) → length a ≡ 1024 → length b ≡ 1024 → Fit a → Fit b → sets_in a ≡ sets → sets_in b ≡ sets → a ≡ b
