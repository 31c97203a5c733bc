-- The demands, sentence by sentence; each sentence is quoted above its theorems. The change requests of document 02: C11.antt and on, a file a request.
-- s is a rule's bytes, p a plan's, f a circuit file's. That every operation ends, with the answers and bytes named here, is what it promises: crates/linnet/src/lib.rt.
use Rattle.std.specs.Prelude.{ℕ, ◌≡◌, List, map, ◌↔◌, length, take, drop}
use Rattle.base.specs.Numbers.{Bytes, Words}
use Rattle.base.specs.Parsing.{parsed, IsRead}
use Rattle.rule.specs.Header.{variables}
use Rattle.rule.specs.Tree.{Block}
use Rattle.rule.specs.Rule.{read_rule}
use Rattle.rule.specs.Format.{rule_bytes, WellFormed}
use Rattle.rule.proofs.RuleFormat as format
use Rattle.circuit.specs.Running.{run_rule}
use Rattle.circuit.specs.Gates.{figure_at}
use Rattle.circuit.specs.PlainCircuit.{gates_of, outputs_of}
use Rattle.base.specs.Settings.{Setting}
use Rattle.circuit_needed.specs.Needed.{Needed, wanted_of}
use Rattle.circuit.specs.Whole.{rule_answer}
use Rattle.run.specs.Direct.{run_answer, run_results}
use Rattle.run.specs.DirectLaws as direct
use Rattle.plan.specs.Rows.{plan_answer}
use Rattle.plan.specs.PlanFile.{groups_in}
use Rattle.plan.specs.Groups.{group_of, Waits, Chain}
use Rattle.plan.specs.SameGroups.{Joined}
use Rattle.plan.proofs.AcceptedLaws as laws
use Rattle.fused.specs.FusedCircuit.{fused_file}
use Rattle.fused.specs.Answers.{fused_answer, write_answer, written_over}
use Rattle.fused.specs.AnswerLaws as writes
use Rattle.fused.specs.FusedFigures as figures
use Rattle.run.specs.FusedRun.{fused_results}
use Rattle.run.specs.ResultLaws as fused-runs
use Rattle.file.specs.Answers.{circuit_answer, circuit_run_answer, circuit_run_results}
use Rattle.file.specs.RunLaws as files-run
use Rattle.demands.specs.Table.{AnsweredBy, AnsweredAfter, RuleAnswered, plan_rows, run_rows, buffer_rows, circuit_rows, file_run_rows}
use Rattle.demands.specs.Promises.{AcceptedExactly, FileReadsEarlier, FileGives, FusedAsDirect}
use Rattle.demands.specs.AnsweredLaws as answers
use Rattle.demands.specs.FaultLaws as faults
use Rattle.demands.specs.FusedRunLaws as runs
use Rattle.demands.specs.ForeignLaws as foreign

-- Demand 1. "Whatever arrives as rule, plan or inputs: the tool ends; it takes it, or refuses with the number and place of document 01's table": row by row, a number is answered exactly
-- when the facts of the rows before it hold and its own fails. Rule, 10 and 11 so, after the one of 1 to 9 that reading byte by byte gives, at its place:
pub rule_answered : (s : List ℕ) → RuleAnswered s (rule_answer s)
rule_answered = answers.rule_answered

-- (which rules rows 1 to 9 take, and as what, without a reader: a file that is the bytes of a well-formed tree, and that tree)
pub rule_format : (s : List ℕ) → Bytes s → IsRead (read_rule s) ↔ ((kinds : List ℕ) × (b : Block) × WellFormed kinds b × (s ≡ rule_bytes kinds b))
rule_format = format.rule_format

pub rule_back : (kinds : List ℕ) (b : Block) → WellFormed kinds b → read_rule (rule_bytes kinds b) ≡ parsed b (length (rule_bytes kinds b))
rule_back = format.rule_back

-- Plan, 20 to 30 and 32, after the rule's:
pub plan_answered : (s p : List ℕ) → AnsweredAfter (rule_answer s) (plan_rows s p) (plan_answer s p)
plan_answered = answers.plan_answered

-- (of 29, two members that some setting needs together; of 30, a group that a chain of waits leads back to)
pub two_needed : (s p : List ℕ) → (rule_answer s).number ≡ 0 → (plan_answer s p).number ≡ 29
    → (g : ℕ) × (h : ℕ) × Joined (groups_in p) g h × (g ≡ h → ⊥) × (σ : Setting) × Needed (gates_of s) (wanted_of s) σ g × Needed (gates_of s) (wanted_of s) σ h
two_needed = faults.two_needed

pub waits_for_itself : (s p : List ℕ) → (rule_answer s).number ≡ 0 → (plan_answer s p).number ≡ 30 → (g : ℕ) × Chain (Waits (gates_of s) (wanted_of s) (group_of (groups_in p))) g g
waits_for_itself = faults.waits_for_itself

-- Inputs, 40 to 42, after the rule's, and after the plan's where its circuit is run:
pub run_answered : (s inputs : List ℕ) (room : ℕ) → AnsweredAfter (rule_answer s) (run_rows s inputs room) (run_answer (rule_answer s) s inputs room)
run_answered = answers.run_answered

pub fused_run_answered : (s p inputs : List ℕ) (room : ℕ) → AnsweredAfter (plan_answer s p) (run_rows s inputs room) (run_answer (fused_answer s p) s inputs room)
fused_run_answered = answers.fused_run_answered

-- Circuit buffer, 50, after the plan's:
pub write_answered : (s p : List ℕ) (room : ℕ) → AnsweredAfter (plan_answer s p) (buffer_rows s p room) (write_answer s p room)
write_answered = answers.write_answered

-- Circuit file (document 02, C-11), 60 to 62, and its inputs after them:
pub circuit_answered : (f : List ℕ) → AnsweredBy (circuit_rows f) 0 (circuit_answer f)
circuit_answered = foreign.circuit_answered

pub circuit_run_answered : (f inputs : List ℕ) (room : ℕ) → AnsweredAfter (circuit_answer f) (file_run_rows f inputs room) (circuit_run_answer f inputs room)
circuit_run_answered = foreign.circuit_run_answered

-- "a refusal writes no byte of a lent buffer."
pub run_untouched : (s inputs results : List ℕ) → ((run_answer (rule_answer s) s inputs (length results)).number ≡ 0 → ⊥)
    → run_results (rule_answer s) s inputs results ≡ results
run_untouched s = direct.refused_results (rule_answer s) s

pub write_untouched : (s p buffer : List ℕ) → ((write_answer s p (length buffer)).number ≡ 0 → ⊥) → written_over s p buffer ≡ buffer
write_untouched = writes.write_untouched

pub fused_run_untouched : (s p inputs results : List ℕ) → ((run_answer (fused_answer s p) s inputs (length results)).number ≡ 0 → ⊥)
    → fused_results s p inputs results ≡ results
fused_run_untouched = fused-runs.fused_untouched

pub circuit_run_untouched : (f inputs results : List ℕ) → ((circuit_run_answer f inputs (length results)).number ≡ 0 → ⊥) → circuit_run_results f inputs results ≡ results
circuit_run_untouched = files-run.refused_results

-- Demand 2. "The plain circuit gives every variable what the rule gives when run statement by statement",
pub plain_figures : (s inputs : List ℕ) → IsRead (read_rule s) → length inputs ≡ variables s
    → map (figure_at inputs (gates_of s)) (outputs_of s) ≡ run_rule s inputs
plain_figures = runs.plain_figures

-- "and every file is, byte for byte, the one the rules fix."
pub file_fixed : (s p buffer : List ℕ) → (write_answer s p (length buffer)).number ≡ 0
    → (take (write_answer s p (length buffer)).bytes (written_over s p buffer) ≡ fused_file s p)
    × (drop (write_answer s p (length buffer)).bytes (written_over s p buffer) ≡ drop (length (fused_file s p)) buffer)
file_fixed = runs.file_written

-- Demand 3. "A plan is accepted exactly when it is laid out, names existing gates once, joins one costly operation a group, joins no two gates that some setting
-- needs together, and leaves no group waiting for itself, conditions of joined gates counted." (Document 02, C-15: and has its groups in order.)
pub plan_accepted : (s p : List ℕ) → AcceptedExactly s p (plan_answer s p)
unfolding AcceptedExactly
plan_accepted = laws.plan_accepted

-- "Then every record reads only earlier wires,"
pub reads_earlier : (s p : List ℕ) → Bytes s → (plan_answer s p).number ≡ 0 → FileReadsEarlier (fused_file s p)
unfolding FileReadsEarlier
reads_earlier s p bytes h = runs.file_earlier s p h bytes

-- "and the file's own records"
pub file_run : (s p : List ℕ) → Bytes s → (plan_answer s p).number ≡ 0 → FileGives s (fused_file s p)
unfolding FileGives
file_run = figures.file_result

-- "and every run of it give every variable the figure of a direct run" (on inputs that are words, as all that arrive are).
pub same_run : (s p : List ℕ) → Bytes s → (inputs : List ℕ) → Words inputs → (results : List ℕ)
    → FusedAsDirect s p inputs results (run_answer (fused_answer s p) s inputs (length results)) (fused_results s p inputs results)
same_run = runs.same_run
