-- Document 02, C-13, "Working figures are not results": its sentences, each quoted above its theorems. s is a rule's bytes, p a plan's.
use Rattle.std.specs.Prelude.{ℕ, ◌+◌, ◌≤◌, ◌<◌, ◌≡◌, true, false, List, ◌↔◌, length, get_or, set, take}
use Rattle.base.specs.Inputs.{FiguresFit}
use Rattle.base.specs.declared.Kind.TheVariants as kind
use Rattle.base.specs.Lists.{◌∈◌}
use Rattle.base.specs.Numbers.{Bytes}
use Rattle.base.specs.Answers.{refusal}
use Rattle.rule.specs.Header.{mark, variables, kind_at, working_at}
use Rattle.rule.specs.HeaderLaws as kinds
use Rattle.rule.specs.Tree.{Block}
use Rattle.rule.specs.Format.{rule_bytes, WellFormed}
use Rattle.rule.specs.OnlyWorking.{OnlyWorking, MoreWorking}
use Rattle.circuit.specs.Running.{run_rule, run_writes}
use Rattle.circuit.specs.WrittenLaws as written
use Rattle.circuit.specs.PlainCircuit.{gates_of, outputs_of}
use Rattle.base.specs.Settings.{Setting}
use Rattle.circuit_needed.specs.Needed.{Needed, wanted_of}
use Rattle.circuit.specs.Whole.{rule_answer}
use Rattle.plan.specs.Rows.{plan_answer}
use Rattle.file.specs.Versions.{Version}
use Rattle.file.specs.Records.{Record}
use Rattle.file.specs.CircuitFile.{file_bytes, no_wire}
use Rattle.file.specs.FileFigures.{wire_count, file_outputs, file_figures}
use Rattle.file.specs.WellFormed as circuits
use Rattle.fused.specs.FusedCircuit.{fused_file}
use Rattle.fused.specs.FusedFigures as figures
use Rattle.file.specs.Answers.{circuit_answer}
use Rattle.demands.specs.WorkingLaws as working
use Rattle.demands.specs.ReadingLaws as rules

-- "From now on kind 02 is a working word and 03 a working bit": what the kind byte of variable x says, 02 and 03 as here, 00 and 01 as before.
pub working_word : (s : List ℕ) (x : ℕ) → get_or s (6 + x) 0 ≡ 0x02 → (kind_at s x ≡ kind.Word) × (working_at s x ≡ true)
working_word = kinds.working_word_said

pub working_bit : (s : List ℕ) (x : ℕ) → get_or s (6 + x) 0 ≡ 0x03 → (kind_at s x ≡ kind.Bit) × (working_at s x ≡ true)
working_bit = kinds.working_bit_said

pub result_word : (s : List ℕ) (x : ℕ) → get_or s (6 + x) 0 ≡ 0x00 → (kind_at s x ≡ kind.Word) × (working_at s x ≡ false)
result_word = kinds.word_said

pub result_bit : (s : List ℕ) (x : ℕ) → get_or s (6 + x) 0 ≡ 0x01 → (kind_at s x ≡ kind.Bit) × (working_at s x ≡ false)
result_bit = kinds.bit_said

-- "Only the other variables' last gates are needed from the start": what is wanted are the outputs of the variables that do not work,
pub wanted_are : (s : List ℕ) (g : ℕ) → (g ∈ wanted_of s) ↔ ((x : ℕ) × (x < variables s) × (working_at s x ≡ false) × (g ≡ get_or (outputs_of s) x 0))
wanted_are = working.wanted_are

-- so that where more variables work no gate is needed that was not, under any setting,
pub fewer_needed : (kinds other : List ℕ) → MoreWorking kinds other → (b : Block) → WellFormed kinds b → (σ : Setting) (g : ℕ)
    → Needed (gates_of (rule_bytes other b)) (wanted_of (rule_bytes other b)) σ g → Needed (gates_of (rule_bytes kinds b)) (wanted_of (rule_bytes kinds b)) σ g
fewer_needed kinds other m b w = working.fewer_needed kinds other m.only b w m.more

-- and where all work nothing is needed.
pub nothing_needed : (s : List ℕ) → ((x : ℕ) → x < variables s → working_at s x ≡ true) → (σ : Setting) (g : ℕ) → Needed (gates_of s) (wanted_of s) σ g → ⊥
nothing_needed = working.nothing_needed

-- (A rule is answered the same whichever of its variables work: so it is taken where all of them do.)
pub working_answer : (kinds other : List ℕ) → OnlyWorking kinds other → (b : Block) → WellFormed kinds b → rule_answer (rule_bytes kinds b) ≡ rule_answer (rule_bytes other b)
working_answer = working.same_answer

-- "In the circuit file a working variable's output is FF FF, which names no wire" (and a result variable's is a wire),
pub working_output : (s p : List ℕ) → Bytes s → (plan_answer s p).number ≡ 0 → (x : ℕ) → x < variables s → working_at s x ≡ true
    → get_or (file_outputs (fused_file s p)) x 0 ≡ no_wire
working_output = working.output_working

pub result_output : (s p : List ℕ) → Bytes s → (plan_answer s p).number ≡ 0 → (x : ℕ) → x < variables s → working_at s x ≡ false
    → get_or (file_outputs (fused_file s p)) x 0 < wire_count (fused_file s p)
result_output = working.output_result

-- "and running writes 0 for it." So the file's figures are all that a run writes:
pub working_file : (s p : List ℕ) → Bytes s → (plan_answer s p).number ≡ 0 → (inputs : List ℕ) → FiguresFit (variables s) (kind_at s) inputs
    → length inputs ≡ variables s → file_figures (fused_file s p) inputs ≡ run_writes s inputs
working_file = figures.file_run

-- "a direct run keeps working figures to its end but writes 0 for them too", and for a result variable its figure at the end:
pub working_written : (s inputs : List ℕ) (x : ℕ) → x < variables s → working_at s x ≡ true → get_or (run_writes s inputs) x 0 ≡ 0
working_written = written.writes_working

pub result_written : (s inputs : List ℕ) (x : ℕ) → x < variables s → working_at s x ≡ false → get_or (run_writes s inputs) x 0 ≡ get_or (run_rule s inputs) x 0
result_written = written.writes_result

-- "Refusal 3 now begins above kind 03": a rule of 6 to 4,096 bytes, its mark and version right and V in 1 to 32, is 3 at the kind byte of variable x, where it has that byte
-- and those before it are at most 03, exactly when that byte is above 03;
pub kind_refused : (s : List ℕ) → 6 ≤ length s → length s ≤ 4096 → take 5 s ≡ mark → 1 ≤ variables s → variables s ≤ 32
    → (x : ℕ) → x < variables s → 6 + x < length s → ((y : ℕ) → y < x → get_or s (6 + y) 0 ≤ 0x03) → (rule_answer s ≡ refusal 3 (6 + x)) ↔ (0x03 < get_or s (6 + x) 0)
kind_refused = rules.kind_refused

-- "and the circuit reader admits FF FF as an output": any output of any file that is read may be made FF FF; running it then writes 0 there, and else what it wrote.
pub no_wire_read : (ver : Version) (v : ℕ) (R : List Record) (outputs : List ℕ) → circuits.WellFormed ver v R outputs → (x : ℕ)
    → (circuit_answer (file_bytes ver v R (set outputs x no_wire))).number ≡ 0
no_wire_read = working.no_wire_read

pub no_wire_run : (ver : Version) (v : ℕ) (R : List Record) (outputs : List ℕ) → circuits.WellFormed ver v R outputs → (x : ℕ) (inputs : List ℕ)
    → file_figures (file_bytes ver v R (set outputs x no_wire)) inputs ≡ set (file_figures (file_bytes ver v R outputs) inputs) x 0
no_wire_run = working.no_wire_run
