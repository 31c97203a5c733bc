-- Document 02, C-11, "Circuits from the other house": its sentences, each quoted above its theorems. s is a rule's bytes, p a plan's, f a circuit file's.
use Rattle.std.specs.Prelude.{ℕ, ◌<◌, ◌≡◌, List, [], ◌↔◌, length}
use Rattle.base.specs.Inputs.{FiguresFit}
use Rattle.base.specs.Lists.{◌∈◌}
use Rattle.base.specs.Numbers.{Bytes, Words}
use Rattle.base.specs.Codes.{Fits}
use Rattle.base.specs.Answers.{success}
use Rattle.rule.specs.Header.{variables, kind_at}
use Rattle.plan.specs.Rows.{plan_answer}
use Rattle.file.specs.Versions.{Version, written_version}
use Rattle.file.specs.Records.{Pair, Record, pick, guard, record_in, ReadsEarlier, pick_figure, guard_figure}
use Rattle.file.specs.WireKinds.{values_of, wire_kind}
use Rattle.file.specs.WireFigures.{pick_sum, wire_figure}
use Rattle.file.specs.CircuitFile.{record_bytes, file_bytes}
use Rattle.file.specs.FileFigures.{wire_count, file_records}
use Rattle.file.specs.WellFormed as circuits
use Rattle.fused.specs.FusedCircuit.{records_of, fused_file}
use Rattle.fused.specs.PickSums as picks
use Rattle.file.specs.Answers.{circuit_answer, record_part, circuit_run_answer, circuit_run_results}
use Rattle.demands.specs.Promises.{OwnAsDirect}
use Rattle.demands.specs.ForeignLaws as foreign

-- "We want to read a circuit file": which files are read, said without a reader: those that are the bytes, in a version, of a list of records
-- and outputs that is well-formed for it,
pub circuit_format : (f : List ℕ) → Bytes f
    → ((circuit_answer f).number ≡ 0) ↔ ((ver : Version) × (v : ℕ) × (R : List Record) × (outputs : List ℕ) × circuits.WellFormed ver v R outputs × (f ≡ file_bytes ver v R outputs))
circuit_format = foreign.circuit_format

-- and every record of such a file reads only earlier wires.
pub circuit_earlier : (f : List ℕ) → (circuit_answer f).number ≡ 0 → ReadsEarlier (file_records f)
circuit_earlier = foreign.circuit_earlier

-- "The reader shows the bytes of one gate record inside the caller's file, by wire number": those that were written for that wire;
pub record_shown : (ver : Version) (v : ℕ) (R : List Record) (outputs : List ℕ) → circuits.WellFormed ver v R outputs → (n : ℕ) → n < length R
    → record_part (file_bytes ver v R outputs) n ≡ record_bytes ver (record_in R n)
record_shown = foreign.record_shown

pub own_record : (s p : List ℕ) → Bytes s → (plan_answer s p).number ≡ 0 → (n : ℕ) → n < length (records_of s p)
    → record_part (fused_file s p) n ≡ record_bytes written_version (record_in (records_of s p) n)
own_record = foreign.own_record

-- "it shows an empty part for a refused file or a number that is no wire."
pub none_shown : (f : List ℕ) (n : ℕ) → ((circuit_answer f).number ≡ 0 → n < wire_count f → ⊥) → record_part f n ≡ []
none_shown = foreign.none_shown

-- "A pick with several guards at 1 gives the sum of their values modulo 4,294,967,296, or modulo 2 for bits, as in the paper's formula; on our own files nothing changes":
-- whatever the wires hold, so long as each guard has its figure and each value is of its kind, the sum is the value whose guard is 1, or 0 when none is;
pub pick_value : (s p : List ℕ) → (plan_answer s p).number ≡ 0 → Bytes s
    → (W : ℕ → ℕ) → ((i : ℕ) (cs : List ℕ) (t : ℕ) → record_in (records_of s p) i ≡ guard cs t → W i ≡ guard_figure W cs t)
    → (i : ℕ) (l : List Pair) → record_in (records_of s p) i ≡ pick l → ((w : ℕ) → w ∈ values_of l → Fits (wire_kind (records_of s p) w) (W w))
    → pick_sum (wire_kind (records_of s p)) W l ≡ pick_figure W l
pick_value = picks.pick_value

-- so it is for the figures of a run.
pub pick_own : (s p : List ℕ) → (plan_answer s p).number ≡ 0 → Bytes s → (inputs : List ℕ) → FiguresFit (variables s) (kind_at s) inputs
    → (i : ℕ) (l : List Pair) → record_in (records_of s p) i ≡ pick l → wire_figure inputs (records_of s p) i ≡ pick_figure (wire_figure inputs (records_of s p)) l
pick_own = picks.pick_own

-- "Every file that our writer makes is read": it is answered with number 0, its wires and its bytes,
pub own_read : (s p : List ℕ) → Bytes s → (plan_answer s p).number ≡ 0
    → circuit_answer (fused_file s p) ≡ success 0 (length (records_of s p)) (length (fused_file s p)) 0 0
own_read = foreign.own_read

-- "and gives the figures of its rule": its run is refused just where the rule's direct run is, with the same number and place, and writes what that writes; "On success reading and
-- running count the file's wires and bytes."
pub own_run : (f inputs : List ℕ) → Words inputs → (results : List ℕ) → OwnAsDirect f inputs results (circuit_run_answer f inputs (length results)) (circuit_run_results f inputs results)
own_run = foreign.own_run
