-- Document 02, C-11: "We want to read a circuit file as well as write one, and run it on given inputs." What reading and running answer, what a run writes, and the part that shows one record.
use Rattle.std.specs.Prelude.{ℕ, List, Bool, ◌&&◌, cond, eqb, ltb, length, take, drop}
use Rattle.base.specs.Buffers.{over}
use Rattle.base.specs.Answers.{success, refusal, then_row}
use Rattle.base.specs.declared.Answer.{Answer}
use Rattle.base.specs.Inputs.{inputs_row}
use Rattle.file.specs.WireKinds.{wire_kind}
use Rattle.file.specs.FileFigures.{size_at, file_variables, wire_count, file_records, file_figures}
use Rattle.file.specs.LaidOut.{record_place}
use Rattle.file.specs.CircuitRows.{circuit_row}

-- reading: "On success reading and running count the file's wires and bytes."
unfoldable pub circuit_answer : List ℕ → Answer
circuit_answer f = cond (eqb (circuit_row f) 0) (success 0 (wire_count f) (length f) 0 0) (refusal (circuit_row f) 0)

-- "The reader shows the bytes of one gate record inside the caller's file, by wire number, without moving them; it shows an empty part for a refused file or a number
-- that is no wire": where the part begins and how long it is (0 and 0 for none), and its bytes
abbrev pub shown : List ℕ → ℕ → Bool
shown f w = eqb (circuit_row f) 0 && ltb w (wire_count f)

unfoldable pub part_start : List ℕ → ℕ → ℕ
part_start f w = cond (shown f w) (record_place f w) 0

unfoldable pub part_length : List ℕ → ℕ → ℕ
part_length f w = cond (shown f w) (size_at f (record_place f w)) 0

unfoldable pub record_part : List ℕ → ℕ → List ℕ
record_part f w = take (part_length f w) (drop (part_start f w) f)

-- running: 60 to 62, then 40 to 42 for the file's variables, each of its input's kind
unfoldable pub circuit_run_answer : List ℕ → List ℕ → ℕ → Answer
circuit_run_answer f inputs room = then_row (circuit_answer f) (inputs_row (file_variables f) (wire_kind (file_records f)) inputs room)

-- the result places after it: the file's figures in the first V, nothing after; a refusal writes to none
unfoldable pub circuit_run_results : List ℕ → List ℕ → List ℕ → List ℕ
circuit_run_results f inputs results = cond (eqb (circuit_run_answer f inputs (length results)).number 0) (over (file_figures f inputs) results) results
