-- Inner, for document 01, "The fused circuit file": working out figures record by record. The figures of the wires lie in an array, wire w's at w; beside it one of
-- their kinds: document 02, C-11, asks for it where a pick is summed.
use Rattle.std.specs.Prelude.{ℕ, ◌%◌, ◌<◌, ◌≡◌, cond, ◌⊎◌, List, [], eqb, length, get_or}
use Rattle.base.specs.Lists.{Inside}
use Rattle.base.specs.Buffers.{over}
use Rattle.base.specs.Runs.{run}
use Rattle.base.specs.declared.Kind.{Kind}
use Rattle.file.specs.Records.{Pair, input, reads, record_figure}
use Rattle.file.specs.CircuitFile.{no_wire}
use Rattle.file.specs.WireKinds.{wire_kind}
use Rattle.file.specs.WireFigures.{figures_in, sum_figure, pick_sum}
use Rattle.file.specs.FileFigures.{record_at, records_from, first_record, file_variables, file_records}
use Rattle.file.specs.Limits.{most_wires}
use Rattle.file.specs.LaidOut.{record_place, WholeAt}
use Rattle.file.specs.FormatLaws.{Passed}
use Rattle.file_parts.specs.TableLaws.{HoldsKinds}

-- the figure that an array holds for a wire
abbrev pub held : List ℕ → ℕ → ℕ
held figures w = get_or figures w 0

-- an output that can be given: no wire, or one that the array holds
abbrev pub Output : ℕ → Type 0
Output w = (w ≡ no_wire) ⊎ (w < most_wires)

-- what a run writes for an output, by the figures that an array holds
abbrev pub output_held : List ℕ → ℕ → ℕ
output_held figures w = cond (eqb w no_wire) 0 (held figures w)

-- what a pick gives that is told the kind of its values
abbrev pub pick_by : Kind → (ℕ → ℕ) → List Pair → ℕ
pick_by kind W l = sum_figure W l % figures_in kind

-- the record at a place can be worked out: on v inputs, from the first n wires
pub record Workable (f : List ℕ) (v n at : ℕ) : Type 0 where
  pub whole : WholeAt f at
  pub inputs : (k : Kind) (x : ℕ) → record_at f at ≡ input k x → x < v
  pub earlier : Inside n (reads (record_at f at))

-- the figures of the first i wires, record by record
unfoldable pub figures_of : List ℕ → List ℕ → ℕ → List ℕ
figures_of f inputs i = run 0 (record_figure inputs (pick_sum (wire_kind (file_records f)))) (records_from i f first_record) []

-- loop invariant, amid the records: the first i are worked out over the figures that were there before, and so are their kinds; the next begins at `at`
pub record AmidRecords (f inputs before figures : List ℕ) (kinds : List Kind) (at i : ℕ) : Type 0 where
  pub passed : Passed f
  pub given : length inputs ≡ file_variables f
  pub room : length before ≡ most_wires
  pub place : at ≡ record_place f i
  pub same : figures ≡ over (figures_of f inputs i) before
  pub many : length kinds ≡ most_wires
  pub holds : HoldsKinds (file_records f) kinds i
