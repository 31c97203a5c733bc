-- A circuit file's wires, records and figures, taken from its bytes one after another: how many there are, one more, and the one at a place. A run of the file cites these.
use Rattle.std.specs.Prelude.{ℕ, zero, suc, ◌+◌, ◌*◌, ◌<◌, ◌≡◌, refl, List, [], ◌∷◌, ◌++◌, map, cond, eqb, length, get_or}
use Rattle.std.proofs.Common.{ap, subst, ◌∙◌, arith}
use Rattle.std.proofs.lemmas.List.{length-map}
use Rattle.base.specs.Lists.{◌∈◌}
use Rattle.base.specs.MemberLaws.{get_or_in}
use Rattle.base.specs.Numbers.{number_at}
use Rattle.base.specs.Runs.{run}
use Rattle.file.specs.Records.{Record, word, record_in, record_figure}
use Rattle.file.specs.WireKinds.{wire_kind}
use Rattle.file.specs.WireFigures.{pick_sum, wire_figure}
use Rattle.file.specs.CircuitFile.{no_wire}
use Rattle.file.specs.FileFigures.{wires_at, pairs_at, record_at, size_at, records_from, place_after, first_record, file_variables, wire_count, file_records, file_outputs, output_figure, file_figures}

-- one wire more
pub wires_next : (n : ℕ) (f : List ℕ) (at : ℕ) → wires_at (suc n) f at ≡ wires_at n f at ++ (number_at 2 f (at + 2 * n) ∷ [])
wires_next zero f at = let e : at ≡ at + 2 * 0 = omega arith in ap (λ (k : ℕ). number_at 2 f k ∷ []) e
wires_next (suc n) f at =
    let e : at + 2 + 2 * n ≡ at + 2 * suc n = omega arith in
    ap (λ (l : List ℕ). number_at 2 f at ∷ l) (wires_next n f (at + 2) ∙ ap (λ (k : ℕ). wires_at n f (at + 2) ++ (number_at 2 f k ∷ [])) e)

-- n wires, and each of them is as all of them are
pub wires_length : (n : ℕ) (f : List ℕ) (at : ℕ) → length (wires_at n f at) ≡ n
wires_length zero f at = refl
wires_length (suc n) f at = ap suc (wires_length n f (at + 2))

pub pairs_length : (n : ℕ) (f : List ℕ) (at : ℕ) → length (pairs_at n f at) ≡ n
pairs_length zero f at = refl
pairs_length (suc n) f at = ap suc (pairs_length n f (at + 4))

wires_at_lem : (n : ℕ) (f : List ℕ) (at k : ℕ) → k < n → get_or (wires_at n f at) k 0 ≡ number_at 2 f (at + 2 * k)
wires_at_lem zero f at k h = absurd (omega arith)
wires_at_lem (suc n) f at zero h = let e : at ≡ at + 2 * 0 = omega arith in ap (number_at 2 f) e
wires_at_lem (suc n) f at (suc k) h =
    let e : at + 2 + 2 * k ≡ at + 2 * suc k = omega arith in wires_at_lem n f (at + 2) k (omega arith) ∙ ap (number_at 2 f) e

pub wire_of_lem : (P : ℕ → Type 0) (n : ℕ) (f : List ℕ) (at i : ℕ) → ((w : ℕ) → w ∈ wires_at n f at → P w) → i < n → P (number_at 2 f (at + 2 * i))
wire_of_lem P n f at i w h = subst P (wires_at_lem n f at i h) (w _ (get_or_in (wires_at n f at) i (rw (wires_length n f at) h)))

-- one record more
pub records_next : (n : ℕ) (f : List ℕ) (at : ℕ) → records_from (suc n) f at ≡ records_from n f at ++ (record_at f (place_after n f at) ∷ [])
records_next zero f at = refl
records_next (suc n) f at = ap (λ (l : List Record). record_at f at ∷ l) (records_next n f (at + size_at f at))

-- n records, and the one at place k
pub records_length : (n : ℕ) (f : List ℕ) (at : ℕ) → length (records_from n f at) ≡ n
records_length zero f at = refl
records_length (suc n) f at = ap suc (records_length n f (at + size_at f at))

records_at : (n : ℕ) (f : List ℕ) (at k : ℕ) (d : Record) → k < n → get_or (records_from n f at) k d ≡ record_at f (place_after k f at)
records_at zero f at k d h = absurd (omega arith)
records_at (suc n) f at zero d h = refl
records_at (suc n) f at (suc k) d h = records_at n f (at + size_at f at) k d (omega arith)

-- a file has as many records as it counts
pub file_count : (f : List ℕ) → length (file_records f) ≡ wire_count f
unfolding file_records
file_count f = records_length (wire_count f) f first_record

-- record i of a file, its output wires, and its figures: at each output wire, what a run of its records gives there, 0 where there is none
pub record_of : (f : List ℕ) (i : ℕ) → i < wire_count f → record_in (file_records f) i ≡ record_at f (place_after i f first_record)
unfolding file_records
record_of f i h = records_at (wire_count f) f first_record i (word 0) h

pub outputs_of_lem : (f : List ℕ) → file_outputs f ≡ wires_at (file_variables f) f (place_after (wire_count f) f first_record)
unfolding file_outputs
outputs_of_lem f = refl

pub figures_at : (f inputs : List ℕ) → file_figures f inputs ≡ map (output_figure inputs (file_records f)) (file_outputs f)
unfolding file_figures
figures_at f inputs = refl

-- a figure for each variable
pub figures_count : (f inputs : List ℕ) → length (file_figures f inputs) ≡ file_variables f
unfolding file_figures file_outputs
figures_count f inputs = length-map (file_outputs f) _ ∙ wires_length (file_variables f) f _

pub figures_of_lem : (f inputs : List ℕ)
    → file_figures f inputs
    ≡ map (λ w. cond (eqb w no_wire) 0 (get_or (run 0 (record_figure inputs (pick_sum (wire_kind (file_records f)))) (records_from (wire_count f) f first_record) []) w 0)) (file_outputs f)
unfolding file_figures wire_figure file_records output_figure pick_sum
figures_of_lem f inputs = refl
