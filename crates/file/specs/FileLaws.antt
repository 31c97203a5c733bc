-- Laws for document 01, "The fused circuit file": "Each record begins where the one before ended." A circuit file put together and taken apart again
-- gives its records and its outputs, and so its figures; where each record lies.
use Rattle.std.specs.Prelude.{◌≡◌, refl, length, take, get_or}
use Rattle.std.proofs.Math.Path.{sym, ap, ap₂}
use Rattle.std.proofs.Common.{◌∙◌, arith, take-append-drop, take_at, get_or-take, get_or-drop}
use mathlib.Core.List.{List, [], ◌∷◌, ◌++◌, map, append_assoc, append-nil}
use Prim.Native.Nat.{ℕ, zero, suc, ◌+◌, ◌*◌, ◌^◌, ◌≤◌, ◌<◌}
use Rattle.std.proofs.Math.ListN.{drop, length-append}
use Rattle.std.proofs.Math.Seq.{take-length, drop_at}
use Rattle.base.specs.Numbers.{bytes_of}
use Rattle.base.specs.NumberLaws.{length_bytes, number_found}
use Rattle.file.specs.Records.{Record, record_in}
use Rattle.file.specs.Versions.{Version}
use Rattle.file.specs.CircuitFile.{mark, wires_bytes, record_bytes, records_bytes, file_bytes}
use Rattle.file.specs.FileFigures.{version_in, wires_at, record_at, size_at, records_from, place_after, first_record, file_variables, wire_count, file_records, file_outputs, output_figure}
use Rattle.file.specs.FileFigures.{file_figures}
use Rattle.file.specs.FitRecords.{Wires, AllReadBack, FileFits}
use Rattle.file.specs.VersionLaws.{version_back}
use Rattle.file.specs.SizeLaws.{size_append, file_size}
use Rattle.file.specs.FilePartLaws.{figures_at}
use Rattle.file.specs.FoundWires.{wires_found}
use Rattle.file.specs.FoundRecords.{record_found}

-- records from the place at of a file x of a version on: before them a, behind them b
module _ (ver : Version) (x : List ℕ) (is : version_in x ≡ ver) where
  Lie : ℕ → List ℕ → List ℕ → List Record → Type 0
  Lie at a b R = AllReadBack ver R × (at ≡ length a) × (x ≡ a ++ (records_bytes ver R ++ b))

  -- the rest lies behind the first, which is found
  first_found : (at : ℕ) (a b : List ℕ) (r : Record) (R : List Record) → Lie at a b (r ∷ R)
      → (record_at x at ≡ r) × (size_at x at ≡ length (record_bytes ver r)) × Lie (at + size_at x at) (a ++ record_bytes ver r) b R
  unfolding Lie
  first_found at a b r R ((h, u), p, e) =
      let f : x ≡ a ++ (record_bytes ver r ++ (records_bytes ver R ++ b)) = e ∙ ap (λ (l : List ℕ). a ++ l) (append_assoc (record_bytes ver r) (records_bytes ver R) b) in
      let g = record_found ver x is at a (records_bytes ver R ++ b) p r h f in
      (g.0, g.1, (u, rw (g.1, length-append, p), f ∙ sym (append_assoc a (record_bytes ver r) (records_bytes ver R ++ b))))

  records_found : (R : List Record) (at : ℕ) (a b : List ℕ) → Lie at a b R → records_from (length R) x at ≡ R
  records_found [] at a b l = refl
  records_found (r ∷ R) at a b l =
      let f = first_found at a b r R l in
      ap₂ (λ (q : Record) (Q : List Record). q ∷ Q) f.0 (records_found R (at + size_at x at) (a ++ record_bytes ver r) b f.2)

  place_found : (i : ℕ) (R : List Record) (at : ℕ) (a b : List ℕ) → Lie at a b R → i ≤ length R → place_after i x at ≡ at + length (records_bytes ver (take i R))
  place_found zero R at a b l h = omega arith
  place_found (suc i) [] at a b l h = absurd (omega arith)
  place_found (suc i) (r ∷ R) at a b l h =
      let f = first_found at a b r R l in
      place_found i R (at + size_at x at) (a ++ record_bytes ver r) b f.2 (omega arith)
      ∙ rw (f.1, length-append) (omega arith)

  record_at_lem : (i : ℕ) (R : List Record) (at : ℕ) (a b : List ℕ) → Lie at a b R → i < length R
      → (record_at x (place_after i x at) ≡ record_in R i) × (size_at x (place_after i x at) ≡ length (record_bytes ver (record_in R i)))
  record_at_lem i [] at a b l h = absurd (omega arith)
  record_at_lem zero (r ∷ R) at a b l h = let f = first_found at a b r R l in (f.0, f.1)
  record_at_lem (suc i) (r ∷ R) at a b l h =
      let f = first_found at a b r R l in
      record_at_lem i R (at + size_at x at) (a ++ record_bytes ver r) b f.2 (omega arith)

  -- the part of the file that holds record i
  part_found : (i : ℕ) (R : List Record) (at : ℕ) (a b : List ℕ) → Lie at a b R → i < length R
      → take (size_at x (place_after i x at)) (drop (place_after i x at) x) ≡ record_bytes ver (record_in R i)
  unfolding Lie
  part_found i [] at a b l h = absurd (omega arith)
  part_found zero (r ∷ R) at a b (f, p, e) h =
      let g = first_found at a b r R (f, p, e) in
      let d : drop at x ≡ record_bytes ver r ++ (records_bytes ver R ++ b) =
      ap (drop at) e ∙ drop_at a ((record_bytes ver r ++ records_bytes ver R) ++ b) at (sym p) ∙ append_assoc (record_bytes ver r) (records_bytes ver R) b in
      rw (d, g.1) (take_at (record_bytes ver r) (records_bytes ver R ++ b) (length (record_bytes ver r)) refl)
  part_found (suc i) (r ∷ R) at a b l h =
      let f = first_found at a b r R l in
      part_found i R (at + size_at x at) (a ++ record_bytes ver r) b f.2 (omega arith)

-- one place further
pub place_next : (i : ℕ) (x : List ℕ) (at : ℕ) → place_after (suc i) x at ≡ place_after i x at + size_at x (place_after i x at)
place_next zero x at = refl
place_next (suc i) x at = place_next i x (at + size_at x at)

-- a file of records that fit
module _ (ver : Version) (v : ℕ) (R : List Record) (outputs : List ℕ) where
  abbrev head : List ℕ
  head = mark ver ++ (v ∷ bytes_of 2 (length R))

  head_size : 8 ≡ length head
  head_size = rw length_bytes

  pub version_found : version_in (file_bytes ver v R outputs) ≡ ver
  version_found = version_back ver

  pub variables_found : file_variables (file_bytes ver v R outputs) ≡ v
  variables_found = refl

  pub count_found : length R < 256 ^ 2 → wire_count (file_bytes ver v R outputs) ≡ length R
  count_found h = number_found 2 (length R) (mark ver ++ (v ∷ [])) (records_bytes ver R ++ wires_bytes outputs) h

  module _ (fit : AllReadBack ver R) where
    lie : Lie ver (file_bytes ver v R outputs) version_found first_record head (wires_bytes outputs) R
    unfolding Lie
    lie = (fit, head_size, refl)

    -- the place of record i, or, for the last i, of the output wires
    pub file_place : (i : ℕ) → i ≤ length R → place_after i (file_bytes ver v R outputs) first_record ≡ first_record + length (records_bytes ver (take i R))
    file_place i h = place_found ver (file_bytes ver v R outputs) version_found i R first_record head (wires_bytes outputs) lie h

    -- what stands there
    pub file_record : (i : ℕ) → i < length R
        → (record_at (file_bytes ver v R outputs) (place_after i (file_bytes ver v R outputs) first_record) ≡ record_in R i)
        × (size_at (file_bytes ver v R outputs) (place_after i (file_bytes ver v R outputs) first_record) ≡ length (record_bytes ver (record_in R i)))
    file_record i h = record_at_lem ver (file_bytes ver v R outputs) version_found i R first_record head (wires_bytes outputs) lie h

    -- and the part of the file that holds it, which lies inside the file
    pub file_part : (i : ℕ) → i < length R
        → take (size_at (file_bytes ver v R outputs) (place_after i (file_bytes ver v R outputs) first_record))
        (drop (place_after i (file_bytes ver v R outputs) first_record) (file_bytes ver v R outputs))
        ≡ record_bytes ver (record_in R i)
    file_part i h = part_found ver (file_bytes ver v R outputs) version_found i R first_record head (wires_bytes outputs) lie h

    -- byte j of it
    pub file_byte : (i j : ℕ) → i < length R → j < length (record_bytes ver (record_in R i))
        → get_or (file_bytes ver v R outputs) (place_after i (file_bytes ver v R outputs) first_record + j) 0 ≡ get_or (record_bytes ver (record_in R i)) j 0
    file_byte i j l k =
        let f = file_bytes ver v R outputs in
        let at = place_after i f first_record in
        sym (get_or-drop at f j 0)
        ∙ sym (get_or-take (size_at f at) (drop at f) j 0 (omega (arith, (file_record i l).1)))
        ∙ ap (λ (x : List ℕ). get_or x j 0) (file_part i l)

    pub file_inside : (i : ℕ) → i < length R
        → place_after i (file_bytes ver v R outputs) first_record + size_at (file_bytes ver v R outputs) (place_after i (file_bytes ver v R outputs) first_record) + 2 * length outputs
        ≤ length (file_bytes ver v R outputs)
    file_inside i h =
        let e : length (records_bytes ver (take (suc i) R)) + length (records_bytes ver (drop (suc i) R)) ≡ length (records_bytes ver R) =
        sym (size_append ver (take (suc i) R) (drop (suc i) R)) ∙ ap (λ (Q : List Record). length (records_bytes ver Q)) (take-append-drop (suc i) R) in
        omega (arith, e, place_next i (file_bytes ver v R outputs) first_record, file_place (suc i) h, file_size ver v R outputs)

    module _ (few : length R < 256 ^ 2) where
      pub file_records_lem : file_records (file_bytes ver v R outputs) ≡ R
      unfolding file_records
      file_records_lem =
          ap (λ (n : ℕ). records_from n (file_bytes ver v R outputs) first_record) (count_found few)
          ∙ records_found ver (file_bytes ver v R outputs) version_found R first_record head (wires_bytes outputs) lie

      pub file_outputs_lem : Wires outputs → length outputs ≡ v → file_outputs (file_bytes ver v R outputs) ≡ outputs
      unfolding file_outputs
      file_outputs_lem w e =
          ap₂ (λ (n m : ℕ). wires_at n (file_bytes ver v R outputs) (place_after m (file_bytes ver v R outputs) first_record)) (sym e) (count_found few)
          ∙ wires_found outputs (file_bytes ver v R outputs) (place_after (length R) (file_bytes ver v R outputs) first_record) (head ++ records_bytes ver R) [] w
          (file_place (length R) (omega arith) ∙ rw (length-append head (records_bytes ver R), take-length R, ← head_size))
          (rw append-nil (sym (append_assoc head (records_bytes ver R) (wires_bytes outputs))))

-- a file put together and taken apart again
pub file_found : (ver : Version) (v : ℕ) (R : List Record) (outputs : List ℕ) → FileFits ver v R outputs
    → (file_records (file_bytes ver v R outputs) ≡ R) × (file_outputs (file_bytes ver v R outputs) ≡ outputs)
    × (file_variables (file_bytes ver v R outputs) ≡ v) × (wire_count (file_bytes ver v R outputs) ≡ length R)
file_found ver v R outputs f = (
  file_records_lem ver v R outputs f.each f.few,
  file_outputs_lem ver v R outputs f.each f.few f.wires f.count,
  variables_found ver v R outputs,
  count_found ver v R outputs f.few,
)

-- so its figures, worked out from its bytes, are those of its records at its outputs
pub file_figures_lem : (ver : Version) (v : ℕ) (R : List Record) (outputs : List ℕ) → FileFits ver v R outputs → (inputs : List ℕ)
    → file_figures (file_bytes ver v R outputs) inputs ≡ map (output_figure inputs R) outputs
file_figures_lem ver v R outputs f inputs =
    let found = file_found ver v R outputs f in
    figures_at (file_bytes ver v R outputs) inputs
    ∙ ap₂ (λ (Q : List Record) (l : List ℕ). map (output_figure inputs Q) l) found.0 found.1
