-- Laws for document 01, "The fused circuit file": writing (`record_bytes`, `file_bytes`) and reading (`record_at`, `file_records`) are inverse, both ways.
-- What is put together and taken apart is the same: a record by `record_found` (FoundRecords), a file by `file_found` (FileLaws).
-- What is taken apart and put together is the same bytes: a record by `record_back`, records one after another by `records_back`, a file by `file_back`, where the bytes are
-- bytes and laid out (LaidOut). So the files that are laid out are just those that can be written: `file_format`.
use Rattle.std.specs.Prelude.{ℕ, zero, suc, ◌+◌, ◌-◌, ◌<◌, ◌≡◌, ◌↔◌, length, take, get_or}
use Rattle.std.proofs.Math.Path.{refl, sym, ap, ap₂, subst⁻¹}
use Rattle.std.proofs.Common.{subst, ◌∙◌, add-zero, arith, length-append, take-append-drop, take_at}
use mathlib.Core.List.{List, ◌∷◌, ◌++◌, append_assoc, append-nil}
use Rattle.std.proofs.Math.ListN.{drop}
use Rattle.std.proofs.Math.Seq.{drop-length, take-length}
use Rattle.base.specs.Lists.{◌∈◌}
use Rattle.base.specs.Numbers.{bytes_of, Bytes}
use Rattle.base.specs.NumberLaws.{number_small, number_back}
use Rattle.base.specs.ListLaws.{drop_one}
use Rattle.file.specs.Records.{Record, record_in}
use Rattle.file.specs.Versions.{Version}
use Rattle.file.specs.CircuitFile.{mark, wires_bytes, record_bytes, records_bytes, file_bytes}
use Rattle.file.specs.FileFigures.{version_in, record_at, size_at, records_from, place_after, first_record, file_variables, wire_count, file_records, file_outputs}
use Rattle.file.specs.LaidOut.{record_codes, record_place, Bounded, WholeAt, LaidOut}
use Rattle.file.specs.FitRecords.{AllReadBack, FileFits}
use Rattle.file.specs.SizeLaws.{file_size}
use Rattle.file.specs.FilePartLaws.{wires_length, records_length, file_count, record_of}
use Rattle.file.specs.RecordBounds.{known_byte, some_byte}
use Rattle.file.specs.FileLaws.{version_found, variables_found, count_found, file_place, file_record, file_byte, file_inside}
use Rattle.file.specs.BackLaws.{wires_back, wires_small, record_rest, record_fits}

-- a record has the bytes that it is written with, and n records end where theirs do
pub size_is : (f : List ℕ) (at : ℕ) → size_at f at ≡ length (record_bytes (version_in f) (record_at f at))
unfolding size_at
size_is f at = refl

pub place_is : (n : ℕ) (f : List ℕ) (at : ℕ) → place_after n f at ≡ at + length (records_bytes (version_in f) (records_from n f at))
place_is zero f at = omega arith
place_is (suc n) f at =
    place_is n f (at + size_at f at)
    ∙ rw (
      size_is f at,
      length-append (record_bytes (version_in f) (record_at f at))
          (records_bytes (version_in f) (records_from n f (at + length (record_bytes (version_in f) (record_at f at))))),
    ) (omega arith)

module _ (f : List ℕ) (bytes : Bytes f) where
  -- the part of a file that holds a whole record is the bytes of the record that is read there
  pub record_back : (at : ℕ) → WholeAt f at → take (size_at f at) (drop at f) ≡ record_bytes (version_in f) (record_at f at)
  record_back at w =
      ap (take (size_at f at)) (record_rest f bytes at w)
      ∙ take_at (record_bytes (version_in f) (record_at f at)) (drop (at + size_at f at) f) (size_at f at) (sym (size_is f at))

  -- so is the part that holds n whole records, one after another
  records_rest : (n at : ℕ) → ((i : ℕ) → i < n → WholeAt f (place_after i f at)) → drop at f ≡ records_bytes (version_in f) (records_from n f at) ++ drop (place_after n f at) f
  records_rest zero at h = refl
  records_rest (suc n) at h =
      let next = at + size_at f at in
      record_rest f bytes at (h 0 (omega arith))
      ∙ ap (λ (r : List ℕ). record_bytes (version_in f) (record_at f at) ++ r) (records_rest n next (λ i l. h (suc i) (omega arith)))
      ∙ sym (append_assoc (record_bytes (version_in f) (record_at f at)) (records_bytes (version_in f) (records_from n f next)) (drop (place_after n f next) f))

  pub records_back : (n at : ℕ) → ((i : ℕ) → i < n → WholeAt f (place_after i f at))
      → take (place_after n f at - at) (drop at f) ≡ records_bytes (version_in f) (records_from n f at)
  records_back n at h =
      ap (take (place_after n f at - at)) (records_rest n at h)
      ∙ take_at (records_bytes (version_in f) (records_from n f at)) (drop (place_after n f at) f) (place_after n f at - at) (omega (arith, place_is n f at))

  -- a file that is laid out is, byte for byte, its variables, records and output wires put together
  pub file_back : LaidOut f → f ≡ file_bytes (version_in f) (file_variables f) (file_records f) (file_outputs f)
  unfolding file_records file_outputs
  file_back l =
      let end = record_place f (wire_count f) in
      let R = records_from (wire_count f) f first_record in
      sym (take-append-drop 5 f)
      ∙ ap₂ (λ (a b : List ℕ). a ++ b) l.marked
      (drop_one f 5 (file_variables f) (omega (arith, l.headed)) refl
      ∙ ap (λ (r : List ℕ). file_variables f ∷ r)
      (number_back 2 f 6 bytes (omega (arith, l.headed))
      ∙ ap₂ (λ (n : ℕ) (r : List ℕ). bytes_of 2 n ++ r) (sym (records_length (wire_count f) f first_record))
      (records_rest (wire_count f) first_record l.whole
      ∙ ap (λ (r : List ℕ). records_bytes (version_in f) R ++ r)
      (wires_back f bytes (file_variables f) end (omega (arith, l.ended))
      ∙ ap (λ (r : List ℕ). wires_bytes (file_outputs f) ++ r) (ap (λ (k : ℕ). drop k f) l.ended ∙ drop-length f)
      ∙ append-nil (wires_bytes (file_outputs f))))))

  -- and these fit their bytes
  records_fit : (n at : ℕ) → ((i : ℕ) → i < n → WholeAt f (place_after i f at)) → AllReadBack (version_in f) (records_from n f at)
  records_fit zero at h = tt
  records_fit (suc n) at h = (record_fits f bytes at (h 0 (omega arith)), records_fit n (at + size_at f at) (λ i l. h (suc i) (omega arith)))

  pub laid_fits : LaidOut f → FileFits (version_in f) (file_variables f) (file_records f) (file_outputs f)
  unfolding file_records file_outputs
  laid_fits l = record {
    each = records_fit (wire_count f) first_record l.whole;
    few = rw (records_length (wire_count f) f first_record) (number_small 2 f 6 bytes (omega (arith, l.headed)));
    wires = wires_small f bytes (file_variables f) (record_place f (wire_count f)) (omega (arith, l.ended));
    count = wires_length (file_variables f) f (record_place f (wire_count f));
  }

-- what is written is laid out
pub file_laid : (ver : Version) (v : ℕ) (R : List Record) (outputs : List ℕ) → FileFits ver v R outputs → ((i : ℕ) → i < length R → Bounded ver (record_in R i)) → LaidOut (file_bytes ver v R outputs)
file_laid ver v R outputs fits bound =
    let f = file_bytes ver v R outputs in
    let n : wire_count f ≡ length R = count_found ver v R outputs fits.few in
    let e = file_place ver v R outputs fits.each (length R) (omega arith) in
    let t : length (records_bytes ver (take (length R) R)) ≡ length (records_bytes ver R) = ap (λ (Q : List Record). length (records_bytes ver Q)) (take-length R) in
    record {
      headed = omega (arith, file_size ver v R outputs);
      marked = ap mark (sym (version_found ver v R outputs));
      whole = λ i l.
          let k : i < length R = omega (arith, n, l) in
          let b : get_or f (record_place f i) 0 ≡ get_or (record_bytes ver (record_in R i)) 0 0 =
          ap (λ (at : ℕ). get_or f at 0) (sym (add-zero (record_place f i))) ∙ file_byte ver v R outputs fits.each i 0 k (some_byte ver (record_in R i)) in
          record {
            known = subst (λ (c : ℕ). c ∈ record_codes) (sym b) (known_byte ver (record_in R i));
            inside = omega (arith, file_inside ver v R outputs fits.each i k);
            bounded = rw (version_found ver v R outputs, (file_record ver v R outputs fits.each i k).0) (bound i k);
          };
      ended = rw n (omega (arith, e, t, file_size ver v R outputs, fits.count, variables_found ver v R outputs));
    }

-- the records that are read from a file that is laid out keep within their bounds
pub laid_bounded : (f : List ℕ) → LaidOut f → (i : ℕ) → i < length (file_records f) → Bounded (version_in f) (record_in (file_records f) i)
laid_bounded f l i h =
    let k : i < wire_count f = omega (arith, h, file_count f) in
    subst⁻¹ (Bounded (version_in f)) (record_of f i k) (l.whole i k).bounded

-- so bytes are laid out as a circuit file exactly when they are the file, in a version, of records and outputs that fit, the records within their bounds
pub file_format : (f : List ℕ) → Bytes f
    → LaidOut f
    ↔ ((ver : Version) × (v : ℕ) × (R : List Record) × (outputs : List ℕ) × FileFits ver v R outputs × ((i : ℕ) → i < length R → Bounded ver (record_in R i)) × (f ≡ file_bytes ver v R outputs))
file_format f bytes = (
  λ l. (version_in f, file_variables f, file_records f, file_outputs f, laid_fits f bytes l, laid_bounded f l, file_back f bytes l),
  λ w. subst⁻¹ LaidOut w.6 (file_laid w.0 w.1 w.2 w.3 w.4 w.5),
)
