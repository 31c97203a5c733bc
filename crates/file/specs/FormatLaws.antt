-- Laws for document 02, C-11: a file passes the rows 60 to 62 exactly when it is the bytes, in one of the two versions, of a list of records and outputs that is
-- well-formed for that version.
use Rattle.std.specs.Prelude.{ℕ, ◌≤◌, ◌≡◌, refl, List, Bool, true, false, cond, ◌↔◌, length}
use Rattle.std.proofs.Common.{subst, arith}
use Rattle.std.proofs.Math.Path.{subst⁻¹}
use Rattle.base.specs.Numbers.{Bytes}
use Rattle.file.specs.Records.{Record}
use Rattle.file.specs.Versions.{Version}
use Rattle.file.specs.CircuitFile.{file_bytes}
use Rattle.file.specs.FileFigures.{version_in, file_variables, file_records, file_outputs}
use Rattle.file.specs.Limits.{most_file_bytes}
use Rattle.file.specs.FilePartLaws.{file_count}
use Rattle.file.specs.FileLaws.{file_found}
use Rattle.file.specs.InverseLaws.{file_back, laid_fits, laid_bounded, file_laid}
use Rattle.file.specs.LaidOut.{LaidOut}
use Rattle.file.specs.CircuitRows.{headed, laid, standing, circuit_row}
use Rattle.file.specs.WellFormed.{Standing, WellFormed}
use Rattle.file.specs.RowLaws.{Headed, headed_right, laid_right}
use Rattle.file.specs.StandingLaws.{standing_right}

-- no row refuses the file: its head, its layout and what stands in it
pub record Passed (f : List ℕ) : Type 0 where
  pub head : Headed f
  pub layout : LaidOut f
  pub stand : Standing (file_variables f) (file_records f) (file_outputs f)

rows : (a b c : Bool) → ◌≡◌ {A = ℕ} (cond a (cond b (cond c 0 62) 61) 60) 0 → (a ≡ true) × (b ≡ true) × (c ≡ true)
rows true true true h = (refl, refl, refl)
rows true true false h = absurd (omega arith)
rows true false c h = absurd (omega arith)
rows false b c h = absurd (omega arith)

pub row_passed : (f : List ℕ) → circuit_row f ≡ 0 → Passed f
unfolding circuit_row
row_passed f h =
    let (a, b, c) = rows (headed f) (laid f) (standing f) h in
    let head = (headed_right f).0 a in
    record { head = head; layout = (laid_right f head).0 b; stand = (standing_right f).0 c }

pub passed_row : (f : List ℕ) → Passed f → circuit_row f ≡ 0
unfolding circuit_row
passed_row f p = rw ((headed_right f).1 p.head, (laid_right f p.head).1 p.layout, (standing_right f).1 p.stand)

-- the row by its three tests, in their order
pub row_60 : (f : List ℕ) → headed f ≡ false → circuit_row f ≡ 60
unfolding circuit_row
row_60 f a = rw a

pub row_61 : (f : List ℕ) → headed f ≡ true → laid f ≡ false → circuit_row f ≡ 61
unfolding circuit_row
row_61 f a b = rw (a, b)

pub row_62 : (f : List ℕ) → headed f ≡ true → laid f ≡ true → standing f ≡ false → circuit_row f ≡ 62
unfolding circuit_row
row_62 f a b c = rw (a, b, c)

-- the file of a well-formed circuit passes
pub well_row : (ver : Version) (v : ℕ) (R : List Record) (outputs : List ℕ) → WellFormed ver v R outputs → circuit_row (file_bytes ver v R outputs) ≡ 0
well_row ver v R outputs w =
    let f = file_bytes ver v R outputs in
    let (records, outs, count, wires) = file_found ver v R outputs w.fits in
    let layout = file_laid ver v R outputs w.fits w.bounded in
    passed_row f (record {
      head = record {
        long = layout.headed;
        short = w.size;
        marked = layout.marked;
        some = w.some;
        few = w.few;
        wires = omega (arith, wires, w.wires);
      };
      layout = layout;
      stand = rw (count, records, outs) w.standing;
    })

-- what passes is the file of a well-formed circuit: the one that is read from it
pub row_well : (f : List ℕ) → Bytes f → circuit_row f ≡ 0 → WellFormed (version_in f) (file_variables f) (file_records f) (file_outputs f)
row_well f bytes h =
    let p = row_passed f h in
    record {
      some = p.head.some;
      few = p.head.few;
      wires = omega (arith, file_count f, p.head.wires);
      size = subst (λ (x : List ℕ). length x ≤ most_file_bytes) (file_back f bytes p.layout) p.head.short;
      fits = laid_fits f bytes p.layout;
      bounded = laid_bounded f p.layout;
      standing = p.stand;
    }

-- so a file passes exactly when it is the bytes, in a version, of a circuit that is well-formed for that version
pub circuit_format : (f : List ℕ) → Bytes f
    → (circuit_row f ≡ 0) ↔ ((ver : Version) × (v : ℕ) × (R : List Record) × (outputs : List ℕ) × WellFormed ver v R outputs × (f ≡ file_bytes ver v R outputs))
circuit_format f bytes = (
  λ h. (version_in f, file_variables f, file_records f, file_outputs f, row_well f bytes h, file_back f bytes (row_passed f h).layout),
  λ w. subst⁻¹ (λ (x : List ℕ). circuit_row x ≡ 0) w.5 (well_row w.0 w.1 w.2 w.3 w.4),
)
