-- Laws for document 02, C-17: version 2 is written, either is read, any other is 60; a guard of more wires than its version admits is 61; a circuit gives the same figures in both.
use Rattle.std.specs.Prelude.{ℕ, ◌^◌, ◌≤◌, ◌<◌, ◌≡◌, refl, true, List, [], ◌∷◌, length, take}
use Rattle.std.proofs.Common.{arith, sym, ap, subst, ◌∙◌, ⊎_elim, pow_mono, lt_of_lt_of_le}
use Rattle.base.specs.Numbers.{Bytes}
use Rattle.base.specs.NumberLaws.{bits_bytes}
use Rattle.base.specs.Answers.{refusal}
use Rattle.file.specs.Limits.{most_file_bytes}
use Rattle.file.specs.Versions.{one, two, most_guard_wires}
use Rattle.file.specs.Records.{Record, input, word, bit, operation, choice, pick, guard, record_in}
use Rattle.file.specs.CircuitFile.{mark, file_bytes}
use Rattle.file.specs.FileFigures.{record_at, version_in, wire_count, file_records, file_figures}
use Rattle.file.specs.FileLaws.{file_figures_lem}
use Rattle.file.specs.LaidOut.{Bounded, record_place, LaidOut}
use Rattle.file.specs.FitRecords.{ReadsBack, AllReadBack}
use Rattle.file.specs.CircuitRows.{headed}
use Rattle.file.specs.WellFormed.{WellFormed}
use Rattle.file.specs.FormatLaws.{row_passed}
use Rattle.file.specs.InverseLaws.{laid_bounded}
use Rattle.plan.specs.Rows.{plan_answer}
use Rattle.fused.specs.FusedCircuit.{records_of, fused_file}
use Rattle.fused.specs.BoundLaws.{fused_bounded}
use Rattle.fused.specs.WellFormedLaws.{fused_is}
use Rattle.file.specs.Answers.{circuit_answer}
use Rattle.file.specs.ReadLaws.{answer_number}
use Rattle.demands.specs.Table.{circuit_rows}
use Rattle.demands.specs.TableLaws.{refuses_with}
use Rattle.demands.specs.ForeignLaws.{table_headed, circuit_answered}

-- what is written has the mark and version of the second
pub written_two : (s p : List ℕ) → take 5 (fused_file s p) ≡ mark two
written_two s p = ap (take 5) (fused_is s p)

-- another mark or version is 60
pub other_version : (f : List ℕ) → (take 5 f ≡ mark one → ⊥) → (take 5 f ≡ mark two → ⊥) → circuit_answer f ≡ refusal 60 0
other_version f a b = refuses_with 0 (circuit_rows f) 0 (circuit_answer f) refl (circuit_answered f) (omega arith) (λ h. ⊎_elim a b h.marked)

-- a guard of more wires than the file's version admits is 61; so of a file that is read each guard keeps within them
pub over_guard : (f : List ℕ) → headed f ≡ true → (i : ℕ) → i < wire_count f → (cs : List ℕ) (t : ℕ) → record_at f (record_place f i) ≡ guard cs t
    → most_guard_wires (version_in f) < length cs → circuit_answer f ≡ refusal 61 0
over_guard f h i l cs t e more = refuses_with 1 (circuit_rows f) 0 (circuit_answer f) refl (circuit_answered f) (omega arith) ((table_headed f).0 h, full)
  where
    full : LaidOut f → ⊥
    full o = let k : length cs ≤ most_guard_wires (version_in f) = subst (Bounded (version_in f)) e (o.whole i l).bounded in omega arith

pub guards_within : (f : List ℕ) → (circuit_answer f).number ≡ 0 → (i : ℕ) → i < length (file_records f) → (cs : List ℕ) (t : ℕ) → record_in (file_records f) i ≡ guard cs t
    → length cs ≤ most_guard_wires (version_in f)
guards_within f h i l cs t e =
    subst (Bounded (version_in f)) e (laid_bounded f (row_passed f (sym (answer_number f) ∙ h)).layout i l)

-- and so do those that are written
pub own_guards : (s p : List ℕ) → Bytes s → (plan_answer s p).number ≡ 0 → (i : ℕ) → i < length (records_of s p) → (cs : List ℕ) (t : ℕ) → record_in (records_of s p) i ≡ guard cs t
    → length cs ≤ most_guard_wires two
own_guards s p bytes h i l cs t e = subst (Bounded two) e (fused_bounded s p bytes h i l)

-- what version 1 holds, version 2 holds, where its file is not too long
bounded_more : (r : Record) → Bounded one r → Bounded two r
bounded_more (input k x) b = b
bounded_more (word n) b = b
bounded_more (bit c) b = b
bounded_more (operation op l) b = b
bounded_more (choice c x y) b = b
bounded_more (pick l) b = b
bounded_more (guard cs t) b = omega (arith, b)

reads_more : (r : Record) → ReadsBack one r → ReadsBack two r
reads_more (input k x) b = b
reads_more (word n) b = b
reads_more (bit c) b = b
reads_more (operation op l) b = b
reads_more (choice c x y) b = b
reads_more (pick l) b = b
reads_more (guard cs t) (a, w, b) = (a, w, lt_of_lt_of_le b (pow_mono_base))
  where
    pow_mono_base : 256 ^ 8 ≤ 256 ^ 32
    pow_mono_base = rw (← bits_bytes 8, ← bits_bytes 32) (pow_mono {i = 64} {j = 256} (omega arith))

all_more : (R : List Record) → AllReadBack one R → AllReadBack two R
all_more [] u = u
all_more (r ∷ R) (a, b) = (reads_more r a, all_more R b)

pub one_in_two : (v : ℕ) (R : List Record) (outputs : List ℕ) → WellFormed one v R outputs → length (file_bytes two v R outputs) ≤ most_file_bytes → WellFormed two v R outputs
one_in_two v R outputs w size =
    record {
      some = w.some;
      few = w.few;
      wires = w.wires;
      size = size;
      fits = record { each = all_more R w.fits.each; few = w.fits.few; wires = w.fits.wires; count = w.fits.count };
      bounded = λ i l. bounded_more (record_in R i) (w.bounded i l);
      standing = w.standing;
    }

-- and a circuit gives the same figures in both
pub same_figures : (v : ℕ) (R : List Record) (outputs : List ℕ) → WellFormed one v R outputs → WellFormed two v R outputs → (inputs : List ℕ)
    → file_figures (file_bytes one v R outputs) inputs ≡ file_figures (file_bytes two v R outputs) inputs
same_figures v R outputs a b inputs = file_figures_lem one v R outputs a.fits inputs ∙ sym (file_figures_lem two v R outputs b.fits inputs)
