-- Laws for document 02, C-13, "the circuit reader admits FF FF as an output": of any circuit that is read, any output may be made no wire;
-- it is still read, and running it writes 0 for that variable and for every other what it wrote.
use Prim.Native.Nat.{ℕ, zero, suc, ◌<◌}
use Rattle.std.proofs.Common.{arith, ne_eqb, sym, ◌∙◌, inl, inr, length-set, get_or-set_same, get_or-set_other}
use Rattle.std.specs.Prelude.{◌≡◌, ◌⊎◌, length, get_or}
use Rattle.std.proofs.Math.Path.{refl, ap}
use mathlib.Core.List.{List, [], ◌∷◌, map}
use Rattle.std.proofs.Math.ListN.{set}
use Rattle.base.specs.MemberLaws.{inside_set}
use Rattle.base.specs.TestLaws.{same?}
use Rattle.file.specs.Records.{Record}
use Rattle.file.specs.Versions.{Version}
use Rattle.file.specs.WireKinds.{wire_kind}
use Rattle.file.specs.WireFigures.{wire_figure}
use Rattle.file.specs.CircuitFile.{file_bytes, no_wire}
use Rattle.file.specs.FileFigures.{output_figure, file_figures}
use Rattle.file.specs.FitRecords.{FileFits}
use Rattle.file.specs.FileLaws.{file_figures_lem}
use Rattle.file.specs.SizeLaws.{file_size}
use Rattle.file.specs.StandLaws.{Out}
use Rattle.file.specs.WellFormed.{WellFormed}

-- what an output gives: 0 where it is no wire, else its wire's figure
pub none_figure : (inputs : List ℕ) (R : List Record) → output_figure inputs R no_wire ≡ 0
unfolding output_figure
none_figure inputs R = refl

pub some_figure : (inputs : List ℕ) (R : List Record) (w : ℕ) → (w ≡ no_wire → ⊥) → output_figure inputs R w ≡ wire_figure inputs R w
unfolding output_figure
some_figure inputs R w n = rw (ne_eqb w no_wire n)

module _ (ver : Version) (v : ℕ) (R : List Record) (outputs : List ℕ) (x : ℕ) where
  abbrev less : List ℕ
  less = set outputs x no_wire

  outs_less : ((y : ℕ) → y < length outputs → Out (length R) (wire_kind R) y (get_or outputs y 0)) → (y : ℕ) → y < length outputs
      → Out (length R) (wire_kind R) y (get_or less y 0)
  outs_less h y l = go (same? y x)
    where
      go : (y ≡ x) ⊎ (y ≡ x → ⊥) → Out (length R) (wire_kind R) y (get_or less y 0)
      go (inl e) = inl (rw e (get_or-set_same outputs x no_wire 0 (rw e at l)))
      go (inr n) = rw (get_or-set_other outputs x y no_wire 0 n) (h y l)

  fits_less : FileFits ver v R outputs → FileFits ver v R less
  fits_less f = record {
    each = f.each;
    few = f.few;
    wires = inside_set 65536 outputs x no_wire f.wires (omega arith);
    count = length-set outputs x no_wire ∙ f.count;
  }

  pub well_less : WellFormed ver v R outputs → WellFormed ver v R (set outputs x no_wire)
  well_less w = record {
    some = w.some;
    few = w.few;
    wires = w.wires;
    size = let n = length-set outputs x no_wire in omega (arith, w.size, file_size ver v R outputs, file_size ver v R less, n);
    fits = fits_less w.fits;
    bounded = w.bounded;
    standing = record {
      first = w.standing.first;
      later = w.standing.later;
      earlier = w.standing.earlier;
      kinds = w.standing.kinds;
      tables = w.standing.tables;
      outs = λ y l. outs_less w.standing.outs y (rw (length-set outputs x no_wire) at l);
    };
  }

  pub figures_less : FileFits ver v R outputs → (inputs : List ℕ)
      → file_figures (file_bytes ver v R (set outputs x no_wire)) inputs ≡ set (file_figures (file_bytes ver v R outputs) inputs) x 0
  unfolding output_figure
  figures_less f inputs =
      file_figures_lem ver v R less (fits_less f) inputs ∙ none outputs x
      ∙ ap (λ (l : List ℕ). set l x 0) (sym (file_figures_lem ver v R outputs f inputs))
    where
      none : (l : List ℕ) (i : ℕ) → map (output_figure inputs R) (set l i no_wire) ≡ set (map (output_figure inputs R) l) i 0
      none [] i = refl
      none (w ∷ l) zero = refl
      none (w ∷ l) (suc i) = ap (λ (r : List ℕ). output_figure inputs R w ∷ r) (none l i)
