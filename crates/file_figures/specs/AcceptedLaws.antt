-- A file that passes rows 60 to 62: every output is no wire or one of the file, and every record has what its figure needs.
use Rattle.std.specs.Prelude.{ℕ, suc, ◌<◌, ◌≡◌, List, [], ◌∷◌, ◌⊎◌, ltb, length, get_or}
use Rattle.std.proofs.Common.{sym, subst, ◌∙◌, inl, inr, arith, ltb-true, ltb-false}
use Rattle.std.proofs.Math.Path.{subst⁻¹}
use Rattle.std.proofs.Math.Logic.{⊎_map}
use Rattle.base.specs.Lists.{◌∈◌}
use Rattle.base.specs.TestLaws.{split}
use Rattle.base.specs.declared.Kind.{Kind}
use Rattle.file.specs.Records.{Record, input, reads, record_in, NotInput}
use Rattle.file.specs.CircuitFile.{no_wire}
use Rattle.file.specs.FileFigures.{file_variables, wire_count, file_records, file_outputs}
use Rattle.file.specs.FilePartLaws.{file_count, record_of}
use Rattle.file.specs.LaidOut.{record_place}
use Rattle.file.specs.FormatLaws.{Passed}
use Rattle.file_figures.specs.Working.{Workable}

-- what holds at every place of a list holds of every number in it
each_in : (P : ℕ → Type 0) (l : List ℕ) → ((x : ℕ) → x < length l → P (get_or l x 0)) → (w : ℕ) → w ∈ l → P w
each_in P [] h w m = absurd m
each_in P (a ∷ l) h w (inl e) = subst⁻¹ P e (h 0 (omega arith))
each_in P (a ∷ l) h w (inr m) = each_in P l (λ x k. h (suc x) (omega arith)) w m

module _ (f : List ℕ) (p : Passed f) where
  -- every output is no wire, or a wire of the file
  pub outputs_there : (w : ℕ) → w ∈ file_outputs f → (w ≡ no_wire) ⊎ (w < wire_count f)
  outputs_there =
      each_in (λ w. (w ≡ no_wire) ⊎ (w < wire_count f)) (file_outputs f) (λ x h. ⊎_map (λ e. e) (λ o. rw (← file_count f) o.0) (p.stand.outs x h))

  -- an input record is one of the first V, each its own variable's
  input_below : (i : ℕ) (k : Kind) (x : ℕ) → record_in (file_records f) i ≡ input k x → x < file_variables f
  input_below i k x e =
      split (ltb i (file_variables f))
      (λ t. let h = ltb-true i (file_variables f) t in let (j, q) = (p.stand.first i h).1 in let s : input k x ≡ input j i = sym e ∙ q in let r : x ≡ i = cc in rw r h)
      (λ t. absurd (subst NotInput e (p.stand.later i (ltb-false i (file_variables f) t))))

  pub record_workable : (v i : ℕ) → v ≡ file_variables f → i < wire_count f → Workable f v i (record_place f i)
  record_workable v i e h = record {
    whole = p.layout.whole i h;
    inputs = λ k x q. rw e (input_below i k x (record_of f i h ∙ q));
    earlier = λ w m. p.stand.earlier i w (subst (λ (q : Record). w ∈ reads q) (sym (record_of f i h)) m);
  }
