-- The loop that gives the outputs: no wire (FF FF) gives 0, any other its wire's figure; after all V of them the results begin with the file's figures, and the rest is as before.
use Rattle.std.specs.Prelude.{ℕ, ◌+◌, ◌*◌, ◌≤◌, ◌<◌, ◌≡◌, cond, ◌⊎◌, eqb, length, set}
use Rattle.std.proofs.Math.Path.{sym, ap}
use Rattle.std.proofs.Common.{subst, ◌∙◌, inl, inr, ⊎_elim, add-one, arith, eq-eqb, ne_eqb}
use mathlib.Core.List.{List, [], ◌∷◌, ◌++◌, map, map-append}
use Rattle.std.proofs.Math.Logic.{⊎_map}
use Rattle.std.proofs.lemmas.List.{length-map}
use Rattle.base.specs.Lists.{◌∈◌}
use Rattle.base.specs.Numbers.{number_at}
use Rattle.base.specs.Buffers.{over}
use Rattle.base.specs.BufferLaws.{over_snoc}
use Rattle.base.specs.ListLaws.{map_same}
use Rattle.file.specs.CircuitFile.{no_wire}
use Rattle.file.specs.FileFigures.{wires_at, file_variables, wire_count, file_outputs, file_figures}
use Rattle.file.specs.FilePartLaws.{wires_next, wires_length, wire_of_lem, outputs_of_lem, figures_of_lem}
use Rattle.file.specs.Limits.{most_wires}
use Rattle.file.specs.LaidOut.{record_place}
use Rattle.file.specs.FormatLaws.{Passed}
use Rattle.file_figures.specs.Working.{held, Output, output_held, figures_of}
use Rattle.file_figures.specs.WorkingLaws.{figures_length, held_over}
use Rattle.file_figures.specs.AcceptedLaws.{outputs_there}

-- an output, n its number as the code has it: no wire gives 0; any other is below the most wires, and gives what is held for it
module _ (figures : List ℕ) (n w : ℕ) (e : n ≡ w) where
  pub output_none : n ≡ no_wire → 0 ≡ output_held figures w
  output_none h = rw (eq-eqb w no_wire (sym e ∙ h))

  module _ (h : n ≡ no_wire → ⊥) where
    pub output_below : Output w → n < most_wires
    output_below = ⊎_elim (λ z. absurd (h (e ∙ z))) (λ l. rw e l)

    pub output_held_lem : (g : ℕ) → g ≡ held figures n → g ≡ output_held figures w
    output_held_lem g q = rw (ne_eqb w no_wire (λ z. h (e ∙ z)), ← e) q

-- one output's figure more
given_more : (f figures : List ℕ) (at x : ℕ)
    → map (output_held figures) (wires_at (x + 1) f at) ≡ map (output_held figures) (wires_at x f at) ++ (output_held figures (number_at 2 f (at + 2 * x)) ∷ [])
given_more f figures at x =
    ap (λ (n : ℕ). map (output_held figures) (wires_at n f at)) (add-one x)
    ∙ ap (map (output_held figures)) (wires_next x f at)
    ∙ map-append (output_held figures) (wires_at x f at) (number_at 2 f (at + 2 * x) ∷ [])

pub giving_more : (f figures before results : List ℕ) (at x g : ℕ) → results ≡ over (map (output_held figures) (wires_at x f at)) before → x < length before
    → g ≡ output_held figures (number_at 2 f (at + 2 * x)) → set results x g ≡ over (map (output_held figures) (wires_at (x + 1) f at)) before
giving_more f figures before results at x g p h e =
    let n : length (map (output_held figures) (wires_at x f at)) ≡ x = length-map (wires_at x f at) (output_held figures) ∙ wires_length x f at in
    ap (λ (l : List ℕ). set l x g) p
    ∙ over_snoc (map (output_held figures) (wires_at x f at)) before x g n h
    ∙ rw (given_more f figures at x, e)

-- the outputs of an accepted file can be given, and the figures given are the file's
module _ (f inputs : List ℕ) (p : Passed f) (at : ℕ) (e : at ≡ record_place f (wire_count f)) where
  pub outputs_whole : at + 2 * file_variables f ≤ length f
  outputs_whole = rw e (omega (arith, p.layout.ended))

  outputs_are : wires_at (file_variables f) f at ≡ file_outputs f
  outputs_are = ap (wires_at (file_variables f) f) e ∙ sym (outputs_of_lem f)

  pub outputs_fine : (x : ℕ) → x < file_variables f → Output (number_at 2 f (at + 2 * x))
  outputs_fine x =
      wire_of_lem Output (file_variables f) f at x
      (λ w m. ⊎_map (λ z. z) (λ l. omega (arith, l, p.head.wires)) (outputs_there f p w (subst (λ (l : List ℕ). w ∈ l) outputs_are m)))

  -- an array that begins with the file's figures holds them
  output_same : (before figures : List ℕ) → figures ≡ over (figures_of f inputs (wire_count f)) before → (w : ℕ) → (w ≡ no_wire) ⊎ (w < wire_count f)
      → output_held figures w ≡ output_held (figures_of f inputs (wire_count f)) w
  output_same before figures g w (inl z) = rw (eq-eqb w no_wire z)
  output_same before figures g w (inr l) =
      ap (λ (v : ℕ). cond (eqb w no_wire) 0 v)
      (ap (λ (m : List ℕ). held m w) g ∙ held_over (figures_of f inputs (wire_count f)) before w (rw (figures_length f inputs (wire_count f)) l))

  pub outputs_given : (before figures results d : List ℕ) → figures ≡ over (figures_of f inputs (wire_count f)) before
      → results ≡ over (map (output_held figures) (wires_at (file_variables f) f at)) d → results ≡ over (file_figures f inputs) d
  unfolding figures_of
  outputs_given before figures results d g q =
      q ∙ ap (λ (l : List ℕ). over l d) (
      ap (map (output_held figures)) outputs_are
      ∙ map_same (output_held figures) (output_held (figures_of f inputs (wire_count f))) (file_outputs f) (λ w m. output_same before figures g w (outputs_there f p w m))
      ∙ sym (figures_of_lem f inputs)
      )
