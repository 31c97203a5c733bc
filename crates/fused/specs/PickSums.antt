-- Laws for document 01, "The fused circuit file": "A pick (31) gives the value whose guard is 1, else 0", and document 02, C-11: "A pick with several guards at 1 gives the sum
-- of their values modulo 4,294,967,296, or modulo 2 for bits, as in the paper's formula; on our own files nothing changes." In the circuit of an accepted plan at most one guard
-- of a pick is 1, so the two are the same wherever the values are of their kinds; on inputs that fit their variables' kinds all figures are.
use Rattle.std.specs.Prelude.{ℕ, ◌≤◌, ◌≡◌, List, ltb, get_or}
use Rattle.std.proofs.Common.{sym, ◌∙◌, zero-add, ltb-true, ltb-false}
use Rattle.base.specs.Inputs.{FiguresFit}
use Rattle.base.specs.Lists.{◌∈◌}
use Rattle.base.specs.TestLaws.{split}
use Rattle.base.specs.Numbers.{Bytes}
use Rattle.base.specs.Codes.{Fits}
use Rattle.base.specs.declared.Kind.{Kind}
use Rattle.rule.specs.Header.{variables, kind_at}
use Rattle.plan.specs.Rows.{plan_answer}
use Rattle.file.specs.Versions.{written_version}
use Rattle.file.specs.Records.{Pair, input, pick, guard, record_in, pick_figure, guard_figure}
use Rattle.file.specs.WireKinds.{values_of, wire_kind}
use Rattle.file.specs.WireFigures.{pick_sum, wire_figure}
use Rattle.file.specs.Sums.{guards_at_one}
use Rattle.file.specs.RecordLaws.{GivesFigure, Figured, along_at, wires_right}
use Rattle.file.specs.SumLaws.{pick_inside, guard_inside}
use Rattle.file.specs.FigureKindLaws.{sum_value, wires_figured}
use Rattle.fused.specs.FusedCircuit.{records_of}
use Rattle.fused.specs.BoundLaws.{fused_bounded}
use Rattle.fused.specs.FitPlan.{fused_fits}
use Rattle.fused.specs.FusedKinds as kinds
use Rattle.fused.specs.InputLaws.{input_first, input_last}
use Rattle.fused.specs.PlannedLaws.{planned_earlier, planned_one}

module _ (s p : List ℕ) (h : (plan_answer s p).number ≡ 0) where
  -- Whatever figures W the wires hold, if each guard has its figure of them, at most one guard of a pick is 1,
  pub pick_guards : (W : ℕ → ℕ) → ((i : ℕ) (cs : List ℕ) (t : ℕ) → record_in (records_of s p) i ≡ guard cs t → W i ≡ guard_figure W cs t)
      → (i : ℕ) (l : List Pair) → record_in (records_of s p) i ≡ pick l → guards_at_one W l ≤ 1
  pick_guards W f i l e = rw e at (planned_one s p h W f i (pick_inside (records_of s p) i l e))

  module _ (bytes : Bytes s) where
    -- so where its values are of their kinds too, a pick gives the value whose guard is 1, else 0.
    pub pick_value : (W : ℕ → ℕ) → ((i : ℕ) (cs : List ℕ) (t : ℕ) → record_in (records_of s p) i ≡ guard cs t → W i ≡ guard_figure W cs t)
        → (i : ℕ) (l : List Pair) → record_in (records_of s p) i ≡ pick l → ((w : ℕ) → w ∈ values_of l → Fits (wire_kind (records_of s p) w) (W w))
        → pick_sum (wire_kind (records_of s p)) W l ≡ pick_figure W l
    pick_value W f i l e v =
        sum_value (wire_kind (records_of s p)) W l (pick_guards W f i l e) (rw e at (kinds.fused_fits s p bytes h i (pick_inside (records_of s p) i l e))) v

    module _ (inputs : List ℕ) (fit : FiguresFit (variables s) (kind_at s) inputs) where
      -- an input is a variable's, so it is of its kind
      given : (i : ℕ) (k : Kind) (x : ℕ) → record_in (records_of s p) i ≡ input k x → Fits k (get_or inputs x 0)
      given i k x e =
          split (ltb i (variables s))
          (λ t.
          let l = ltb-true i (variables s) t in
          let q : input k x ≡ input (kind_at s i) i = sym e ∙ (input_first s p h i l).1 in
          let a : k ≡ kind_at s i = cc in
          let b : x ≡ i = cc in
          rw (a, b) (fit i l))
          (λ t. absurd (rw e at (input_last s p h i (ltb-false i (variables s) t))))

      -- the figures of the circuit's own wires are as document 01 has them,
      pub fused_figured : Figured inputs (wire_figure inputs (records_of s p)) 0 (records_of s p)
      fused_figured =
          let R = records_of s p in
          let W = wire_figure inputs R in
          let right = wires_right inputs R (planned_earlier s p h) in
          wires_figured written_version inputs R (planned_earlier s p h) (kinds.fused_fits s p bytes h) (fused_bounded s p bytes h) (fused_fits s p h bytes (planned_earlier s p h)) given
          (planned_one s p h W (λ j cs t g. rw g at (right j (guard_inside R j cs t g))))

      -- a pick's too.
      pub pick_own : (i : ℕ) (l : List Pair) → record_in (records_of s p) i ≡ pick l
          → wire_figure inputs (records_of s p) i ≡ pick_figure (wire_figure inputs (records_of s p)) l
      pick_own i l e =
          let W = wire_figure inputs (records_of s p) in
          rw (zero-add, e) at (along_at (GivesFigure inputs W) (records_of s p) 0 fused_figured i (pick_inside (records_of s p) i l e))
