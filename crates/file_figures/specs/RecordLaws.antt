-- One record, by its first byte: what its figure needs is there, and what the code works out is its figure.
use Rattle.std.specs.Prelude.{ℕ, ◌+◌, ◌*◌, ◌≤◌, ◌<◌, ◌≡◌, refl, List, [], ◌∷◌, length, get_or}
use Rattle.std.proofs.Common.{sym, ap, subst, ◌∙◌, arith}
use Rattle.base.specs.Lists.{Inside}
use Rattle.base.specs.Numbers.{number_at}
use Rattle.base.specs.Codes.{code_of}
use Rattle.base.specs.declared.Kind.{Kind}
use Rattle.file.specs.Records.{Record, input, word, bit, operation, choice, pick, guard, pair_wires, reads, record_figure}
use Rattle.file.specs.Versions.{most_guard_wires, table_bytes}
use Rattle.file.specs.WireKinds.{record_kind}
use Rattle.file.specs.WireFigures.{pick_sum}
use Rattle.file.specs.FileFigures.{version_in, wires_at, pairs_at, record_at}
use Rattle.file.specs.FilePartLaws.{wires_length}
use Rattle.file.specs.FoundForms.{OtherByte, form_input, form_word, form_bit, form_choice, form_pick, form_guard, form_other, operation_byte_lem}
use Rattle.file.specs.Limits.{most_wires}
use Rattle.file.specs.LaidOut.{Bounded}
use Rattle.file_parts.specs.FirstByteLaws.{input_code}
use Rattle.file_figures.specs.Working.{held, pick_by, Workable}

-- what the figure of a record needs, by its first byte
module _ (f : List ℕ) (v at : ℕ) (k : Workable f v most_wires at) where
  wires_as : (r : Record) → record_at f at ≡ r → Inside most_wires (reads r)
  wires_as r e = subst (λ (q : Record). Inside most_wires (reads q)) e k.earlier

  pub input_takes : get_or f at 0 < 2 → (at + 1 < length f) × (get_or f (at + 1) 0 < v)
  input_takes h = let (kind, e) = input_code (get_or f at 0) h in (omega (arith, k.whole.inside, (form_input f at kind e).1), k.inputs kind _ (form_input f at kind e).0)

  pub word_takes : get_or f at 0 ≡ 0x11 → at + 1 + 4 ≤ length f
  word_takes h = omega (arith, k.whole.inside, (form_word f at h).1)

  pub bit_takes : get_or f at 0 ≡ 0x12 → at + 1 < length f
  bit_takes h = omega (arith, k.whole.inside, (form_bit f at h).1)

  pub choice_takes : get_or f at 0 ≡ 0x30
      → (at + 7 ≤ length f) × Inside most_wires (number_at 2 f (at + 1) ∷ number_at 2 f (at + 3) ∷ number_at 2 f (at + 5) ∷ [])
  choice_takes h = (omega (arith, k.whole.inside, (form_choice f at h).1), wires_as _ (form_choice f at h).0)

  pub pick_takes : get_or f at 0 ≡ 0x31
      → (at + 2 + 4 * get_or f (at + 1) 0 ≤ length f) × Inside most_wires (pair_wires (pairs_at (get_or f (at + 1) 0) f (at + 2)))
  pick_takes h = (omega (arith, k.whole.inside, (form_pick f at h).1), wires_as _ (form_pick f at h).0)

  pub guard_takes : get_or f at 0 ≡ 0x32
      → (get_or f (at + 1) 0 ≤ most_guard_wires (version_in f)) × (at + 2 + 2 * get_or f (at + 1) 0 + table_bytes (version_in f) ≤ length f)
      × Inside most_wires (wires_at (get_or f (at + 1) 0) f (at + 2))
  guard_takes h = (
    rw (wires_length (get_or f (at + 1) 0) f (at + 2)) at (subst (Bounded (version_in f)) (form_guard f at h).0 k.whole.bounded),
    omega (arith, k.whole.inside, (form_guard f at h).1),
    wires_as _ (form_guard f at h).0,
  )

  pub operation_takes : OtherByte (get_or f at 0)
      → (0x20 ≤ get_or f at 0) × (get_or f at 0 ≤ 0x27) × (at + (1 + 2 * (code_of (get_or f at 0)).arity) ≤ length f)
      × Inside most_wires (wires_at (code_of (get_or f at 0)).arity f (at + 1))
  operation_takes o =
      let b = operation_byte_lem (get_or f at 0) k.whole.known o in
      (b.0, b.1, subst (λ (n : ℕ). at + n ≤ length f) (form_other f at o).1 k.whole.inside, wires_as _ (form_other f at o).0)

-- the figure by its first byte
pub figure_by : (f inputs figures : List ℕ) (at : ℕ) (told : Kind) (n : ℕ) (r : Record) → record_at f at ≡ r → n ≡ record_figure inputs (pick_by told) (held figures) r
    → n ≡ record_figure inputs (pick_by told) (held figures) (record_at f at)
figure_by f inputs figures at told n r e q = q ∙ ap (record_figure inputs (pick_by told) (held figures)) (sym e)

-- a pick that is told its record's kind gives what it gives by the kinds of the wires
pub pick_told : (inputs : List ℕ) (k : ℕ → Kind) (W : ℕ → ℕ) (r : Record) → record_figure inputs (pick_by (record_kind k r)) W r ≡ record_figure inputs (pick_sum k) W r
unfolding pick_sum
pick_told inputs k W (input j x) = refl
pick_told inputs k W (word n) = refl
pick_told inputs k W (bit b) = refl
pick_told inputs k W (operation op l) = refl
pick_told inputs k W (choice c a b) = refl
pick_told inputs k W (pick l) = refl
pick_told inputs k W (guard cs t) = refl
