-- The kind of a record's wire, by its first byte: what the code reads of an array that holds the kinds of earlier wires is that kind, and it reads inside the file and the array.
use Rattle.std.specs.Prelude.{ℕ, suc, ◌+◌, ◌-◌, ◌≤◌, ◌<◌, ◌≡◌, refl, List, ◌∷◌, length, get_or}
use Rattle.std.proofs.Common.{sym, ap, subst, ◌∙◌, inl, inr, arith}
use Rattle.base.specs.Numbers.{number_at}
use Rattle.base.specs.Lists.{Inside}
use Rattle.base.specs.Codes.{start_code}
use Rattle.base.specs.declared.Kind.{Kind}
use Rattle.base.specs.declared.Kind.TheVariants as kind
use Rattle.file.specs.Records.{Record, pick, reads}
use Rattle.file.specs.WireKinds.{record_kind}
use Rattle.file.specs.FileFigures.{version_in, pairs_at, record_at}
use Rattle.file.specs.FilePartLaws.{pairs_length}
use Rattle.file.specs.FoundForms.{form_input, form_word, form_bit, form_choice, form_pick, form_guard}
use Rattle.file.specs.Limits.{most_wires}
use Rattle.file.specs.LaidOut.{Bounded, WholeAt}
use Rattle.file_parts.specs.HeldKinds.{held_kind}

-- what a record's kind is by its first byte, and what the code reads for it
module _ (f : List ℕ) (at : ℕ) (kinds : List Kind) where
  -- the record there is r, whose kind is k
  kind_as : (r : Record) → record_at f at ≡ r → (k : Kind) → k ≡ record_kind (held_kind kinds) r → k ≡ record_kind (held_kind kinds) (record_at f at)
  kind_as r e k q = q ∙ ap (record_kind (held_kind kinds)) (sym e)

  pub input_kind : (k : Kind) → get_or f at 0 ≡ start_code k → k ≡ record_kind (held_kind kinds) (record_at f at)
  input_kind k h = kind_as _ (form_input f at k h).0 k refl

  pub word_kind : get_or f at 0 ≡ 0x11 → kind.Word ≡ record_kind (held_kind kinds) (record_at f at)
  word_kind h = kind_as _ (form_word f at h).0 kind.Word refl

  pub bit_kind : get_or f at 0 ≡ 0x12 → kind.Bit ≡ record_kind (held_kind kinds) (record_at f at)
  bit_kind h = kind_as _ (form_bit f at h).0 kind.Bit refl

  pub guard_kind : get_or f at 0 ≡ 0x32 → kind.Bit ≡ record_kind (held_kind kinds) (record_at f at)
  guard_kind h = kind_as _ (form_guard f at h).0 kind.Bit refl

  -- a choice: what the array holds for its first value, the wire w
  pub choice_kind : get_or f at 0 ≡ 0x30 → (w : ℕ) (k : Kind) → w ≡ number_at 2 f (at + 3) → k ≡ held_kind kinds w
      → k ≡ record_kind (held_kind kinds) (record_at f at)
  choice_kind h w k e q = kind_as _ (form_choice f at h).0 k (q ∙ rw e)

  module _ (whole : WholeAt f at) where
    -- a pick has a first pair
    module _ (h : get_or f at 0 ≡ 0x31) where
      some_pair : 1 ≤ get_or f (at + 1) 0
      some_pair = rw (pairs_length (get_or f (at + 1) 0) f (at + 2)) at (subst (Bounded (version_in f)) (form_pick f at h).0 whole.bounded)

      is_pick : record_at f at ≡ pick (record { guarding = number_at 2 f (at + 2); value = number_at 2 f (at + 4) } ∷ pairs_at (get_or f (at + 1) 0 - 1) f (at + 6))
      is_pick =
          let n : get_or f (at + 1) 0 ≡ suc (get_or f (at + 1) 0 - 1) = omega (arith, some_pair) in
          let p : at + 2 + 2 ≡ at + 4 = omega arith in
          let q : at + 2 + 4 ≡ at + 6 = omega arith in
          (form_pick f at h).0 ∙ ap (λ (k : ℕ). pick (pairs_at k f (at + 2))) n ∙ rw (p, q)

      pub pick_kind : (w : ℕ) (k : Kind) → w ≡ number_at 2 f (at + 4) → k ≡ held_kind kinds w → k ≡ record_kind (held_kind kinds) (record_at f at)
      pick_kind w k e q = kind_as _ is_pick k (q ∙ rw e)

    -- those wires are in the array
    module _ (wires : Inside most_wires (reads (record_at f at))) where
      pub choice_value : get_or f at 0 ≡ 0x30 → (at + 3 + 2 ≤ length f) × (number_at 2 f (at + 3) < most_wires)
      choice_value h =
          let form = form_choice f at h in
          (omega (arith, whole.inside, form.1), subst (λ (r : Record). Inside most_wires (reads r)) form.0 wires _ (inr (inl refl)))

      pub pick_value : get_or f at 0 ≡ 0x31 → (at + 4 + 2 ≤ length f) × (number_at 2 f (at + 4) < most_wires)
      pick_value h = (
        omega (arith, whole.inside, (form_pick f at h).1, some_pair h),
        subst (λ (r : Record). Inside most_wires (reads r)) (is_pick h) wires _ (inr (inl refl)),
      )
