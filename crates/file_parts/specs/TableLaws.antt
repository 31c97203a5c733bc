-- An array of the kinds of wires that is filled record by record: it holds the kinds of the wires so far.
use Rattle.std.specs.Prelude.{ℕ, ◌+◌, ◌<◌, ◌≡◌, List, ◌⊎◌, length, set}
use Rattle.std.proofs.Common.{sym, ◌∙◌, inl, inr, arith, get_or-set_same, get_or-set_other}
use Rattle.base.specs.TestLaws.{same?}
use Rattle.base.specs.declared.Kind.{Kind}
use Rattle.base.specs.declared.Kind.TheVariants as kind
use Rattle.file.specs.Records.{Record, record_in}
use Rattle.file.specs.RecordLaws.{ReadsBefore}
use Rattle.file.specs.WireKinds.{record_kind, wire_kind}
use Rattle.file.specs.WireKindLaws.{kind_same, kind_there}
use Rattle.file_parts.specs.HeldKinds.{held_kind}

-- the array holds the kinds of the first i wires
abbrev pub HoldsKinds : List Record → List Kind → ℕ → Type 0
HoldsKinds R kinds i = (w : ℕ) → w < i → held_kind kinds w ≡ wire_kind R w

module _ (R : List Record) (kinds : List Kind) where
  pub holds_none : HoldsKinds R kinds 0
  holds_none w h = absurd (omega arith)

  -- and then that of record i, which reads earlier wires
  module _ (i : ℕ) (l : i < length R) (before : ReadsBefore i (record_in R i)) (h : HoldsKinds R kinds i) where
    -- its kind from the array is its kind
    pub held_record : record_kind (held_kind kinds) (record_in R i) ≡ wire_kind R i
    held_record = kind_same (held_kind kinds) (wire_kind R) (record_in R i) (λ a m. h a (before a m)) ∙ sym (kind_there R i l before)

    pub holds_more : (k : Kind) → k ≡ record_kind (held_kind kinds) (record_in R i) → i < length kinds → HoldsKinds R (set kinds i k) (i + 1)
    holds_more k e room w l = go (same? w i)
      where
        go : (w ≡ i) ⊎ (w ≡ i → ⊥) → held_kind (set kinds i k) w ≡ wire_kind R w
        go (inl q) = rw q (get_or-set_same kinds i k kind.Word room ∙ e ∙ held_record)
        go (inr n) = get_or-set_other kinds i w k kind.Word n ∙ h w (omega arith)
