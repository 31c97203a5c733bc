-- What is written, group by group: a group's wire is its last record's and stays when others are written, and every record reads only earlier wires.
use Rattle.std.specs.Prelude.{ℕ, ◌+◌, ◌-◌, ◌≤◌, ◌<◌, ◌≡◌, List, [], ◌∷◌, ◌++◌, ◌⊎◌, length}
use Rattle.std.proofs.Math.Path.{refl}
use Rattle.std.proofs.Common.{sym, ap, ◌∙◌, inl, inr, zero-add, arith, eq-eqb, ne_eqb, length-append}
use Rattle.base.specs.Lists.{◌∈◌}
use Rattle.base.specs.MemberLaws.{in_append}
use Rattle.base.specs.TestLaws.{same?}
use Rattle.base.specs.Settings.{Once}
use Rattle.file.specs.Records.{ReadsEarlier}
use Rattle.file.specs.RecordLaws.{ReadsBefore, Below, along_append, below_earlier}
use Rattle.circuit.specs.Gates.{Gates, gate_at, arguments}
use Rattle.plan.specs.Groups.{groups, members, waits_for}
use Rattle.plan.specs.Order.{Ordered}
use Rattle.plan.specs.GroupLaws.{group_of_lem, member_of}
use Rattle.plan.specs.ReadsLaws.{waits_argument, waits_rests}
use Rattle.fused.specs.FusedCircuit.{Written, group_records, written}
use Rattle.fused.specs.EmitLaws.{emit_some, emit_below}

-- a group has a member: its name
pub group_some : (n : ℕ) (group : ℕ → ℕ) (p : ℕ) → p ∈ groups n group → 0 < length (members n group p)
group_some n group p m = let r = group_of_lem n group p m in go (members n group p) p (member_of n group p p r.0 r.1)
  where
    go : (l : List ℕ) (a : ℕ) → a ∈ l → 0 < length l
    go [] a k = absurd k
    go (b ∷ l) a k = omega arith

-- the members of each group of two or more have equally many arguments
abbrev pub Level : Gates → (ℕ → ℕ) → Type 0
Level C group =
    (p : ℕ) → 2 ≤ length (members (length C) group p)
    → (m k : ℕ) → m ∈ members (length C) group p → k ∈ members (length C) group p → length (arguments (gate_at C m)) ≡ length (arguments (gate_at C k))

module _ (s : List ℕ) (C : Gates) (sets : List ℕ) (group : ℕ → ℕ) where
  -- nothing is written at first; then each group's records are appended
  pub written_none : (written s C sets group []).records ≡ []
  unfolding written
  written_none = refl

  pub written_more : (p : ℕ) (done : List ℕ)
      → (written s C sets group (p ∷ done)).records ≡ (written s C sets group done).records ++ group_records s C sets group (written s C sets group done) p
  unfolding written
  written_more p done = refl

  pub written_length : (p : ℕ) (done : List ℕ)
      → length (written s C sets group (p ∷ done)).records
      ≡ length (written s C sets group done).records + length (group_records s C sets group (written s C sets group done) p)
  written_length p done = ap length (written_more p done) ∙ length-append (written s C sets group done).records _

  -- a group has a record
  pub records_some : (w : Written) (p : ℕ) → p ∈ groups (length C) group → 0 < length (group_records s C sets group w p)
  records_some w p m = emit_some s C sets (λ a. w.wire (group a)) (length w.records) (members (length C) group p) (group_some (length C) group p m)

  -- the wire of the group just written is the last record's; the wires of others stay
  pub wire_last : (p : ℕ) (done : List ℕ) → (written s C sets group (p ∷ done)).wire p ≡ length (written s C sets group (p ∷ done)).records - 1
  unfolding written
  wire_last p done = rw (eq-eqb p p refl) (ap (λ (n : ℕ). n - 1) (sym (written_length p done)))

  pub wire_other : (p : ℕ) (done : List ℕ) (q : ℕ) → (q ≡ p → ⊥) → (written s C sets group (p ∷ done)).wire q ≡ (written s C sets group done).wire q
  unfolding written
  wire_other p done q n = rw (ne_eqb q p n)

  pub wire_old : (p : ℕ) (done : List ℕ) → Once (p ∷ done) → (q : ℕ) → q ∈ done → (written s C sets group (p ∷ done)).wire q ≡ (written s C sets group done).wire q
  wire_old p done (new, o) q m = wire_other p done q (λ e. new (rw e at m))

  -- so they stay whatever is written after
  pub wire_kept : (more done : List ℕ) → Once (more ++ done) → (q : ℕ) → q ∈ done
      → (written s C sets group (more ++ done)).wire q ≡ (written s C sets group done).wire q
  wire_kept [] done o q m = refl
  wire_kept (p ∷ more) done (new, o) q m = wire_old p (more ++ done) (new, o) q (in_append q more done (inr m)) ∙ wire_kept more done o q m

  -- every written group's wire is a record's
  pub wire_below : (done : List ℕ) → ((p : ℕ) → p ∈ done → p ∈ groups (length C) group)
      → (q : ℕ) → q ∈ done → (written s C sets group done).wire q < length (written s C sets group done).records
  wire_below [] f q m = absurd m
  wire_below (p ∷ done) f q m = go (same? q p) m (λ k. wire_below done (λ r j. f r (inr j)) q k)
    where
      more : length (written s C sets group done).records < length (written s C sets group (p ∷ done)).records
      more = omega (arith, written_length p done, records_some (written s C sets group done) p (f p (inl refl)))

      go : (q ≡ p) ⊎ (q ≡ p → ⊥) → q ∈ (p ∷ done) → (q ∈ done → (written s C sets group done).wire q < length (written s C sets group done).records)
          → (written s C sets group (p ∷ done)).wire q < length (written s C sets group (p ∷ done)).records
      go (inl e) k ih = rw e (omega (arith, wire_last p done, more))
      go (inr n) (inl e) ih = absurd (n e)
      go (inr n) (inr k) ih = omega (arith, wire_other p done q n, ih k, more)

  module _ (level : Level C group) where
    -- groups in order read only earlier wires
    written_below : (done : List ℕ) → ((p : ℕ) → p ∈ done → p ∈ groups (length C) group) → Ordered (waits_for C sets group) done
        → Below 0 (written s C sets group done).records
    written_below [] f o = rw written_none tt
    written_below (p ∷ done) f (before, o) =
        rw (written_more p done)
        (along_append ReadsBefore w.records _ 0 (written_below done (λ q k. f q (inr k)) o)
        (rw zero-add (emit_below s C sets (λ a. w.wire (group a)) (length w.records) (members (length C) group p) (level p)
        (λ m a h k. inside (group a) (waits_argument C sets group p m a h k))
        (λ t m c h k. inside (group c) (waits_rests C sets group p m c h t k)))))
      where
        w : Written
        w = written s C sets group done

        inside : (q : ℕ) → q ∈ waits_for C sets group p → w.wire q < length w.records
        inside q k = wire_below done (λ r j. f r (inr j)) q (before q k)

    pub written_earlier : (done : List ℕ) → ((p : ℕ) → p ∈ done → p ∈ groups (length C) group) → Ordered (waits_for C sets group) done
        → ReadsEarlier (written s C sets group done).records
    written_earlier done f o = below_earlier (written s C sets group done).records (written_below done f o)
