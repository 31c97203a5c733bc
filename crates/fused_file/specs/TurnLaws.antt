-- A turn: what the code finds in the arrays at turn i, and what the turn adds to the stage.
use Rattle.std.specs.Prelude.{ℕ, suc, ◌+◌, ◌-◌, ◌≤◌, ◌<◌, ◌≡◌, List, [], ◌∷◌, ◌++◌, ◌⊎◌, length, get_or, set, replicate}
use Rattle.std.proofs.Math.Path.{refl}
use Rattle.std.proofs.Common.{sym, ap, ◌∙◌, append-nil, inl, inr, add-one, arith, length-append, ne_eqb}
use Rattle.base.specs.TestLaws.{same?}
use Rattle.circuit.specs.Limits.{most_gates}
use Rattle.base.specs.Lists.{Inside}
use Rattle.base.specs.Buffers.{over}
use Rattle.plan.specs.PlanFile.{group_at}
use Rattle.plan.specs.NumberLaws.{length_group}
use Rattle.file.specs.Versions.{written_version}
use Rattle.file.specs.Records.{Record, records_cost}
use Rattle.file.specs.CircuitFile.{record_bytes, records_bytes}
use Rattle.file.specs.SizeLaws.{size_append, cost_append}
use Rattle.fused_gate.specs.Emitted.{wire_in, alone_in, Writable}
use Rattle.fused_group.specs.Joined.{emit_in, JoinWritable}
use Rattle.fused_group.specs.EmitLaws.{emit_some}
use Rattle.fused_size.specs.Sizes.{sum_of, Measured}
use Rattle.fused_size.specs.declared.Size.{Size}
use Rattle.fused.specs.SizeLimits.{most_record_bytes}
use Rattle.fused_file.specs.Staged.{Stage, members_of, turn_records, turn, stage, Turnable}
use Rattle.fused_file.specs.Turns.{Measurable, Puttable, Sum}
use Rattle.file.specs.Limits.{most_wires}

-- a group by its place
pub members_alone : (p : List ℕ) (at q : ℕ) → at ≡ 0 → members_of p at q ≡ q ∷ []
members_alone p at q e = rw e

pub members_joined : (p : List ℕ) (at q : ℕ) → (at ≡ 0 → ⊥) → members_of p at q ≡ group_at p at
members_joined p at q n = rw (ne_eqb at 0 n)

-- The bytes of a group, alone or joined: room for the group's is room for those of the gate alone or of the joined group; those written, and how many, are the group's.

module _ (p quads : List ℕ) (count : ℕ) (needs : List ℕ) (wire : ℕ → ℕ) (at q n : ℕ) where
  module _ (e : at ≡ 0) where
    alone_same : records_bytes written_version (emit_in quads count needs wire n (members_of p at q)) ≡ record_bytes written_version (alone_in quads wire q)
    alone_same = rw (members_alone p at q e) (append-nil (record_bytes written_version (alone_in quads wire q)))

    pub alone_room : (k : ℕ) → length (records_bytes written_version (emit_in quads count needs wire n (members_of p at q))) ≤ k → length (record_bytes written_version (alone_in quads wire q)) ≤ k
    alone_room k h = rw alone_same at h

    pub alone_put : (k : ℕ) (d o : List ℕ) → k ≡ length (record_bytes written_version (alone_in quads wire q)) → o ≡ over (record_bytes written_version (alone_in quads wire q)) d
        → (k ≡ length (records_bytes written_version (emit_in quads count needs wire n (members_of p at q))))
        × ((1 ≡ length (emit_in quads count needs wire n (members_of p at q))) × (o ≡ over (records_bytes written_version (emit_in quads count needs wire n (members_of p at q))) d))
    alone_put k d o x y = (rw alone_same x, (rw (members_alone p at q e), rw alone_same y))

  module _ (e : at ≡ 0 → ⊥) where
    pub joined_room : (k : ℕ) → length (records_bytes written_version (emit_in quads count needs wire n (members_of p at q))) ≤ k → length
        (records_bytes written_version (emit_in quads count needs wire n (group_at p at))) ≤ k
    joined_room k h = rw (members_joined p at q e) at h

    pub joined_put : (k u : ℕ) (d o : List ℕ) → k ≡ length (records_bytes written_version (emit_in quads count needs wire n (group_at p at)))
        → u ≡ length (emit_in quads count needs wire n (group_at p at)) → o ≡ over (records_bytes written_version (emit_in quads count needs wire n (group_at p at))) d
        → (k ≡ length (records_bytes written_version (emit_in quads count needs wire n (members_of p at q))))
        × ((u ≡ length (emit_in quads count needs wire n (members_of p at q))) × (o ≡ over (records_bytes written_version (emit_in quads count needs wire n (members_of p at q))) d))
    joined_put k u d o x z y = rw (members_joined p at q e) (x, (z, y))

-- as many records as a joined group has
pub joined_many : (p quads : List ℕ) (count : ℕ) (needs : List ℕ) (wire : ℕ → ℕ) (at q n : ℕ) → (at ≡ 0 → ⊥) → (u : ℕ)
    → u ≡ length (emit_in quads count needs wire n (group_at p at)) → u ≡ length (emit_in quads count needs wire n (members_of p at q))
joined_many p quads count needs wire at q n e u z = rw (members_joined p at q e) z

-- The turns.

module _ (p quads : List ℕ) (count : ℕ) (needs group places ord : List ℕ) where
  -- before the first turn
  pub stage_none : stage p quads count needs group places ord 0 ≡ record { records = []; wires = replicate most_gates 0 }
  unfolding stage
  stage_none = refl

  -- one turn more
  pub stage_next : (i : ℕ) → stage p quads count needs group places ord (suc i) ≡ turn p quads count needs group places (stage p quads count needs group places ord i)
      (get_or ord i 0)
  unfolding stage
  stage_next i = refl

  pub stage_more : (i : ℕ) → stage p quads count needs group places ord (i + 1) ≡ turn p quads count needs group places (stage p quads count needs group places ord i)
      (get_or ord i 0)
  stage_more i = rw (add-one i) (stage_next i)

  -- the records of turn i, as the code has them in hand: the group g, at its place, over the wires w from wire n on
  pub turn_is : (i g at n : ℕ) (w : List ℕ) → g ≡ get_or ord i 0 → at ≡ get_or places g 0 → w ≡ (stage p quads count needs group places ord i).wires
      → n ≡ length (stage p quads count needs group places ord i).records
      → emit_in quads count needs (wire_in group w) n (members_of p at (get_or ord i 0)) ≡ turn_records p quads count needs group places
      (stage p quads count needs group places ord i) (get_or ord i 0)
  turn_is i g at n w eg ea ew en = rw (ea, eg, ew, en)

  module _ (conds : List ℕ) (groups : ℕ) (t : Turnable p quads count needs group places conds ord groups) (i g at : ℕ) (h : i < groups) (eg : g ≡ get_or ord i 0)
      (ea : at ≡ get_or places g 0) where
    place : at ≡ get_or places (get_or ord i 0) 0
    place = ea ∙ ap (λ (k : ℕ). get_or places k 0) eg

    writable : at ≡ 0 → Writable quads group (get_or ord i 0)
    writable e = t.alone i h (sym place ∙ e)

    joining : (at ≡ 0 → ⊥) → JoinWritable quads p conds group count at
    joining n = rw place (t.joins i h (λ e. n (place ∙ e)))

    pub turn_measurable : Measurable quads p group at (get_or ord i 0)
    turn_measurable = record { alone = λ e. (writable e).coded; joins = λ n. (joining n).joinable }

    pub turn_below : Inside count (members_of p at (get_or ord i 0))
    turn_below = go (same? at 0)
      where
        go : (at ≡ 0) ⊎ (at ≡ 0 → ⊥) → Inside count (members_of p at (get_or ord i 0))
        go (inl e) = rw (members_alone p at (get_or ord i 0) e) (λ m k. one m k)
          where
            one : Inside count (get_or ord i 0 ∷ [])
            one m (inl e) = rw e (t.member i h)
            one m (inr e) = elim e [ ]
        go (inr n) = rw (members_joined p at (get_or ord i 0) n) (joining n).below

    -- the turn adds a record or more
    turn_some : (wire : ℕ → ℕ) (n : ℕ) → 1 ≤ length (emit_in quads count needs wire n (members_of p at (get_or ord i 0)))
    turn_some wire n = go (same? at 0)
      where
        go : (at ≡ 0) ⊎ (at ≡ 0 → ⊥) → 1 ≤ length (emit_in quads count needs wire n (members_of p at (get_or ord i 0)))
        go (inl e) = rw (members_alone p at (get_or ord i 0) e) (omega arith)
        go (inr m) = rw (members_joined p at (get_or ord i 0) m) (emit_some quads count needs wire n (group_at p at) (rw (length_group p at) (joining m).joinable.many))

    -- the records that it adds, u of them, over the wires w from wire n on
    module _ (n u : ℕ) (w : List ℕ) (en : n ≡ length (stage p quads count needs group places ord i).records) (ew : w ≡ (stage p quads count needs group places ord i).wires)
        (eu : u ≡ length (emit_in quads count needs (wire_in group w) n (members_of p at (get_or ord i 0)))) where
      turn_count : u ≡ length (turn_records p quads count needs group places (stage p quads count needs group places ord i) (get_or ord i 0))
      turn_count = eu ∙ ap (λ (R : List Record). length R) (turn_is i g at n w eg ea ew en)

      pub turn_length : n + u ≡ length (stage p quads count needs group places ord (i + 1)).records
      turn_length =
          sym (ap (λ (v : Stage). length v.records) (stage_more i) ∙ length-append (stage p quads count needs group places ord i).records _ ∙ omega (arith, en, turn_count))

      pub turn_wires : set w g (n + u - 1) ≡ (stage p quads count needs group places ord (i + 1)).wires
      turn_wires = rw (stage_more i, ew, eg, en, turn_count)

      pub turn_fits : (1 ≤ u) × (n + u ≤ most_wires)
      turn_fits = (rw eu (turn_some (wire_in group w) n), omega (arith, turn_length, t.wired (i + 1) (omega (arith, h))))

    pub turn_puttable : (n : ℕ) → n ≡ length (stage p quads count needs group places ord i).records → Puttable quads p conds group count at (get_or ord i 0) n
    turn_puttable n e = record { alone = writable; joins = joining; narrow = omega (arith, e, t.wired i (omega (arith, h))) }

    -- the sizes that the turn adds, over the wires w
    module _ (t₀ z₀ : Size) (w : List ℕ) (s : Sum p quads count needs group places ord i t₀) (ew : w ≡ (stage p quads count needs group places ord i).wires)
        (z : Measured quads needs (wire_in group w) (members_of p at (get_or ord i 0)) z₀) where
      pub sum_wires : z₀.wires ≡ length (emit_in quads count needs (wire_in group w) t₀.wires (members_of p at (get_or ord i 0)))
      sum_wires = z.wired count t₀.wires turn_below

      pub turn_sum : Sum p quads count needs group places ord (i + 1) (sum_of t₀ z₀)
      turn_sum =
          let S : Stage = stage p quads count needs group places ord i in
          let T : List Record = turn_records p quads count needs group places S (get_or ord i 0) in
          let R : (stage p quads count needs group places ord (i + 1)).records ≡ S.records ++ T = ap (λ (v : Stage). v.records) (stage_more i) in
          let E : emit_in quads count needs (wire_in group w) t₀.wires (members_of p at (get_or ord i 0)) ≡ T = turn_is i g at t₀.wires w eg ea ew s.wired in
          let y : z₀.bytes ≡ length (records_bytes written_version T) = z.long count t₀.wires turn_below ∙ ap (λ (r : List Record). length (records_bytes written_version r)) E in
          let v : z₀.cost ≡ records_cost T = z.costs count t₀.wires turn_below ∙ ap (λ (r : List Record). records_cost r) E in
          record {
            wired = turn_length t₀.wires z₀.wires w s.wired ew sum_wires;
            long = rw (R, size_append written_version S.records T) (omega (arith, s.long, y));
            costs = rw (R, cost_append S.records T) (omega (arith, s.costs, v));
          }

      pub turn_small : (1 ≤ t₀.wires + z₀.wires) × (t₀.wires + z₀.wires ≤ most_wires) × (t₀.bytes + z₀.bytes ≤ most_record_bytes) × (t₀.cost + z₀.cost ≤ 10240)
      turn_small =
          let l : i + 1 ≤ groups = omega (arith, h) in
          let f = turn_fits t₀.wires z₀.wires w s.wired ew sum_wires in
          (omega (arith, f.0), f.1, omega (arith, turn_sum.long, t.long (i + 1) l), omega (arith, turn_sum.costs, t.costs (i + 1) l))
