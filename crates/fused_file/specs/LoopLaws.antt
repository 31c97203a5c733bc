-- The loops that measure and write the groups in turn: start, room, step, end.
use Prim.Native.Nat.{ℕ, zero, suc, ◌+◌, ◌-◌, ◌≤◌, ◌<◌}
use Rattle.std.specs.Prelude.{◌≡◌, refl, length, get_or, set, take, drop, replicate}
use Rattle.std.proofs.Math.Path.{sym, ap}
use Rattle.std.proofs.Common.{◌∙◌, arith}
use mathlib.Core.List.{List, [], ◌++◌}
use borrow.Rule.Slice.PartMut.{put_mid}
use Rattle.circuit.specs.Limits.{most_gates}
use Rattle.file.specs.Versions.{written_version}
use Rattle.file.specs.Records.{Record}
use Rattle.file.specs.CircuitFile.{records_bytes}
use Rattle.file.specs.SizeLaws.{bytes_append, cost_append}
use Rattle.fused_gate.specs.Emitted.{wire_in, Written}
use Rattle.fused_group.specs.Joined.{emit_in}
use Rattle.fused_size.specs.Sizes.{sum_of, Measured}
use Rattle.fused_size.specs.declared.Size.{Size}
use Rattle.base.specs.FillLaws.{pieces, pieces_none, pieces_next, Filling, filling_start, filling_room, filling_fits, filling_length, filling_step, filling_end, filling_same}
use Rattle.fused.specs.SizeLimits.{most_record_bytes}
use Rattle.fused_file.specs.Staged.{members_of, turn_records, stage, Turnable}
use Rattle.fused_file.specs.Turns.{Measurable, Measures, Sum}
use Rattle.fused_file.specs.TurnLaws.{turn_is, turn_measurable, turn_wires, turn_length, sum_wires, turn_sum, turn_small}
use Rattle.file.specs.Limits.{most_wires}

-- Measuring.

-- no records
abbrev pub Nothing : Size → Type 0
Nothing s = (s.wires ≡ 0) × ((s.bytes ≡ 0) × (s.cost ≡ 0))

-- loop invariant: i groups are measured; w: the wire of each
pub record Measuring (p quads needs group places ord : List ℕ) (groups : ℕ) (w : List ℕ) (s : Size) (i : ℕ) : Type 0 where
  pub below : i ≤ groups
  pub measures : Measures p quads needs group places ord groups
  pub summed : (count : ℕ) (conds : List ℕ) → Turnable p quads count needs group places conds ord groups
      → Sum p quads count needs group places ord i s × (w ≡ (stage p quads count needs group places ord i).wires)

module _ (p quads needs group places ord : List ℕ) (groups : ℕ) where
  none : (count : ℕ) (s : Size) → Nothing s → Sum p quads count needs group places ord 0 s × (replicate most_gates 0 ≡ (stage p quads count needs group places ord 0).wires)
  unfolding stage
  none count s (w, (b, c)) = (record { wired = w; long = b; costs = c ∙ omega (arith, cost_append [] []) }, refl)

  pub measuring_start : (w : List ℕ) (s : Size) → Measures p quads needs group places ord groups → w ≡ replicate most_gates 0 → Nothing s
      → Measuring p quads needs group places ord groups w s 0
  measuring_start w s m e z = rw e (record { below = omega arith; measures = m; summed = λ count conds t. none count s z })

  module _ (w : List ℕ) (t₀ : Size) (i g : ℕ) (l : Measuring p quads needs group places ord groups w t₀ i) (h : i < groups) (eg : g ≡ get_or ord i 0) where
    pub measuring_inside : g < most_gates
    measuring_inside = rw eg (l.measures.turnable.inside i h)

    module _ (at : ℕ) (ea : at ≡ get_or places g 0) where
      pub measuring_group : Measurable quads p group at (get_or ord i 0)
      measuring_group =
          let m = l.measures in
          turn_measurable p quads m.count needs group places ord m.conds groups m.turnable i g at h eg ea

      module _ (z₀ : Size) (z : Measured quads needs (wire_in group w) (members_of p at (get_or ord i 0)) z₀) where
        pub measuring_small : (1 ≤ t₀.wires + z₀.wires) × (t₀.wires + z₀.wires ≤ most_wires) × (t₀.bytes + z₀.bytes ≤ most_record_bytes) × (t₀.cost + z₀.cost ≤ 10240)
        measuring_small =
            let m = l.measures in
            let s = l.summed m.count m.conds m.turnable in
            turn_small p quads m.count needs group places ord m.conds groups m.turnable i g at h eg ea t₀ z₀ w s.0 s.1 z

        pub measuring_step : Measuring p quads needs group places ord groups (set w g (t₀.wires + z₀.wires - 1)) (sum_of t₀ z₀) (i + 1)
        measuring_step =
            record {
              below = omega (arith, h);
              measures = l.measures;
              summed = λ count conds t.
                  let s = l.summed count conds t in (
                    turn_sum p quads count needs group places ord conds groups t i g at h eg ea t₀ z₀ w s.0 s.1 z,
                    turn_wires p quads count needs group places ord conds groups t i g at h eg ea t₀.wires z₀.wires w s.0.wired s.1
                        (sum_wires p quads count needs group places ord conds groups t i g at h eg ea t₀ z₀ w s.0 s.1 z),
                  );
            }

  pub measuring_end : (w : List ℕ) (t₀ : Size) (i : ℕ) → Measuring p quads needs group places ord groups w t₀ i → groups ≤ i
      → (count : ℕ) (conds : List ℕ) → Turnable p quads count needs group places conds ord groups → Sum p quads count needs group places ord groups t₀
  measuring_end w t₀ i l h count conds t =
      let e : groups ≡ i = omega (arith, h, l.below) in
      let s = (l.summed count conds t).0 in
      record { wired = rw e s.wired; long = rw e s.long; costs = rw e s.costs }

-- Writing: piece i is what turn i writes.

module _ (p quads : List ℕ) (count : ℕ) (needs group places ord : List ℕ) where
  abbrev pub turn_piece : ℕ → List ℕ
  turn_piece i = records_bytes written_version (turn_records p quads count needs group places (stage p quads count needs group places ord i) (get_or ord i 0))

  pub turn_pieces : (i : ℕ) → pieces turn_piece i ≡ records_bytes written_version (stage p quads count needs group places ord i).records
  unfolding stage
  turn_pieces zero = pieces_none turn_piece
  turn_pieces (suc i) =
      pieces_next turn_piece i
      ∙ ap (λ (b : List ℕ). b ++ turn_piece i) (turn_pieces i)
      ∙ sym (bytes_append written_version (stage p quads count needs group places ord i).records
      (turn_records p quads count needs group places (stage p quads count needs group places ord i) (get_or ord i 0)))

  -- loop invariant: i groups are written: n wires, and the wire of each
  pub record PuttingGroups (groups : ℕ) (out out₀ wires : List ℕ) (at n i : ℕ) : Type 0 where
    pub filling : Filling turn_piece out out₀ groups at i
    pub counted : n ≡ length (stage p quads count needs group places ord i).records
    pub wired : wires ≡ (stage p quads count needs group places ord i).wires

  pub putting_start : (groups : ℕ) (out wires : List ℕ) → length (records_bytes written_version (stage p quads count needs group places ord groups).records) ≤ length out
      → wires ≡ replicate most_gates 0
      → PuttingGroups groups out out wires 0 0 0
  unfolding stage
  putting_start groups out wires h e = record { filling = filling_start turn_piece out groups (rw (turn_pieces groups) h); counted = refl; wired = e }

  module _ (groups : ℕ) (out out₀ wires : List ℕ) (at n i : ℕ) (l : PuttingGroups groups out out₀ wires at n i) where
    module _ (h : i < groups) (g place : ℕ) (eg : g ≡ get_or ord i 0) (ea : place ≡ get_or places g 0) where
      piece_is : records_bytes written_version (emit_in quads count needs (wire_in group wires) n (members_of p place (get_or ord i 0))) ≡ turn_piece i
      piece_is = ap (λ (R : List Record). records_bytes written_version R) (turn_is p quads count needs group places ord i g place n wires eg ea l.wired l.counted)

      pub putting_fits : (at + length (records_bytes written_version (emit_in quads count needs (wire_in group wires) n (members_of p place (get_or ord i 0)))) ≤ length out) ×
          (length out ≡ length out₀)
      putting_fits = (rw piece_is (filling_fits turn_piece out out₀ groups at i l.filling h), filling_length turn_piece out out₀ groups at i l.filling h)

      pub putting_room : length (records_bytes written_version (emit_in quads count needs (wire_in group wires) n (members_of p place (get_or ord i 0)))) ≤ length
          (take (length out - at) (drop at out))
      putting_room = rw piece_is (filling_room turn_piece out out₀ groups at i l.filling h)

      pub putting_step : (conds : List ℕ) → Turnable p quads count needs group places conds ord groups → (k u : ℕ) (ys : List ℕ)
          → u ≡ length (emit_in quads count needs (wire_in group wires) n (members_of p place (get_or ord i 0)))
          → Written (records_bytes written_version (emit_in quads count needs (wire_in group wires) n (members_of p place (get_or ord i 0)))) k
          (take (length out - at) (drop at out)) ys
          → PuttingGroups groups (put_mid at (length out - at) out ys) out₀ (set wires g (n + u - 1)) (at + k) (n + u) (i + 1)
      putting_step conds t k u ys z r =
          record {
            filling = filling_step turn_piece out out₀ groups at i l.filling h k ys (rw piece_is at r.counted) (rw piece_is at r.written);
            counted = turn_length p quads count needs group places ord conds groups t i g place h eg ea n u wires l.counted l.wired z;
            wired = turn_wires p quads count needs group places ord conds groups t i g place h eg ea n u wires l.counted l.wired z;
          }

    pub putting_same : groups ≤ i → length out ≡ length out₀
    putting_same h = filling_same turn_piece out out₀ groups at i l.filling h

    pub putting_end : groups ≤ i → Written (records_bytes written_version (stage p quads count needs group places ord groups).records) at out₀ out
        × (wires ≡ (stage p quads count needs group places ord groups).wires)
    putting_end h =
        let e : groups ≡ i = omega (arith, h, l.filling.below) in
        let f = rw (turn_pieces groups) at (filling_end turn_piece out out₀ groups at i l.filling h) in
        (record { counted = f.0; written = f.1 }, rw e l.wired)
