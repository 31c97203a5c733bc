-- The loops that write the wires of a guard, the guards of a group and the pairs of a pick: start, room, step, end.
use Rattle.std.specs.Prelude.{ℕ, ◌+◌, ◌-◌, ◌*◌, ◌≤◌, ◌<◌, ◌≡◌, List, [], ◌∷◌, map, length, get_or, take, drop}
use Rattle.std.proofs.Common.{sym, ap, ◌∙◌, arith}
use Rattle.std.proofs.lemmas.List.{length-map}
use borrow.Rule.Slice.PartMut.{put_mid}
use Rattle.base.specs.Numbers.{bytes_of}
use Rattle.base.specs.NumberLaws.{length_bytes}
use Rattle.base.specs.Buffers.{over}
use Rattle.circuit.specs.FigureLaws.{map_at}
use Rattle.circuit.specs.Limits.{most_gates}
use Rattle.plan.specs.PlanFile.{group_at}
use Rattle.file.specs.Versions.{written_version}
use Rattle.file.specs.Records.{pair_wires}
use Rattle.file.specs.CircuitFile.{wires_bytes, record_bytes, records_bytes}
use Rattle.file.specs.SizeLaws.{wires_size, pairs_size}
use Rattle.fused_group.specs.Joined.{guard_in, guards_in, values_in, pairs_in, argument_at, Lies, Paired}
use Rattle.fused_gate.specs.Emitted.{Grouped, Written}
use Rattle.base.specs.FillLaws.{pieces, Filling, filling_start, filling_room, filling_fits, filling_length, filling_step, filling_end}
use Rattle.plan.specs.NumberLaws.{length_group, member_in}
use Rattle.fused_group.specs.PieceLaws.{wire_pieces, record_pieces, pair_pieces}
use Rattle.fused_group.specs.GuardLaws.{rest_wires}
use Rattle.fused.specs.SizeJoined.{length_pairs}

-- The wires of a guard: piece i is that of condition i of a list.

unfoldable pub rest_piece : List ℕ → (ℕ → ℕ) → List ℕ → ℕ → List ℕ
rest_piece conds wire ts i = bytes_of 2 (wire (get_or conds (get_or ts i 0) 0))

module _ (conds : List ℕ) (wire : ℕ → ℕ) (ts : List ℕ) (k : ℕ) where
  rest_pieces : k ≡ length ts → pieces (rest_piece conds wire ts) k ≡ wires_bytes (map (λ t. wire (get_or conds t 0)) ts)
  unfolding rest_piece
  rest_pieces e = rw e (wire_pieces (λ t. wire (get_or conds t 0)) ts)

  pub rests_start : (out : List ℕ) → k ≡ length ts → 2 * length ts ≤ length out → Filling (rest_piece conds wire ts) out out k 0 0
  rests_start out e h = filling_start (rest_piece conds wire ts) out k (rw (rest_pieces e, rest_wires conds wire ts) h)

  module _ (out out₀ : List ℕ) (at i : ℕ) (l : Filling (rest_piece conds wire ts) out out₀ k at i) (h : i < k) where
    size : length (rest_piece conds wire ts i) ≡ 2
    unfolding rest_piece
    size = length_bytes 2 (wire (get_or conds (get_or ts i 0) 0))

    pub rests_fits : (at + 2 ≤ length out) × (length out ≡ length out₀)
    rests_fits = (
      omega (arith, filling_fits (rest_piece conds wire ts) out out₀ k at i l h, size),
      filling_length (rest_piece conds wire ts) out out₀ k at i l h,
    )

    pub rests_room : 2 ≤ length (take (length out - at) (drop at out))
    rests_room = omega (arith, filling_room (rest_piece conds wire ts) out out₀ k at i l h, size)

    pub rests_step : (t w next : ℕ) (ys : List ℕ) → next ≡ at + 2 → t ≡ get_or ts i 0 → w ≡ wire (get_or conds t 0)
        → ys ≡ over (bytes_of 2 w) (take (length out - at) (drop at out)) → Filling (rest_piece conds wire ts) (put_mid at (length out - at) out ys) out₀ k next (i + 1)
    unfolding rest_piece
    rests_step t w next ys n e q p =
        let v : w ≡ wire (get_or conds (get_or ts i 0) 0) = rw e at q in
        rw n (filling_step (rest_piece conds wire ts) out out₀ k at i l h 2 ys (sym size) (rw v at p))

  pub rests_end : (out out₀ : List ℕ) (at i : ℕ) → Filling (rest_piece conds wire ts) out out₀ k at i → k ≤ i → k ≡ length ts
      → out ≡ over (wires_bytes (map (λ t. wire (get_or conds t 0)) ts)) out₀
  rests_end out out₀ at i l h e = (filling_end (rest_piece conds wire ts) out out₀ k at i l h).1 ∙ ap (λ (b : List ℕ). over b out₀) (rest_pieces e)

-- The members of a group.

-- member i is a gate
pub member_inside : (p : List ℕ) (at i g : ℕ) → Lies p at → g ≡ get_or (group_at p at) i 0 → i < get_or p at 0 → g < most_gates
member_inside p at i g h e l = rw e (h.inside (get_or (group_at p at) i 0) (member_in p at i l))

-- and its arguments have wires
pub member_placed : (quads p group : List ℕ) (k at i g : ℕ) → Paired quads p group k at → g ≡ get_or (group_at p at) i 0 → i < get_or p at 0 → Grouped group
    (argument_at quads g k)
member_placed quads p group k at i g h e l = rw e (h.placed (get_or (group_at p at) i 0) (member_in p at i l))

-- argument k of member i stands in the quads
pub member_argument : (quads p group : List ℕ) (k at i g : ℕ) → Paired quads p group k at → g ≡ get_or (group_at p at) i 0 → i < get_or p at 0
    → (4 * g + 1 + k < 4 * most_gates) × Grouped group (argument_at quads g k)
member_argument quads p group k at i g h e l = (omega (arith, member_inside p at i g h.lies e l, h.few), member_placed quads p group k at i g h e l)

-- The guards of a group: piece i is that of member i.

abbrev pub guard_piece : List ℕ → (ℕ → ℕ) → List ℕ → List ℕ → ℕ → List ℕ
guard_piece conds wire sets ms i = record_bytes written_version (guard_in conds wire (get_or sets (get_or ms i 0) 0))

-- loop invariant: the guards of i members are written
pub record GuardFilling (conds : List ℕ) (wire : ℕ → ℕ) (sets p : List ℕ) (place : ℕ) (out out₀ : List ℕ) (at i : ℕ) : Type 0 where
  pub filling : Filling (guard_piece conds wire sets (group_at p place)) out out₀ (get_or p place 0) at i

module _ (conds : List ℕ) (wire : ℕ → ℕ) (sets p : List ℕ) (place : ℕ) where
  whole : pieces (guard_piece conds wire sets (group_at p place)) (get_or p place 0) ≡ records_bytes written_version (guards_in conds wire sets (group_at p place))
  whole = ap (pieces (guard_piece conds wire sets (group_at p place))) (sym (length_group p place)) ∙ record_pieces (λ m. guard_in conds wire (get_or sets m 0))
      (group_at p place)

  pub guards_start : (out : List ℕ) → length (records_bytes written_version (guards_in conds wire sets (group_at p place))) ≤ length out → GuardFilling conds wire sets p place out out 0 0
  guards_start out h = record { filling = filling_start (guard_piece conds wire sets (group_at p place)) out (get_or p place 0) (rw whole h) }

  module _ (out out₀ : List ℕ) (at i g : ℕ) (l : GuardFilling conds wire sets p place out out₀ at i) (h : i < get_or p place 0) (e : g ≡ get_or (group_at p place) i 0) where
    pub guards_fits : (at + length (record_bytes written_version (guard_in conds wire (get_or sets g 0))) ≤ length out) × (length out ≡ length out₀)
    guards_fits = (
      rw e (filling_fits (guard_piece conds wire sets (group_at p place)) out out₀ (get_or p place 0) at i l.filling h),
      filling_length
          (guard_piece conds wire sets (group_at p place)) out out₀ (get_or p place 0) at i l.filling h,
    )

    pub guards_room : length (record_bytes written_version (guard_in conds wire (get_or sets g 0))) ≤ length (take (length out - at) (drop at out))
    guards_room = rw e (filling_room (guard_piece conds wire sets (group_at p place)) out out₀ (get_or p place 0) at i l.filling h)

    pub guards_step : (k : ℕ) (ys : List ℕ) → k ≡ length (record_bytes written_version (guard_in conds wire (get_or sets g 0))) → ys ≡ over
        (record_bytes written_version (guard_in conds wire (get_or sets g 0))) (take (length out - at) (drop at out))
        → GuardFilling conds wire sets p place (put_mid at (length out - at) out ys) out₀ (at + k) (i + 1)
    guards_step k ys q r = record
        { filling = filling_step (guard_piece conds wire sets (group_at p place)) out out₀ (get_or p place 0) at i l.filling h k ys (rw e at q) (rw e at r) }

  pub guards_end : (out out₀ : List ℕ) (at i : ℕ) → GuardFilling conds wire sets p place out out₀ at i → get_or p place 0 ≤ i
      → Written (records_bytes written_version (guards_in conds wire sets (group_at p place))) at out₀ out
  guards_end out out₀ at i l h =
      let r = rw whole at (filling_end (guard_piece conds wire sets (group_at p place)) out out₀ (get_or p place 0) at i l.filling h) in record { counted = r.0; written = r.1 }

-- The pairs of a pick: piece i is the pair of member i.

abbrev pub pair_piece : List ℕ → (ℕ → ℕ) → ℕ → ℕ → List ℕ → ℕ → List ℕ
pair_piece quads wire n k ms i = wires_bytes ((n + i) ∷ wire (argument_at quads (get_or ms i 0) k) ∷ [])

-- loop invariant: the pairs of i members are written
pub record PairFilling (quads : List ℕ) (wire : ℕ → ℕ) (n k : ℕ) (p : List ℕ) (place : ℕ) (out out₀ : List ℕ) (at i : ℕ) : Type 0 where
  pub filling : Filling (pair_piece quads wire n k (group_at p place)) out out₀ (get_or p place 0) at i

module _ (quads : List ℕ) (wire : ℕ → ℕ) (n k : ℕ) (p : List ℕ) (place : ℕ) where
  pairs_whole : pieces (pair_piece quads wire n k (group_at p place)) (get_or p place 0) ≡ wires_bytes (pair_wires (pairs_in quads wire n k (group_at p place)))
  pairs_whole = ap (pieces (pair_piece quads wire n k (group_at p place))) (sym (length_group p place)) ∙ pair_pieces (λ m. wire (argument_at quads m k)) n (group_at p place)

  -- a pair for each member
  pub pairs_count : length (pairs_in quads wire n k (group_at p place)) ≡ get_or p place 0
  pairs_count = length_pairs n (map (λ m. wire (argument_at quads m k)) (group_at p place)) ∙ length-map (group_at p place) (λ m. wire (argument_at quads m k))
      ∙ length_group p place

  pair_bytes : length (wires_bytes (pair_wires (pairs_in quads wire n k (group_at p place)))) ≡ 4 * get_or p place 0
  pair_bytes = wires_size (pair_wires (pairs_in quads wire n k (group_at p place))) ∙ omega (arith, pairs_size (pairs_in quads wire n k (group_at p place)), pairs_count)

  pub pairs_start : (out : List ℕ) → 4 * get_or p place 0 ≤ length out → PairFilling quads wire n k p place out out 0 0
  pairs_start out h = record { filling = filling_start (pair_piece quads wire n k (group_at p place)) out (get_or p place 0) (rw (pairs_whole, pair_bytes) h) }

  module _ (out out₀ : List ℕ) (at i : ℕ) (l : PairFilling quads wire n k p place out out₀ at i) (h : i < get_or p place 0) where
    four : length (pair_piece quads wire n k (group_at p place) i) ≡ 4
    four = wires_size ((n + i) ∷ wire (argument_at quads (get_or (group_at p place) i 0) k) ∷ [])

    pub pairs_fits : (at + 4 ≤ length out) × (length out ≡ length out₀)
    pairs_fits = (
      omega (arith, filling_fits (pair_piece quads wire n k (group_at p place)) out out₀ (get_or p place 0) at i l.filling h, four),
      filling_length
          (pair_piece quads wire n k (group_at p place)) out out₀ (get_or p place 0) at i l.filling h,
    )

    pub pairs_room : 4 ≤ length (take (length out - at) (drop at out))
    pairs_room = omega (arith, filling_room (pair_piece quads wire n k (group_at p place)) out out₀ (get_or p place 0) at i l.filling h, four)

    pub pairs_step : (w next : ℕ) (ys : List ℕ) → next ≡ at + 4 → w ≡ get_or (values_in quads wire k (group_at p place)) i 0
        → ys ≡ over (wires_bytes ((n + i) ∷ w ∷ [])) (take (length out - at) (drop at out)) → PairFilling quads wire n k p place (put_mid at (length out - at) out ys) out₀
        next (i + 1)
    pairs_step w next ys m q r =
        let v : w ≡ wire (argument_at quads (get_or (group_at p place) i 0) k) =
        q ∙ map_at (λ m. wire (argument_at quads m k)) (group_at p place) i (omega (arith, h, length_group p place)) in
        rw m (record { filling = filling_step (pair_piece quads wire n k (group_at p place)) out out₀ (get_or p place 0) at i l.filling h 4 ys (sym four) (rw v at r) })

  pub pairs_end : (out out₀ : List ℕ) (at i : ℕ) → PairFilling quads wire n k p place out out₀ at i → get_or p place 0 ≤ i → out ≡ over
      (wires_bytes (pair_wires (pairs_in quads wire n k (group_at p place)))) out₀
  pairs_end out out₀ at i l h = (filling_end (pair_piece quads wire n k (group_at p place)) out out₀ (get_or p place 0) at i l.filling h).1 ∙ ap
      (λ (b : List ℕ). over b out₀) pairs_whole
