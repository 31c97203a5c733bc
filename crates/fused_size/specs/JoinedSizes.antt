-- The size of a joined group: how many wires and bytes its records come to, and their cost.
use Rattle.std.specs.Prelude.{ℕ, suc, ◌+◌, ◌*◌, ◌≤◌, ◌<◌, ◌≡◌, refl, Bool, true, false, cond, List, [], ◌∷◌, length, get_or}
use Rattle.std.proofs.Common.{sym, ap, ap₂, ◌∙◌, arith, length-append}
use Rattle.base.specs.Lists.{Inside}
use Rattle.base.specs.Sets.{rests}
use Rattle.base.specs.PlaceLaws.{few_rests}
use Rattle.base.specs.Codes.{entry_of, operation_of, code_of}
use Rattle.base.specs.CodeLaws.{code_operation}
use Rattle.base.specs.declared.Code.{Code}
use Rattle.circuit.specs.Gates.{conditions}
use Rattle.circuit.specs.Limits.{most_conditions}
use Rattle.circuit_needed.specs.Held.{Applies, gates_in, code_at}
use Rattle.plan.specs.PlanFile.{group_at}
use Rattle.plan.specs.NumberLaws.{length_group, member_in}
use Rattle.file.specs.Versions.{written_version, table_bytes}
use Rattle.file.specs.Records.{Record, pick, records_cost}
use Rattle.file.specs.CircuitFile.{record_bytes, records_bytes}
use Rattle.file.specs.SizeLaws.{size_append, cost_none, cost_one, cost_append, cost_ones}
use Rattle.fused_group.specs.Joined.{emit_in, guard_in, guards_in, pairs_in, Joinable}
use Rattle.fused_group.specs.Decisions.{Decided, has_pick, kept_in, place_in, picks_in, operation_in, fused_in, joined_in}
use Rattle.fused_group.specs.GuardLaws.{guard_size}
use Rattle.fused_group.specs.LoopLaws.{pairs_count}
use Rattle.fused_group.specs.PartLaws.{cond_map, place_long, operation_long}
use Rattle.fused_group.specs.JoinLaws.{two_applies, emit_joined}
use Rattle.fused_group.specs.JoinedLaws.{fusing, first_member, joined_count}
use Rattle.fused_group.specs.declared.Picks.{Picks}
use Rattle.fused_size.specs.declared.Size.{Size}
use Rattle.fused_size.specs.Sizes.{one_of, sum_of, Together, rested_by, guards_bytes, GuardsSized, PlaceSized, Measured}

-- The guards.

guards_long : (conds : List ℕ) (wire : ℕ → ℕ) (sets ms : List ℕ) → length (records_bytes written_version (guards_in conds wire sets ms)) ≡ guards_bytes sets ms
guards_long conds wire sets [] = omega arith
guards_long conds wire sets (m ∷ ms) =
    length-append (record_bytes written_version (guard_in conds wire (get_or sets m 0))) (records_bytes written_version (guards_in conds wire sets ms))
    ∙ (let a : length (record_bytes written_version (guard_in conds wire (get_or sets m 0))) ≡ 2 + table_bytes written_version + 2 * length (rests most_conditions (get_or sets m 0)) =
    guard_size conds wire (get_or sets m 0) in
    let b : length (records_bytes written_version (guards_in conds wire sets ms)) ≡ (2 + table_bytes written_version) * length ms + 2 * rested_by sets ms = guards_long conds wire sets ms in
    let z : length (record_bytes written_version (guard_in conds wire (get_or sets m 0))) + length (records_bytes written_version (guards_in conds wire sets ms))
    ≡ (2 + table_bytes written_version) * suc (length ms) + 2 * (length (rests most_conditions (get_or sets m 0)) + rested_by sets ms) = omega (arith, a, b) in
    z)

-- The decision made: what the guards and each of the two places come to, and the whole group.

module _ (sets p : List ℕ) (at : ℕ) (picks : Picks) (b : Bool) (e : b ≡ has_pick picks) where
  pub kept_sized : b ≡ true → (k : ℕ) → k ≡ rested_by sets (group_at p at) → GuardsSized sets p at picks
      (record { wires = get_or p at 0; bytes = (2 + table_bytes written_version) * get_or p at 0 + 2 * k; cost = get_or p at 0 })
  kept_sized h k q = rw (sym e ∙ h) (refl, (omega (arith, q, length_group p at), refl))

module _ (quads sets conds : List ℕ) (wire : ℕ → ℕ) (n : ℕ) (p : List ℕ) (at : ℕ) (picks : Picks) where
  joined_long : Applies (code_at quads (get_or (group_at p at) 0 0)) → length (records_bytes written_version (joined_in quads sets conds wire n (group_at p at) picks))
      ≡ cond (has_pick picks) (guards_bytes sets (group_at p at)) 0 + cond picks.first (2 + 4 * get_or p at 0) 0 + cond picks.second (2 + 4 * get_or p at 0) 0 + 5
  joined_long code =
      size_append written_version (kept_in conds wire sets (group_at p at) picks) (fused_in quads wire n (group_at p at) picks)
      ∙ omega (
        arith,
        size_append written_version (picks_in quads wire n (group_at p at) picks) (operation_in quads wire n (group_at p at) picks ∷ []),
        size_append written_version (place_in quads wire n 0 (group_at p at) picks.first) (place_in quads wire n 1 (group_at p at) picks.second),
        cond_map (λ (R : List Record). length (records_bytes written_version R)) (has_pick picks) (guards_in conds wire sets (group_at p at)) []
            ∙ ap (λ (k : ℕ). cond (has_pick picks) k 0) (guards_long conds wire sets (group_at p at)),
        place_long quads wire n 0 p at picks.first,
        place_long quads wire n 1 p at picks.second,
        operation_long quads wire n p at picks code,
      )

  place_cost : (k : ℕ) (picked : Bool) → records_cost (place_in quads wire n k (group_at p at) picked) ≡ cond picked (2 * get_or p at 0) 0
  place_cost k picked =
      cond_map records_cost picked (pick (pairs_in quads wire n k (group_at p at)) ∷ []) []
      ∙ ap₂ (λ (x y : ℕ). cond picked x y)
      (cost_one (pick (pairs_in quads wire n k (group_at p at))) ∙ ap (λ (i : ℕ). 2 * i) (pairs_count quads wire n k p at)) cost_none

  joined_cost : records_cost (joined_in quads sets conds wire n (group_at p at) picks)
      ≡ cond (has_pick picks) (get_or p at 0) 0 + cond picks.first (2 * get_or p at 0) 0 + cond picks.second (2 * get_or p at 0) 0
      + (entry_of (operation_of (code_at quads (get_or (group_at p at) 0 0)))).cost
  joined_cost =
      cost_append (kept_in conds wire sets (group_at p at) picks) (fused_in quads wire n (group_at p at) picks)
      ∙ omega (
        arith,
        cost_append (picks_in quads wire n (group_at p at) picks) (operation_in quads wire n (group_at p at) picks ∷ []),
        cost_append (place_in quads wire n 0 (group_at p at) picks.first) (place_in quads wire n 1 (group_at p at) picks.second),
        cond_map records_cost (has_pick picks) (guards_in conds wire sets (group_at p at)) []
            ∙ ap₂ (λ (x y : ℕ). cond (has_pick picks) x y) (cost_ones (λ m. guard_in conds wire (get_or sets m 0)) (λ m. refl) (group_at p at) ∙ length_group p at) cost_none,
        place_cost 0 picks.first,
        place_cost 1 picks.second,
        cost_one (operation_in quads wire n (group_at p at) picks),
      )

-- the size of a joined group: what the guards, the two places and the operation come to
pub joined_sized : (quads sets p group : List ℕ) (wire : ℕ → ℕ) (at g : ℕ) (picks : Picks) (means : Code) (k x y : Size) → Joinable quads p group at
    → Decided quads wire (group_at p at) picks → g ≡ get_or (group_at p at) 0 0 → means ≡ code_of (code_at quads g)
    → GuardsSized sets p at picks k → PlaceSized (get_or p at 0) picks.first x → PlaceSized (get_or p at 0) picks.second y
    → Measured quads sets wire (group_at p at) (sum_of (sum_of (sum_of k x) y) (one_of 5 means.cost))
joined_sized quads sets p group wire at g picks means k x y j d gg rr (kw, (kb, kc)) (xw, (xb, xc)) (yw, (yb, yc)) =
    record {
      wired = λ count n below. omega (
        arith,
        kw,
        xw,
        yw,
        ap (λ (R : List Record). length R) (same count n below) ∙ joined_count quads sets (conditions (gates_in quads count)) wire n p at picks,
      );
      long = λ count n below. rw (kb, xb, yb) (sym
          (ap (λ (R : List Record). length (records_bytes written_version R)) (same count n below) ∙ joined_long quads sets (conditions (gates_in quads count)) wire n p at picks code));
      costs = λ count n below. rw (kc, xc, yc, cost) (sym
          (ap (λ (R : List Record). records_cost R) (same count n below) ∙ joined_cost quads sets (conditions (gates_in quads count)) wire n p at picks));
    }
  where
    many : 2 ≤ length (group_at p at)
    many = rw (length_group p at) j.many

    code : Applies (code_at quads (get_or (group_at p at) 0 0))
    code = two_applies quads (get_or (group_at p at) 0 0) (j.two (get_or (group_at p at) 0 0) (member_in p at 0 (omega (arith, j.many))))

    same : (count n : ℕ) → Inside count (group_at p at) → emit_in quads count sets wire n (group_at p at) ≡ joined_in quads sets (conditions (gates_in quads count)) wire n
        (group_at p at) picks
    same count n below = emit_joined quads count sets (conditions (gates_in quads count)) wire n (group_at p at) picks d many below j.two (λ t l. refl)

    cost : means.cost ≡ (entry_of (operation_of (code_at quads (get_or (group_at p at) 0 0)))).cost
    cost = ap (λ (i : Code). i.cost)
        (rr ∙ ap (λ (i : ℕ). code_of (code_at quads i)) gg ∙ code_operation (code_at quads (get_or (group_at p at) 0 0)) code.0 code.1)

-- the first member's code is a byte, and few conditions are rested on
pub joined_first : (quads p group : List ℕ) (at g : ℕ) → Joinable quads p group at → g ≡ get_or (group_at p at) 0 0 → (g < 256) × (code_at quads g < 256)
joined_first quads p group at g j e = let f = first_member quads p group at g (fusing quads p group at j) e in (f.0, omega (arith, f.1.1))

rested_most : (sets ms : List ℕ) → rested_by sets ms ≤ most_conditions * length ms
rested_most sets [] = omega arith
rested_most sets (m ∷ ms) =
    let z : length (rests most_conditions (get_or sets m 0)) + rested_by sets ms ≤ most_conditions * suc (length ms) =
    omega (arith, few_rests most_conditions (get_or sets m 0), rested_most sets ms) in
    z

pub rested_few : (sets p : List ℕ) (at : ℕ) → rested_by sets (group_at p at) ≤ most_conditions * get_or p at 0
rested_few sets p at = omega (arith, rested_most sets (group_at p at), length_group p at)

none_more : (b : Bool) (k : ℕ) → cond b k 0 ≤ k
none_more true k = omega arith
none_more false k = omega arith

-- the parts are small
abbrev pub Small : Size → Type 0
Small s = (s.wires < 65536) × ((s.bytes < 65536) × (s.cost < 65536))

pub kept_small : (sets p : List ℕ) (at : ℕ) (picks : Picks) (s : Size) → get_or p at 0 < 256 → GuardsSized sets p at picks s → Small s
kept_small sets p at picks s h (w, (b, c)) =
    let most : s.bytes ≤ guards_bytes sets (group_at p at) = rw b (none_more (has_pick picks) (guards_bytes sets (group_at p at))) in
    let one : s.cost ≤ get_or p at 0 = rw c (none_more (has_pick picks) (get_or p at 0)) in
    let all : s.wires ≤ get_or p at 0 = rw w (none_more (has_pick picks) (get_or p at 0)) in
    (omega (arith, all, h), (omega (arith, most, rested_few sets p at, length_group p at, h), omega (arith, one, h)))

pub place_small : (size : ℕ) (picked : Bool) (s : Size) → size < 256 → PlaceSized size picked s → Small s
place_small size picked s h (w, (b, c)) =
    let most : s.bytes ≤ 2 + 4 * size = rw b (none_more picked (2 + 4 * size)) in
    let two : s.cost ≤ 2 * size = rw c (none_more picked (2 * size)) in
    let one : s.wires ≤ 1 = rw w (none_more picked 1) in
    (omega (arith, one), (omega (arith, most, h), omega (arith, two, h)))

-- the bytes and the cost of a joined group are small
pub joined_small : (sets p : List ℕ) (at : ℕ) (picks : Picks) (k x y : Size) → get_or p at 0 < 256 → GuardsSized sets p at picks k
    → PlaceSized (get_or p at 0) picks.first x → PlaceSized (get_or p at 0) picks.second y → (k.bytes + x.bytes + y.bytes + 5 < 65536) × (k.cost + x.cost + y.cost < 65536)
joined_small sets p at picks k x y h (kw, (kb, kc)) (xw, (xb, xc)) (yw, (yb, yc)) =
    let most : k.bytes ≤ guards_bytes sets (group_at p at) = rw kb (none_more (has_pick picks) (guards_bytes sets (group_at p at))) in
    let one : k.cost ≤ get_or p at 0 = rw kc (none_more (has_pick picks) (get_or p at 0)) in
    let first : x.bytes ≤ 2 + 4 * get_or p at 0 = rw xb (none_more picks.first (2 + 4 * get_or p at 0)) in
    let second : y.bytes ≤ 2 + 4 * get_or p at 0 = rw yb (none_more picks.second (2 + 4 * get_or p at 0)) in
    let third : x.cost ≤ 2 * get_or p at 0 = rw xc (none_more picks.first (2 * get_or p at 0)) in
    let fourth : y.cost ≤ 2 * get_or p at 0 = rw yc (none_more picks.second (2 * get_or p at 0)) in
    (omega (arith, most, rested_few sets p at, length_group p at, first, second, h), omega (arith, one, third, fourth, h))

-- so the sums fit
pub sums_fit : (k x y o : Size) → Small k → Small x → Small y → Small o → Together k x × (Together (sum_of k x) y × Together (sum_of (sum_of k x) y) o)
sums_fit k x y o (kw, (kb, kc)) (xw, (xb, xc)) (yw, (yb, yc)) (ow, (ob, oc)) = (
  (omega (arith, kw, xw), (omega (arith, kb, xb), omega (arith, kc, xc))),
  (
    (omega (arith, kw, xw, yw), (omega (arith, kb, xb, yb), omega (arith, kc, xc, yc))),
    (omega (arith, kw, xw, yw, ow), (omega (arith, kb, xb, yb, ob), omega (arith, kc, xc, yc, oc))),
  ),
)
