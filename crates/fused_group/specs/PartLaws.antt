-- The parts of a joined group: guards, a pick, the operation, each written or not by the decision.
use Rattle.std.specs.Prelude.{ℕ, suc, ◌+◌, ◌*◌, ◌≤◌, ◌≡◌, refl, Bool, true, false, cond, ◌||◌, List, [], ◌∷◌, length, get_or}
use Rattle.std.proofs.Common.{sym, ap, ap₂, ◌∙◌, true≢false, append-nil, arith}
use Rattle.base.specs.Buffers.{over}
use Rattle.base.specs.BufferLaws.{over_nil}
use Rattle.base.specs.CodeLaws.{byte_back}
use Rattle.circuit_needed.specs.Held.{Applies, code_at}
use Rattle.plan.specs.PlanFile.{group_at}
use Rattle.plan.specs.NumberLaws.{length_group}
use Rattle.file.specs.Versions.{written_version}
use Rattle.file.specs.Records.{Record, pick}
use Rattle.file.specs.CircuitFile.{wires_bytes, record_bytes, records_bytes}
use Rattle.file.specs.SizeLaws.{wires_size, pick_size, size_one}
use Rattle.fused_gate.specs.Emitted.{Written}
use Rattle.fused_group.specs.Joined.{guards_in, pairs_in}
use Rattle.fused_group.specs.Decisions.{has_pick, count_in, kept_in, place_in, read_in, operation_in}
use Rattle.fused_group.specs.LoopLaws.{pairs_count}
use Rattle.fused_group.specs.declared.Picks.{Picks}

-- a function of either of two
pub cond_map : {A B : Type 0} (f : A → B) (b : Bool) (x y : A) → f (cond b x y) ≡ cond b (f x) (f y)
cond_map f true x y = refl
cond_map f false x y = refl

-- a flag counts one at most
pub one_most : (b : Bool) → cond b 1 0 ≤ 1
one_most true = omega arith
one_most false = omega arith

-- how many records: with a pick the guards, each pick and the operation, with none the operation alone
module _ (size : ℕ) (picks : Picks) (b : Bool) (e : b ≡ has_pick picks) where
  pub count_guarded : (x y : ℕ) → x ≡ cond picks.first 1 0 → y ≡ cond picks.second 1 0 → b ≡ true → size + x + y + 1 ≡ count_in size picks
  count_guarded x y f g h = rw (f, g, sym e ∙ h) (omega arith)

  pub count_bare : b ≡ false → 1 ≡ count_in size picks
  count_bare h = go picks.first picks.second (sym e ∙ h)
    where
      go : (x y : Bool) → (x || y) ≡ false → 1 ≡ cond (x || y) size 0 + (cond x 1 0 + cond y 1 0) + 1
      go true y z = absurd (true≢false z)
      go false true z = absurd (true≢false z)
      go false false z = refl

-- nothing is written
pub none_put : (R : List Record) (d : List ℕ) → R ≡ [] → Written (records_bytes written_version R) 0 d d
none_put R d e = rw e (record { counted = refl; written = sym (over_nil d) })

-- the guards
module _ (conds : List ℕ) (wire : ℕ → ℕ) (sets ms : List ℕ) (picks : Picks) (b : Bool) (e : b ≡ has_pick picks) where
  pub kept_all : b ≡ true → kept_in conds wire sets ms picks ≡ guards_in conds wire sets ms
  kept_all h = rw (sym e ∙ h)

  pub kept_none : b ≡ false → kept_in conds wire sets ms picks ≡ []
  kept_none h = rw (sym e ∙ h)

-- a pick
module _ (quads : List ℕ) (wire : ℕ → ℕ) (n k : ℕ) (p : List ℕ) (at : ℕ) (picked : Bool) where
  pub place_none : picked ≡ false → place_in quads wire n k (group_at p at) picked ≡ []
  place_none h = rw h

  pub place_long : length (records_bytes written_version (place_in quads wire n k (group_at p at) picked)) ≡ cond picked (2 + 4 * get_or p at 0) 0
  place_long =
      cond_map (λ (R : List Record). length (records_bytes written_version R)) picked (pick (pairs_in quads wire n k (group_at p at)) ∷ []) []
      ∙ ap (λ (i : ℕ). cond picked i 0)
      (size_one written_version (pick (pairs_in quads wire n k (group_at p at))) ∙ pick_size written_version (pairs_in quads wire n k (group_at p at))
      ∙ ap (λ (i : ℕ). 2 + 4 * i) (pairs_count quads wire n k p at))

  module _ (h : picked ≡ true) where
    long : length (records_bytes written_version (place_in quads wire n k (group_at p at) picked)) ≡ 2 + 4 * get_or p at 0
    long = place_long ∙ rw h

    pub place_room : (room : ℕ) → length (records_bytes written_version (place_in quads wire n k (group_at p at) picked)) ≤ room → 2 + 4 * get_or p at 0 ≤ room
    place_room room l = omega (arith, long, l)

    pub place_put : (r : ℕ) (d o : List ℕ) → r ≡ 2 + 4 * get_or p at 0 → o ≡ over (record_bytes written_version (pick (pairs_in quads wire n k (group_at p at)))) d
        → Written (records_bytes written_version (place_in quads wire n k (group_at p at) picked)) r d o
    place_put r d o q w =
        record {
          counted = q ∙ sym long;
          written = w ∙ ap (λ (b : List ℕ). over b d) (rw h (sym (append-nil (record_bytes written_version (pick (pairs_in quads wire n k (group_at p at)))))));
        }

-- the operation: its code and the two wires that it reads
module _ (quads : List ℕ) (wire : ℕ → ℕ) (n : ℕ) (p : List ℕ) (at : ℕ) (picks : Picks) where
  -- its wires
  abbrev reads : List ℕ
  reads =
      read_in quads wire 0 (group_at p at) picks.first (n + get_or p at 0) ∷ read_in quads wire 1 (group_at p at) picks.second
      (n + get_or p at 0 + cond picks.first 1 0) ∷ []

  operation_bytes : Applies (code_at quads (get_or (group_at p at) 0 0))
      → records_bytes written_version (operation_in quads wire n (group_at p at) picks ∷ []) ≡ code_at quads (get_or (group_at p at) 0 0) ∷ wires_bytes reads
  operation_bytes code =
      append-nil (record_bytes written_version (operation_in quads wire n (group_at p at) picks))
      ∙ ap₂ (λ (b k : ℕ). b ∷ wires_bytes (read_in quads wire 0 (group_at p at) picks.first (n + k) ∷ read_in quads wire 1 (group_at p at) picks.second
      (n + k + cond picks.first 1 0) ∷ [])) (byte_back (code_at quads (get_or (group_at p at) 0 0)) code.0 code.1) (length_group p at)

  pub operation_long : Applies (code_at quads (get_or (group_at p at) 0 0)) → length (records_bytes written_version (operation_in quads wire n (group_at p at) picks ∷ [])) ≡ 5
  operation_long code = ap (λ (b : List ℕ). length b) (operation_bytes code) ∙ ap suc (wires_size reads)

  pub operation_room : (room : ℕ) → Applies (code_at quads (get_or (group_at p at) 0 0))
      → length (records_bytes written_version (operation_in quads wire n (group_at p at) picks ∷ [])) ≤ room → 5 ≤ room
  operation_room room code l = omega (arith, operation_long code, l)

  pub operation_put : (g x j y : ℕ) (d o : List ℕ) → Applies (code_at quads (get_or (group_at p at) 0 0)) → g ≡ get_or (group_at p at) 0 0
      → x ≡ read_in quads wire 0 (group_at p at) picks.first (n + get_or p at 0) → j ≡ cond picks.first 1 0
      → y ≡ read_in quads wire 1 (group_at p at) picks.second (n + get_or p at 0 + j) → o ≡ over (code_at quads g ∷ wires_bytes (x ∷ y ∷ [])) d
      → Written (records_bytes written_version (operation_in quads wire n (group_at p at) picks ∷ [])) 5 d o
  operation_put g x j y d o code m ex ej ey w =
      record { counted = sym (operation_long code); written = w ∙ ap (λ (b : List ℕ). over b d) (rw (m, ex, ey, ej) (sym (operation_bytes code))) }
