-- Writing a guard and a pick: their sizes, and that the bytes written are the record's.
use Rattle.std.specs.Prelude.{ℕ, suc, ◌+◌, ◌-◌, ◌*◌, ◌≤◌, ◌≡◌, refl, List, [], ◌∷◌, ◌++◌, map, length, get_or, take, drop}
use Rattle.std.proofs.Common.{sym, ap, ◌∙◌, arith, length-append}
use Rattle.std.proofs.lemmas.List.{length-map}
use borrow.Rule.Slice.PartMut.{put_mid}
use Rattle.base.specs.Numbers.{bytes_of}
use Rattle.base.specs.NumberLaws.{length_bytes}
use Rattle.base.specs.Buffers.{over}
use Rattle.base.specs.BufferLaws.{length_over, room_rest}
use Rattle.base.specs.Sets.{rests}
use Rattle.base.specs.Guards.{table}
use Rattle.circuit.specs.Limits.{most_conditions}
use Rattle.file.specs.Versions.{written_version, table_bytes}
use Rattle.file.specs.Records.{Pair, pick, pair_wires}
use Rattle.file.specs.CircuitFile.{wires_bytes, record_bytes}
use Rattle.file.specs.SizeLaws.{wires_size, pick_size}
use Rattle.fused_group.specs.Joined.{guard_in}
use Rattle.fused_gate.specs.Emitted.{Written}
use Rattle.fused_gate.specs.ByteLaws.{behind}

-- the wires of conditions have two bytes each
pub rest_wires : (conds : List ℕ) (wire : ℕ → ℕ) (ts : List ℕ) → length (wires_bytes (map (λ t. wire (get_or conds t 0)) ts)) ≡ 2 * length ts
rest_wires conds wire ts = wires_size (map (λ t. wire (get_or conds t 0)) ts) ∙ ap (λ (k : ℕ). 2 * k) (length-map ts (λ t. wire (get_or conds t 0)))

module _ (conds : List ℕ) (wire : ℕ → ℕ) (s : ℕ) where
  pub guard_size : length (record_bytes written_version (guard_in conds wire s)) ≡ 2 + table_bytes written_version + 2 * length (rests most_conditions s)
  guard_size =
      let W : List ℕ = wires_bytes (map (λ t. wire (get_or conds t 0)) (rests most_conditions s)) in
      let e : length (W ++ bytes_of (table_bytes written_version) (table most_conditions s)) ≡ 2 * length (rests most_conditions s) + table_bytes written_version =
      length-append W (bytes_of (table_bytes written_version) (table most_conditions s))
      ∙ rw (rest_wires conds wire (rests most_conditions s), length_bytes (table_bytes written_version) (table most_conditions s)) in
      let z : suc (suc (length (W ++ bytes_of (table_bytes written_version) (table most_conditions s)))) ≡ 2 + table_bytes written_version + 2 * length (rests most_conditions s) = omega (arith, e) in
      z

  -- the head, the wires, the table
  pub guard_put : (k n t : ℕ) (d e ys zs : List ℕ) → k ≡ length (rests most_conditions s) → n ≡ 2 + 2 * k → t ≡ table most_conditions s
      → length (record_bytes written_version (guard_in conds wire s)) ≤ length d → e ≡ over (0x32 ∷ k ∷ []) d
      → ys ≡ over (wires_bytes (map (λ t. wire (get_or conds t 0)) (rests most_conditions s))) (take (length e - 2) (drop 2 e))
      → zs ≡ over (bytes_of (table_bytes written_version) t) (take (length (put_mid 2 (length e - 2) e ys) - n) (drop n (put_mid 2 (length e - 2) e ys)))
      → Written (record_bytes written_version (guard_in conds wire s)) (n + table_bytes written_version) d
      (put_mid n (length (put_mid 2 (length e - 2) e ys) - n) (put_mid 2 (length e - 2) e ys) zs)
  guard_put k n t d e ys zs kk nn tt room p q r =
      let W : List ℕ = wires_bytes (map (λ t. wire (get_or conds t 0)) (rests most_conditions s)) in
      let ww : length W ≡ 2 * k = rest_wires conds wire (rests most_conditions s) ∙ ap (λ (j : ℕ). 2 * j) (sym kk) in
      let z : length (record_bytes written_version (guard_in conds wire s)) ≡ 2 + table_bytes written_version + 2 * k = guard_size ∙ ap (λ (j : ℕ). 2 + table_bytes written_version + 2 * j) (sym kk) in
      let a : put_mid 2 (length e - 2) e ys ≡ over (0x32 ∷ k ∷ W) d =
      behind (0x32 ∷ k ∷ []) W (0x32 ∷ k ∷ W) d e ys 2 refl refl (let y : suc (suc (length W)) ≤ length d = omega (arith, ww, z, room) in y) p q in
      let m : length (map (λ t. wire (get_or conds t 0)) (rests most_conditions s)) ≡ k = length-map (rests most_conditions s) (λ t. wire (get_or conds t 0)) ∙ sym kk in
      let j : record_bytes written_version (guard_in conds wire s) ≡ (0x32 ∷ k ∷ W) ++ bytes_of (table_bytes written_version) t =
      ap (λ (i : ℕ). 0x32 ∷ i ∷ (W ++ bytes_of (table_bytes written_version) (table most_conditions s))) m ∙ ap (λ (i : ℕ). 0x32 ∷ k ∷ (W ++ bytes_of (table_bytes written_version) i)) (sym tt) in
      let l : n ≡ suc (suc (length W)) = omega (arith, nn, ww) in
      record {
        counted = omega (arith, z, nn);
        written = behind (0x32 ∷ k ∷ W) (bytes_of (table_bytes written_version) t) (record_bytes written_version (guard_in conds wire s)) d _ zs n l j room a r;
      }

  -- the room for the wires behind the head, and for the table behind them
  pub guard_room : (k : ℕ) (d e : List ℕ) → length (record_bytes written_version (guard_in conds wire s)) ≤ length d → e ≡ over (0x32 ∷ k ∷ []) d
      → 2 * length (rests most_conditions s) ≤ length (take (length e - 2) (drop 2 e))
  guard_room k d e room p =
      let l : length e ≡ length d = ap (λ (x : List ℕ). length x) p ∙ length_over (0x32 ∷ k ∷ []) d (let y : 2 ≤ length d = omega (arith, guard_size, room) in y) in
      rw (room_rest e 2) (omega (arith, l, guard_size, room))

  pub guard_fits : (k : ℕ) (d e ys : List ℕ) → k ≡ length (rests most_conditions s) → length (record_bytes written_version (guard_in conds wire s)) ≤ length d → e ≡ over (0x32 ∷ k ∷ []) d
      → ys ≡ over (wires_bytes (map (λ t. wire (get_or conds t 0)) (rests most_conditions s))) (take (length e - 2) (drop 2 e))
      → 2 + 2 * k + table_bytes written_version ≤ length (put_mid 2 (length e - 2) e ys)
  guard_fits k d e ys kk room p q =
      let W : List ℕ = wires_bytes (map (λ t. wire (get_or conds t 0)) (rests most_conditions s)) in
      let ww : length W ≡ 2 * k = rest_wires conds wire (rests most_conditions s) ∙ ap (λ (j : ℕ). 2 * j) (sym kk) in
      let z : length (record_bytes written_version (guard_in conds wire s)) ≡ 2 + table_bytes written_version + 2 * k = guard_size ∙ ap (λ (j : ℕ). 2 + table_bytes written_version + 2 * j) (sym kk) in
      let y : suc (suc (length W)) ≤ length d = omega (arith, ww, z, room) in
      let a : put_mid 2 (length e - 2) e ys ≡ over (0x32 ∷ k ∷ W) d = behind (0x32 ∷ k ∷ []) W (0x32 ∷ k ∷ W) d e ys 2 refl refl y p q in
      let l : length (put_mid 2 (length e - 2) e ys) ≡ length d = ap (λ (x : List ℕ). length x) a ∙ length_over (0x32 ∷ k ∷ W) d y in
      omega (arith, l, z, room)

  pub guard_last : (k : ℕ) (d e ys : List ℕ) → k ≡ length (rests most_conditions s) → length (record_bytes written_version (guard_in conds wire s)) ≤ length d → e ≡ over (0x32 ∷ k ∷ []) d
      → ys ≡ over (wires_bytes (map (λ t. wire (get_or conds t 0)) (rests most_conditions s))) (take (length e - 2) (drop 2 e))
      → table_bytes written_version ≤ length (take (length (put_mid 2 (length e - 2) e ys) - (2 + 2 * k)) (drop (2 + 2 * k) (put_mid 2 (length e - 2) e ys)))
  guard_last k d e ys kk room p q = rw (room_rest (put_mid 2 (length e - 2) e ys) (2 + 2 * k)) (omega (arith, guard_fits k d e ys kk room p q))

-- Picks.

pub pick_put : (P : List Pair) (k : ℕ) (d e ys : List ℕ) → length P ≡ k → 2 + 4 * k ≤ length d → e ≡ over (0x31 ∷ k ∷ []) d
    → ys ≡ over (wires_bytes (pair_wires P)) (take (length e - 2) (drop 2 e)) → put_mid 2 (length e - 2) e ys ≡ over (record_bytes written_version (pick P)) d
pick_put P k d e ys l room p q =
    behind (0x31 ∷ k ∷ []) (wires_bytes (pair_wires P)) (record_bytes written_version (pick P)) d e ys 2 refl (ap (λ (i : ℕ). 0x31 ∷ i ∷ wires_bytes (pair_wires P)) l)
    (omega (arith, pick_size written_version P, l, room)) p q
