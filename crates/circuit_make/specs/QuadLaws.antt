-- Gates in quads: those of joined lists are joined; a gate is pushed behind the others where there is room, and where there is none the count becomes 257 and no more is stored.
use Rattle.std.specs.Prelude.{ℕ, ◌+◌, ◌*◌, ◌≤◌, ◌<◌, ◌≡◌, refl, List, [], ◌∷◌, ◌++◌, length, set}
use Rattle.std.proofs.Common.{arith, sym, ap, ◌∙◌, append_assoc, append-nil, length-append}
use Rattle.base.specs.Buffers.{padded}
use Rattle.base.specs.BufferLaws.{padded_more}
use Rattle.circuit.specs.Gates.{Gate, operation, Gates}
use Rattle.base.specs.declared.Operation.{Operation}
use Rattle.circuit.specs.PlainCircuit.{in_order, apply_gate}
use Rattle.circuit.proofs.ApplyLaws.{apply_is}
use Rattle.base.specs.Codes.{byte_of}
use Rattle.circuit.specs.Quads.{quad_of, quads_of}
use Rattle.circuit.specs.QuadLaws.{quads_length}
use Rattle.circuit_make.specs.Holding.{Pushed, Applied}

-- one gate more
pub quads_append : (s : List ℕ) (C D : Gates) → quads_of s (C ++ D) ≡ quads_of s C ++ quads_of s D
unfolding quads_of
quads_append s [] D = refl
quads_append s (k ∷ C) D = ap (λ (l : List ℕ). quad_of s k ++ l) (quads_append s C D) ∙ sym (append_assoc (quad_of s k) (quads_of s C) (quads_of s D))

quads_one : (s : List ℕ) (k : Gate) → quads_of s (k ∷ []) ≡ quad_of s k
unfolding quads_of
quads_one s k = append-nil (quad_of s k)

-- four stores, one after the other
abbrev stores : List ℕ → ℕ → ℕ → ℕ → ℕ → ℕ → List ℕ
stores l i v w x y = set (set (set (set l i v) (i + 1) w) (i + 2) x) (i + 3) y

four : (l : List ℕ) (i v w x y : ℕ) → length l ≡ i → i + 4 ≤ 1024 → stores (padded 1024 l) i v w x y ≡ padded 1024 (l ++ (v ∷ w ∷ x ∷ y ∷ []))
four l i v w x y e h =
    let l1 = l ++ (v ∷ []) in
    let l2 = l1 ++ (w ∷ []) in
    let l3 = l2 ++ (x ∷ []) in
    let e1 = length-append l (v ∷ []) in
    let e2 = length-append l1 (w ∷ []) in
    let e3 = length-append l2 (x ∷ []) in
    let joined : l3 ++ (y ∷ []) ≡ l ++ (v ∷ w ∷ x ∷ y ∷ []) = simp append_assoc in
    ap (λ (t : List ℕ). set (set (set t (i + 1) w) (i + 2) x) (i + 3) y) (padded_more 1024 l i v e (omega arith))
    ∙ ap (λ (t : List ℕ). set (set t (i + 2) x) (i + 3) y) (padded_more 1024 l1 (i + 1) w (omega arith) (omega arith))
    ∙ ap (λ (t : List ℕ). set t (i + 3) y) (padded_more 1024 l2 (i + 2) x (omega arith) (omega arith))
    ∙ padded_more 1024 l3 (i + 3) y (omega arith) (omega arith)
    ∙ ap (padded 1024) joined

-- pushed where there is room

pub push_stores : (quads : List ℕ) (count v w x y : ℕ) → count < 256
    → Pushed (v ∷ w ∷ x ∷ y ∷ []) quads count (stores quads (4 * count) v w x y) (count + 1)
push_stores quads count v w x y h =
    record {
      pushed = λ s C k right held.
          let n : count ≡ length C = omega (arith, held.counted) in
          let more : length (C ++ (k ∷ [])) ≡ length C + 1 = length-append C (k ∷ []) in
          record {
            counted = omega arith;
            lie = λ few.
                let i : length (quads_of s C) ≡ 4 * count = quads_length s C ∙ omega arith in
                ap (λ (t : List ℕ). stores t (4 * count) v w x y) (held.lie (omega arith))
                ∙ four (quads_of s C) (4 * count) v w x y i (omega arith)
                ∙ ap (λ (t : List ℕ). padded 1024 (quads_of s C ++ t)) (sym (right (omega arith)) ∙ sym (quads_one s k))
                ∙ ap (padded 1024) (sym (quads_append s C (k ∷ [])));
          };
    }

-- pushed where there is none
pub push_full : (four quads : List ℕ) (count : ℕ) → 256 ≤ count → Pushed four quads count quads 257
push_full four quads count h =
    record {
      pushed = λ s C k right held.
          let more : length (C ++ (k ∷ [])) ≡ length C + 1 = length-append C (k ∷ []) in
          record { counted = omega (arith, held.counted); lie = λ few. absurd (omega (arith, held.counted)) };
    }

-- an operation of two arguments, pushed in the order in which its gate takes them
pub two_applied : (op : Operation) (a b first second byte : ℕ) {quads after : List ℕ} {count more : ℕ} → in_order op a b ≡ first ∷ second ∷ [] → byte ≡ byte_of op
    → Pushed (byte ∷ first ∷ second ∷ 0 ∷ []) quads count after more → Applied (apply_gate op a b) quads count after more
two_applied op a b first second byte o e p =
    record {
      applied = λ s C wanted right held.
          p.pushed s C wanted
          (λ h. ap (quad_of s) (right h ∙ apply_is op a b) ∙ ap (λ (l : List ℕ). quad_of s (operation op l)) o ∙ ap (λ (j : ℕ). j ∷ first ∷ second ∷ 0 ∷ []) (sym e)) held;
    }
