-- A group's records depend only on the wires that they read and on the preconditions of its members.
use Rattle.std.specs.Prelude.{ℕ, ◌≤◌, ◌≡◌, refl, List, [], ◌∷◌, map, length, get_or}
use Rattle.std.proofs.Common.{ap, ap₂, inl, inr, arith}
use Rattle.base.specs.Lists.{◌∈◌, upto}
use Rattle.base.specs.MemberLaws.{from_below, get_or_in}
use Rattle.base.specs.ListLaws.{map_same}
use Rattle.base.specs.Guards.{table}
use Rattle.file.specs.Records.{Record, guard}
use Rattle.file.specs.Records as records
use Rattle.circuit.specs.Gates.{Gate, start, word, bit, operation, choice, Gates, gate_at, arguments}
use Rattle.circuit.specs.Limits.{most_conditions}
use Rattle.plan.specs.Groups.{rests_of}
use Rattle.plan.proofs.SameLaws.{rests_same}
use Rattle.fused.specs.Emission.{alone, gate_operation, joined, guard_of, values_at, emit}

-- Two maps to wires that agree on what a gate reads,
pub alone_same : (s : List ℕ) (f h : ℕ → ℕ) (k : Gate) → ((a : ℕ) → a ∈ arguments k → f a ≡ h a) → alone s f k ≡ alone s h k
alone_same s f h (start x) e = refl
alone_same s f h (word n) e = refl
alone_same s f h (bit b) e = refl
alone_same s f h (operation op l) e = ap (records.operation op) (map_same f h l e)
alone_same s f h (choice c a b) e = rw (e c (inl refl), e a (inr (inl refl)), e b (inr (inr (inl refl))))

-- and on what a group reads.
pub emit_same : (s : List ℕ) (C : Gates) (sets : List ℕ) (f h : ℕ → ℕ) (n : ℕ) (ms : List ℕ) → ((m a : ℕ) → m ∈ ms → a ∈ arguments (gate_at C m) → f a ≡ h a)
    → (2 ≤ length ms → (m a : ℕ) → m ∈ ms → a ∈ rests_of C sets m → f a ≡ h a)
    → (2 ≤ length ms → (m k : ℕ) → m ∈ ms → k ∈ ms → length (arguments (gate_at C m)) ≡ length (arguments (gate_at C k)))
    → emit s C sets f n ms ≡ emit s C sets h n ms
emit_same s C sets f h n [] args rested level = refl
emit_same s C sets f h n (m ∷ []) args rested level = ap (λ (r : Record). r ∷ []) (alone_same s f h (gate_at C m) (λ a i. args m a (inl refl) i))
emit_same s C sets f h n (m ∷ k ∷ l) args rested level =
    let ms : List ℕ = m ∷ k ∷ l in
    let many : 2 ≤ length ms = omega arith in
    let guards : map (guard_of s C sets f) ms ≡ map (guard_of s C sets h) ms =
    map_same (guard_of s C sets f) (guard_of s C sets h) ms
    (λ g i. ap (λ (w : List ℕ). guard w (table most_conditions (get_or sets g 0))) (map_same f h (rests_of C sets g) (λ a j. rested many g a i j))) in
    let places : map (values_at s C sets f ms) (upto (length (arguments (gate_at C m)))) ≡ map (values_at s C sets h ms) (upto (length (arguments (gate_at C m)))) =
    map_same (values_at s C sets f ms) (values_at s C sets h ms) (upto (length (arguments (gate_at C m))))
    (λ p j. map_same (λ g. f (get_or (arguments (gate_at C g)) p 0)) (λ g. h (get_or (arguments (gate_at C g)) p 0)) ms
    (λ g i. args g (get_or (arguments (gate_at C g)) p 0) i
    (get_or_in (arguments (gate_at C g)) p (omega (arith, (from_below 0 (length (arguments (gate_at C m))) p j).1, level many m g (inl refl) i))))) in
    ap₂ (λ (gs : List Record) (pl : List (List ℕ)). joined n (gate_operation (gate_at C m)) gs pl) guards places

-- Two lists of preconditions that give every gate the same.
module _ (s : List ℕ) (C : Gates) (sets tabs : List ℕ) (e : (g : ℕ) → get_or sets g 0 ≡ get_or tabs g 0) (wire : ℕ → ℕ) where
  guards_alike : (ms : List ℕ) → map (guard_of s C sets wire) ms ≡ map (guard_of s C tabs wire) ms
  guards_alike [] = refl
  guards_alike (m ∷ ms) = rw (rests_same C sets tabs e m, e m, guards_alike ms)

  pub emit_alike : (n : ℕ) (ms : List ℕ) → emit s C sets wire n ms ≡ emit s C tabs wire n ms
  emit_alike n [] = refl
  emit_alike n (m ∷ []) = refl
  emit_alike n (m ∷ k ∷ l) =
      ap (λ (g : List Record). joined n (gate_operation (gate_at C m)) g (map (values_at s C sets wire (m ∷ k ∷ l)) (upto (length (arguments (gate_at C m))))))
      (guards_alike (m ∷ k ∷ l))
