-- Conditions: the list holds exactly the gates that stand first in a choice gate, rising.
use Rattle.std.specs.Prelude.{ℕ, zero, suc, ◌+◌, ◌≤◌, ◌<◌, ◌≡◌, refl, Bool, List, [], ◌∷◌, length, get_or}
use Rattle.std.proofs.Common.{inl, inr, arith}
use Rattle.base.specs.Lists.{◌∈◌, elem, keep, from, upto}
use Rattle.base.specs.MemberLaws.{elem→∈, ∈→elem, keep_in, keep_from, from_in, from_below, get_or_in}
use Rattle.base.specs.TestLaws.{split}
use Rattle.circuit.specs.Gates.{Gate, start, word, bit, operation, choice, Gates, gate_at, Earlier, Condition, heads, conditions}

heads_tail : (k : Gate) (C : Gates) (c : ℕ) → c ∈ heads C → c ∈ heads (k ∷ C)
heads_tail (start x) C c m = m
heads_tail (word n) C c m = m
heads_tail (bit b) C c m = m
heads_tail (operation op l) C c m = m
heads_tail (choice d a b) C c m = inr m

heads_in : (C : Gates) (c i a b : ℕ) → gate_at C i ≡ choice c a b → c ∈ heads C
heads_in [] c i a b e = let z : ◌≡◌ {A = ℕ} 0 1 = cc in absurd (omega arith)
heads_in (k ∷ C) c zero a b e = rw e (inl refl)
heads_in (k ∷ C) c (suc i) a b e = heads_tail k C c (heads_in C c i a b e)

heads_from : (C : Gates) (c : ℕ) → c ∈ heads C → Condition C c
heads_from [] c m = absurd m
heads_from (start x ∷ C) c m = let r = heads_from C c m in (suc r.0, r.1, r.2, r.3)
heads_from (word n ∷ C) c m = let r = heads_from C c m in (suc r.0, r.1, r.2, r.3)
heads_from (bit b ∷ C) c m = let r = heads_from C c m in (suc r.0, r.1, r.2, r.3)
heads_from (operation op l ∷ C) c m = let r = heads_from C c m in (suc r.0, r.1, r.2, r.3)
heads_from (choice d a b ∷ C) c (inl e) = (0, a, b, rw e refl)
heads_from (choice d a b ∷ C) c (inr m) = let r = heads_from C c m in (suc r.0, r.1, r.2, r.3)

choice_inside : (C : Gates) (i c a b : ℕ) → gate_at C i ≡ choice c a b → i < length C
choice_inside [] i c a b e = let z : ◌≡◌ {A = ℕ} 0 1 = cc in absurd (omega arith)
choice_inside (k ∷ C) zero c a b e = omega arith
choice_inside (k ∷ C) (suc i) c a b e = omega (arith, choice_inside C i c a b e)

-- a condition is in the list
pub condition_in : (C : Gates) → Earlier C → (c : ℕ) → Condition C c → c ∈ conditions C
unfolding conditions
condition_in C e c (i, a, b, h) =
    keep_in (λ d. elem d (heads C)) (upto (length C)) c
    (from_in 0 (length C) c (omega arith) (omega (arith, choice_inside C i c a b h, e i c (rw h (inl refl)))))
    (∈→elem c (heads C) (heads_in C c i a b h))

pub condition_below : (C : Gates) (c : ℕ) → c ∈ conditions C → c < length C
unfolding conditions
condition_below C c m =
    let r : (0 ≤ c) × (c < 0 + length C) = from_below 0 (length C) c (keep_from (λ d. elem d (heads C)) (upto (length C)) c m).0 in
    omega arith

-- and stands first in a choice gate
pub condition_from : (C : Gates) (c : ℕ) → c ∈ conditions C → Condition C c
unfolding conditions
condition_from C c m = heads_from C c (elem→∈ c (heads C) (keep_from (λ d. elem d (heads C)) (upto (length C)) c m).1)

-- they rise
abbrev Rises : List ℕ → Type 0
Rises l = (t u : ℕ) → t < u → u < length l → get_or l t 0 < get_or l u 0

one_more : (i : ℕ) (l : List ℕ) → ((k : ℕ) → k ∈ l → i < k) → Rises l → Rises (i ∷ l)
one_more i l low h t zero a b = absurd (omega arith)
one_more i l low h zero (suc u) a b = low (get_or l u 0) (get_or_in l u (omega arith))
one_more i l low h (suc t) (suc u) a b = h t u (omega arith) (omega arith)

keep_rises : (p : ℕ → Bool) (i n : ℕ) → Rises (keep p (from i n))
keep_rises p i zero = λ t u a b. absurd (omega arith)
keep_rises p i (suc n) =
    split (p i)
    (λ e. rw e (one_more i (keep p (from (suc i) n)) (λ k m. let b = from_below (suc i) n k (keep_from p (from (suc i) n) k m).0 in omega (arith, b.0)) (keep_rises p (suc i) n)))
    (λ e. rw e (keep_rises p (suc i) n))

pub conditions_rise : (C : Gates) (t u : ℕ) → t < u → u < length (conditions C) → get_or (conditions C) t 0 < get_or (conditions C) u 0
unfolding conditions
conditions_rise C = keep_rises (λ c. elem c (heads C)) 0 (length C)
