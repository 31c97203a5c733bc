-- The conditions' numbers: where a gate stands in a list, which gates are marked, and the turns of the loop that numbers them.
use Rattle.std.specs.Prelude.{ℕ, suc, ◌+◌, ◌≤◌, ◌<◌, ◌≡◌, refl, List, [], ◌∷◌, ◌++◌, false, not, cond, ◌⊎◌, length, get_or, set, eqb}
use Rattle.std.proofs.Common.{sym, ap, ◌∙◌, append-nil, inl, inr, arith, length-append, length-set, get_or-set_same, get_or-set_other, eq-eqb, ne_eqb, eqb-true}
use Rattle.std.proofs.lemmas.List.{length-map}
use Rattle.std.proofs.lemmas.Bool.{eqb-false}
use Rattle.base.specs.Lists.{◌∈◌, keep, upto}
use Rattle.base.specs.ListLaws.{length_from, keep_more, length_keep, upto_more, get_or_upto}
use Rattle.base.specs.MemberLaws.{keep_from, from_below}
use Rattle.base.specs.TestLaws.{split, same?}
use Rattle.circuit.specs.Gates.{Gates, conditions}
use Rattle.circuit_needed.specs.Ranks.{rank_in, ranks_of, marked_in, NumberedBelow}

-- Where a gate stands.

pub rank_none : (l : List ℕ) (g : ℕ) → (g ∈ l → ⊥) → rank_in l g ≡ 0
unfolding rank_in
rank_none [] g h = refl
rank_none (c ∷ l) g h = rw (ne_eqb g c (λ e. h (inl e)), rank_none l g (λ m. h (inr m)))

pub rank_last : (l : List ℕ) (g : ℕ) → (g ∈ l → ⊥) → rank_in (l ++ (g ∷ [])) g ≡ suc (length l)
unfolding rank_in
rank_last [] g h = rw (eq-eqb g g refl)
rank_last (c ∷ l) g h = rw (ne_eqb g c (λ e. h (inl e)), rank_last l g (λ m. h (inr m)))

pub rank_before : (l : List ℕ) (g h : ℕ) → (h ≡ g → ⊥) → rank_in (l ++ (g ∷ [])) h ≡ rank_in l h
unfolding rank_in
rank_before [] g h n = rw (ne_eqb h g n)
rank_before (c ∷ l) g h n = rw (rank_before l g h n)

-- a gate of the list stands at a place below its length
pub record Found (l : List ℕ) (g : ℕ) : Type 0 where
  pub at : ℕ
  pub rank : rank_in l g ≡ suc at
  pub inside : at < length l
  pub same : get_or l at 0 ≡ g

pub rank_found : (l : List ℕ) (g : ℕ) → g ∈ l → Found l g
unfolding rank_in
rank_found [] g m = absurd m
rank_found (c ∷ l) g m = split (eqb g c) (λ e. record { at = 0; rank = rw e; inside = omega arith; same = sym (eqb-true g c e) })
    (λ e. later e (rank_found l g (other e m)))
  where
    other : eqb g c ≡ false → g ∈ (c ∷ l) → g ∈ l
    other e (inl f) = absurd (eqb-false g c e f)
    other e (inr k) = k

    later : eqb g c ≡ false → Found l g → Found (c ∷ l) g
    later e f = record { at = suc f.at; rank = rw (e, f.rank); inside = omega (arith, f.inside); same = f.same }

-- The numbers of all gates.

pub rank_at : (C : Gates) (n g : ℕ) → g < n → get_or (ranks_of C n) g 0 ≡ rank_in (conditions C) g
unfolding ranks_of
rank_at C n g h = get_or_upto (rank_in (conditions C)) 0 n g h

pub ranks_length : (C : Gates) (n : ℕ) → length (ranks_of C n) ≡ n
unfolding ranks_of
ranks_length C n = length-map (upto n) (rank_in (conditions C)) ∙ length_from 0 n

-- Marked gates, one after the other.

marked_next : (marks : List ℕ) (n : ℕ) → marked_in marks (suc n) ≡ marked_in marks n ++ cond (not (eqb (get_or marks n 0) 0)) (n ∷ []) []
unfolding marked_in
marked_next marks n =
    ap (keep (λ g. not (eqb (get_or marks g 0) 0))) (upto_more n)
    ∙ keep_more (λ g. not (eqb (get_or marks g 0) 0)) (upto n) n

pub marked_one : (marks : List ℕ) (n : ℕ) → (get_or marks n 0 ≡ 0 → ⊥) → marked_in marks (suc n) ≡ marked_in marks n ++ (n ∷ [])
marked_one marks n h = marked_next marks n ∙ rw (ne_eqb (get_or marks n 0) 0 h)

pub marked_none : (marks : List ℕ) (n : ℕ) → get_or marks n 0 ≡ 0 → marked_in marks (suc n) ≡ marked_in marks n ++ []
marked_none marks n h = marked_next marks n ∙ rw (eq-eqb (get_or marks n 0) 0 h)

marked_below : (marks : List ℕ) (n g : ℕ) → g ∈ marked_in marks n → g < n
unfolding marked_in
marked_below marks n g m =
    let r : (0 ≤ g) × (g < 0 + n) = from_below 0 n g (keep_from (λ h. not (eqb (get_or marks h 0) 0)) (upto n) g m).0 in
    omega arith

pub marked_count : (marks : List ℕ) (n : ℕ) → length (marked_in marks n) ≤ n
unfolding marked_in
marked_count marks n = rw (length_from 0 n) at (length_keep (λ g. not (eqb (get_or marks g 0) 0)) (upto n))

-- The loop that numbers them, and its invariant at gate g, t gates being numbered.

pub record Numbering (marks ranks : List ℕ) (count g t : ℕ) : Type 0 where
  pub low : g ≤ count
  pub room : count ≤ 256
  pub full : length marks ≡ 256
  pub count_so_far : t ≡ length (marked_in marks g)
  pub numbered : NumberedBelow marks ranks g

pub numbering_start : (marks : List ℕ) (count : ℕ) → (count ≤ 256) × (length marks ≡ 256) → Numbering marks marks count 0 0
unfolding marked_in
numbering_start marks count p =
    record {
      low = omega arith;
      room = p.0;
      full = p.1;
      count_so_far = refl;
      numbered = record { size = refl; below = λ g h. absurd (omega arith); above = λ g h. refl };
    }

pub numbering_fits : (marks ranks : List ℕ) (count g t : ℕ) → Numbering marks ranks count g t → t ≤ 256
numbering_fits marks ranks count g t n = omega (arith, n.low, n.room, n.count_so_far, marked_count marks g)

more : (k : ℕ) → k + 1 ≡ suc k
more k = omega arith

pub numbering_one : (marks ranks new : List ℕ) (count g t u : ℕ) → Numbering marks ranks count g t → g < count → (get_or ranks g 0 ≡ 0 → ⊥)
    → new ≡ set ranks g (t + 1) → u ≡ t + 1 → Numbering marks new count (g + 1) u
numbering_one marks ranks new count g t u n l h q r =
    rw (q, r) (record {
      low = omega arith;
      room = n.room;
      full = n.full;
      count_so_far = rw (more g, one, length-append) (omega (arith, n.count_so_far));
      numbered = record {
        size = length-set ranks g (t + 1) ∙ n.numbered.size;
        below = λ k b. rw (more g, one) (below k (omega arith) (same? k g));
        above = λ k b. get_or-set_other ranks g k (t + 1) 0 (λ e. omega arith) ∙ n.numbered.above k (omega arith);
      };
    })
  where
    one : marked_in marks (suc g) ≡ marked_in marks g ++ (g ∷ [])
    one = marked_one marks g (λ e. h (n.numbered.above g (omega arith) ∙ e))

    inside : g < length ranks
    inside = rw (n.numbered.size, n.full) (omega (arith, n.room))

    below : (k : ℕ) → k < suc g → (k ≡ g) ⊎ (k ≡ g → ⊥) → get_or (set ranks g (t + 1)) k 0 ≡ rank_in (marked_in marks g ++ (g ∷ [])) k
    below k b (inl e) =
        rw (e, get_or-set_same ranks g (t + 1) 0 inside, rank_last (marked_in marks g) g (λ m. omega (arith, marked_below marks g g m)), n.count_so_far) (omega arith)
    below k b (inr m) = rw (get_or-set_other ranks g k (t + 1) 0 m, rank_before (marked_in marks g) g k m) (n.numbered.below k (omega arith))

pub numbering_none : (marks ranks new : List ℕ) (count g t u : ℕ) → Numbering marks ranks count g t → g < count → get_or ranks g 0 ≡ 0
    → new ≡ ranks → u ≡ t → Numbering marks new count (g + 1) u
numbering_none marks ranks new count g t u n l h q r =
    let none : marked_in marks (g + 1) ≡ marked_in marks g =
    ap (marked_in marks) (more g) ∙ marked_none marks g (sym (n.numbered.above g (omega arith)) ∙ h) ∙ append-nil (marked_in marks g) in
    rw (q, r) (record {
      low = omega arith;
      room = n.room;
      full = n.full;
      count_so_far = rw none n.count_so_far;
      numbered = record { size = n.numbered.size; below = λ k b. rw none (below k b (same? k g)); above = λ k b. n.numbered.above k (omega arith) };
    })
  where
    below : (k : ℕ) → k < g + 1 → (k ≡ g) ⊎ (k ≡ g → ⊥) → get_or ranks k 0 ≡ rank_in (marked_in marks g) k
    below k b (inl e) = rw (e, rank_none (marked_in marks g) g (λ m. omega (arith, marked_below marks g g m))) h
    below k b (inr m) = n.numbered.below k (omega arith)

pub numbering_end : (marks ranks : List ℕ) (count g t : ℕ) → Numbering marks ranks count g t → count ≤ g → NumberedBelow marks ranks count
numbering_end marks ranks count g t n l = let e : count ≡ g = omega (arith, n.low) in rw e n.numbered
