-- The conditions gathered: the gates that have a number, in rising order, are the conditions, and the turns of the loop that gathers them.
use Rattle.std.specs.Prelude.{ℕ, zero, suc, ◌+◌, ◌-◌, ◌≤◌, ◌<◌, ◌≡◌, refl, List, [], ◌∷◌, ◌++◌, not, length, get_or, set, replicate, eqb}
use Rattle.std.proofs.Common.{sym, ap, ◌∙◌, append-nil, true≢false, zero-add, suc-add, arith, length-append, ne_eqb, eqb-true}
use Rattle.std.proofs.lemmas.List.{length-replicate}
use Rattle.std.proofs.lemmas.Bool.{eqb-false}
use Rattle.base.specs.Lists.{◌∈◌, elem, upto}
use Rattle.base.specs.ListLaws.{keep_same}
use Rattle.base.specs.MemberLaws.{keep_in, keep_from, from_below}
use Rattle.base.specs.TestLaws.{split}
use Rattle.base.specs.Buffers.{over}
use Rattle.base.specs.BufferLaws.{over_nil, over_snoc}
use Rattle.circuit.specs.Gates.{Gates, heads, conditions}
use Rattle.circuit.specs.Limits.{most_gates, most_conditions}
use Rattle.circuit_needed.specs.Held.{gates_in}
use Rattle.circuit_needed.specs.HeldLaws.{gates_length}
use Rattle.circuit_needed.specs.Ranks.{ranks_of, marked_in}
use Rattle.circuit_needed.specs.RankLaws.{rank_none, rank_found, rank_at, marked_one, marked_none}

-- a gate has a number exactly when it is a condition
numbered_test : (C : Gates) (n g : ℕ) → length C ≤ n → g ∈ upto (length C) → not (eqb (get_or (ranks_of C n) g 0) 0) ≡ elem g (heads C)
unfolding conditions
numbered_test C n g h m =
    let b : (0 ≤ g) × (g < 0 + length C) = from_below 0 (length C) g m in
    split (elem g (heads C))
    (λ e. let f = rank_found (conditions C) g (keep_in (λ c. elem c (heads C)) (upto (length C)) g m e) in
    rw (e, rank_at C n g (omega arith), f.rank, ne_eqb (suc f.at) 0 (λ z. omega arith)))
    (λ e. rw (e, rank_at C n g (omega arith), rank_none (conditions C) g (λ k. true≢false (sym (keep_from (λ c. elem c (heads C)) (upto (length C)) g k).1 ∙ e))))

pub numbered_conditions : (C : Gates) (n : ℕ) → length C ≤ n → marked_in (ranks_of C n) (length C) ≡ conditions C
unfolding marked_in conditions
numbered_conditions C n h = keep_same (λ g. not (eqb (get_or (ranks_of C n) g 0) 0)) (λ g. elem g (heads C)) (upto (length C)) (λ g m. numbered_test C n g h m)

-- the same of gates in quads
pub conditions_gathered : (quads ranks : List ℕ) (count : ℕ) → count ≤ most_gates → ranks ≡ ranks_of (gates_in quads count) most_gates
    → marked_in ranks count ≡ conditions (gates_in quads count)
conditions_gathered quads ranks count h e =
    let n = gates_length quads count in
    ap (λ (p : List ℕ). marked_in p count) e ∙ ap (marked_in (ranks_of (gates_in quads count) most_gates)) (sym n)
    ∙ numbered_conditions (gates_in quads count) most_gates (rw n h)

-- The loop that gathers them, and its invariant at gate g, t gates being gathered.

pub record GatheringConditions (ranks gates : List ℕ) (count g t : ℕ) : Type 0 where
  pub low : g ≤ count
  pub room : count ≤ most_gates
  pub few : length (marked_in ranks count) ≤ most_conditions
  pub so_far : t ≡ length (marked_in ranks g)
  pub gathered : gates ≡ over (marked_in ranks g) (replicate most_conditions 0)

pub gathering_start : (ranks gates : List ℕ) (count : ℕ) → ((count ≤ most_gates) × (length (marked_in ranks count) ≤ most_conditions)) × (gates ≡ replicate most_conditions 0)
    → GatheringConditions ranks gates count 0 0
unfolding marked_in
gathering_start ranks gates count p =
    record { low = omega arith; room = p.0.0; few = p.0.1; so_far = refl; gathered = p.1 ∙ sym (over_nil (replicate most_conditions 0)) }

marked_next : (ranks : List ℕ) (g : ℕ) → length (marked_in ranks g) ≤ length (marked_in ranks (suc g))
marked_next ranks g =
    split (eqb (get_or ranks g 0) 0)
    (λ e. rw (marked_none ranks g (eqb-true _ _ e), append-nil (marked_in ranks g)) (omega arith))
    (λ e. rw (marked_one ranks g (eqb-false _ _ e), length-append) (omega arith))

marked_more : (ranks : List ℕ) (g k : ℕ) → length (marked_in ranks g) ≤ length (marked_in ranks (k + g))
marked_more ranks g zero = rw (zero-add g) (omega arith)
marked_more ranks g (suc k) = rw (suc-add k g) (omega (arith, marked_more ranks g k, marked_next ranks (k + g)))

more : (k : ℕ) → k + 1 ≡ suc k
more k = omega arith

-- a numbered gate finds a place
pub gathering_fits : (ranks gates : List ℕ) (count g t : ℕ) → GatheringConditions ranks gates count g t → g < count → (get_or ranks g 0 ≡ 0 → ⊥) → t < most_conditions
gathering_fits ranks gates count g t i l h =
    let e : (count - suc g) + suc g ≡ count = omega arith in
    let m : length (marked_in ranks (suc g)) ≤ length (marked_in ranks count) = rw e at (marked_more ranks (suc g) (count - suc g)) in
    let n : length (marked_in ranks (suc g)) ≡ length (marked_in ranks g) + 1 = ap length (marked_one ranks g h) ∙ length-append (marked_in ranks g) (g ∷ []) in
    omega (arith, i.few, i.so_far)

pub gathering_one : (ranks gates new : List ℕ) (count g t u : ℕ) → GatheringConditions ranks gates count g t → g < count → (get_or ranks g 0 ≡ 0 → ⊥)
    → new ≡ set gates t g → u ≡ t + 1 → GatheringConditions ranks new count (g + 1) u
gathering_one ranks gates new count g t u i l h q r =
    let fits = gathering_fits ranks gates count g t i l h in
    let one : marked_in ranks (g + 1) ≡ marked_in ranks g ++ (g ∷ []) = ap (marked_in ranks) (more g) ∙ marked_one ranks g h in
    rw (q, r) (record {
      low = omega arith;
      room = i.room;
      few = i.few;
      so_far = rw (one, length-append) (omega (arith, i.so_far));
      gathered = rw (i.gathered, one)
          (over_snoc (marked_in ranks g) (replicate most_conditions 0) t g (sym i.so_far) (rw (length-replicate {A = ℕ} most_conditions 0) fits));
    })

pub gathering_none : (ranks gates new : List ℕ) (count g t u : ℕ) → GatheringConditions ranks gates count g t → g < count → get_or ranks g 0 ≡ 0
    → new ≡ gates → u ≡ t → GatheringConditions ranks new count (g + 1) u
gathering_none ranks gates new count g t u i l h q r =
    let none : marked_in ranks (g + 1) ≡ marked_in ranks g = ap (marked_in ranks) (more g) ∙ marked_none ranks g h ∙ append-nil (marked_in ranks g) in
    rw (q, r) (record { low = omega arith; room = i.room; few = i.few; so_far = rw none i.so_far; gathered = rw none i.gathered })

pub gathering_end : (ranks gates : List ℕ) (count g t : ℕ) → GatheringConditions ranks gates count g t → count ≤ g → gates ≡ over (marked_in ranks count)
    (replicate most_conditions 0)
gathering_end ranks gates count g t i l = let e : count ≡ g = omega (arith, i.low) in rw e i.gathered
