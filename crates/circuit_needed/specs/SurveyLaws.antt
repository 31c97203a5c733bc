-- The walk that counts the conditions and adds up the costs: a gate newly marked is one condition more.
use Rattle.std.specs.Prelude.{ℕ, zero, suc, ◌+◌, ◌-◌, ◌*◌, ◌≤◌, ◌<◌, ◌≡◌, List, Bool, true, false, not, ◌⊎◌, length, get_or, set, replicate, eqb}
use Rattle.std.proofs.Common.{sym, ap, ◌∙◌, inl, inr, arith, get_or-set_same, get_or-set_other, ne_eqb}
use Rattle.base.specs.Lists.{elem, keep, from, upto}
use Rattle.base.specs.ListLaws.{keep_same, get_or_zeros}
use Rattle.base.specs.MemberLaws.{from_below}
use Rattle.base.specs.TestLaws.{split, same?}
use Rattle.base.specs.Bits.{bit_of}
use Rattle.base.specs.SettingListLaws.{keep_none}
use Rattle.circuit.specs.Gates.{Earlier, costs, heads, conditions}
use Rattle.circuit_needed.specs.Held.{choice_code, gates_in, code_at, first_at, code_cost}
use Rattle.circuit_needed.specs.HeldLaws.{costs_none, costs_step, costs_below}
use Rattle.circuit_needed.specs.Ranks.{Marked, mark_of, marked_in}
use Rattle.circuit_needed.specs.RankLaws.{marked_count}
use Rattle.circuit_needed.specs.MarkSteps.{Marking, head_before, marking_start, marking_inside, marking_choice, marking_other, marking_end, conditions_counted}

-- two tests that differ at c alone keep one member more of a run with c in it
module _ (p q : ℕ → Bool) (c : ℕ) (was : p c ≡ false) (is : q c ≡ true) (others : (a : ℕ) → (a ≡ c → ⊥) → p a ≡ q a) where
  keep_one : (i n : ℕ) → i ≤ c → c < i + n → length (keep q (from i n)) ≡ length (keep p (from i n)) + 1
  keep_one i zero h l = absurd (omega arith)
  keep_one i (suc n) h l = go (same? i c) (λ k. keep_one (suc i) n k (omega arith))
    where
      go : (i ≡ c) ⊎ (i ≡ c → ⊥) → (suc i ≤ c → length (keep q (from (suc i) n)) ≡ length (keep p (from (suc i) n)) + 1) → length (keep q (from i (suc n))) ≡ length (keep p (from i (suc n))) + 1
      go (inl e) ih =
          let rest : keep p (from (suc i) n) ≡ keep q (from (suc i) n) =
          keep_same p q (from (suc i) n) (λ a m. others a (λ f. omega (arith, (from_below (suc i) n a m).0))) in
          rw (ap p e ∙ was, ap q e ∙ is, rest) (omega arith)
      go (inr m) ih =
          let more = ih (omega arith) in
          split (q i) (λ t. rw (others i m ∙ t, t) (omega (arith, more))) (λ t. rw (others i m ∙ t, t) more)

-- a mark is 0 or 1
bit_most : (t : Bool) → bit_of t ≤ 1
bit_most true = omega arith
bit_most false = omega arith

-- so much more is counted at a choice: 1 where its condition was not marked, 0 where it was
pub marks_more : (marks : List ℕ) (n c : ℕ) → c < n → c < length marks → get_or marks c 0 ≤ 1
    → length (marked_in (set marks c 1) n) ≡ length (marked_in marks n) + (1 - get_or marks c 0)
unfolding marked_in
marks_more marks n c l h b = go (same? (get_or marks c 0) 0)
  where
    was : ℕ → Bool
    was g = not (eqb (get_or marks g 0) 0)

    now : ℕ → Bool
    now g = not (eqb (get_or (set marks c 1) g 0) 0)

    set_here : now c ≡ true
    set_here = rw (get_or-set_same marks c 1 0 h)

    others : (a : ℕ) → (a ≡ c → ⊥) → was a ≡ now a
    others a m = rw (get_or-set_other marks c a 1 0 m)

    go : (get_or marks c 0 ≡ 0) ⊎ (get_or marks c 0 ≡ 0 → ⊥) → length (keep now (upto n)) ≡ length (keep was (upto n)) + (1 - get_or marks c 0)
    go (inl e) = rw e (keep_one was now c (rw e) set_here others 0 n (omega arith) (omega arith))
    go (inr m) =
        let e : get_or marks c 0 ≡ 1 = omega arith in
        let same : keep now (upto n) ≡ keep was (upto n) = keep_same now was (upto n) (λ a k. each a (same? a c)) in
        rw (e, same) (omega arith)
      where
        each : (a : ℕ) → (a ≡ c) ⊎ (a ≡ c → ⊥) → now a ≡ was a
        each a (inl f) = rw f (set_here ∙ sym (ap not (ne_eqb (get_or marks c 0) 0 m)))
        each a (inr k) = sym (others a k)

-- The walk, and its invariant at gate i.

pub record Surveying (quads ranks : List ℕ) (count i found cost : ℕ) : Type 0 where
  pub marking : Marking quads ranks count i
  pub counted : found ≡ length (marked_in ranks count)
  pub added : cost ≡ costs (gates_in quads i)

pub survey_start : (quads ranks : List ℕ) (count : ℕ) → (count ≤ 256) × (Earlier (gates_in quads count) × (ranks ≡ replicate 256 0)) → Surveying quads ranks count 0 0 0
unfolding marked_in
survey_start quads ranks count p =
    record {
      marking = marking_start quads ranks count (p.0, p.1.0) p.1.1;
      counted = sym (ap length (keep_none (λ g. not (eqb (get_or ranks g 0) 0)) (upto count) (λ g m. rw (p.1.1, get_or_zeros 256 g))));
      added = sym (costs_none quads);
    }

module _ (quads ranks : List ℕ) (count i found cost : ℕ) (s : Surveying quads ranks count i found cost) (l : i < count) where
  pub survey_bit : (c : ℕ) → get_or ranks c 0 ≤ 1
  unfolding mark_of
  survey_bit c = rw (s.marking.marked.marks c) (bit_most (elem c (heads (gates_in quads i))))

  pub survey_inside : (c : ℕ) → code_at quads i ≡ choice_code → c ≡ first_at quads i → c < 256
  survey_inside c h e = marking_inside quads ranks count i c s.marking l h e

  pub survey_few : found ≤ 256
  survey_few = omega (arith, s.counted, marked_count ranks count, s.marking.room)

  pub survey_room : (k : ℕ) → k ≡ code_cost (code_at quads i) → cost + k ≤ 40 * 257
  survey_room k q = omega (arith, costs_step quads i cost k s.added q, costs_below quads (i + 1), s.marking.room)

  pub survey_choice : (new : List ℕ) (c more k : ℕ) → code_at quads i ≡ choice_code → c ≡ first_at quads i → new ≡ set ranks c 1
      → more ≡ found + (1 - get_or ranks c 0) → k ≡ code_cost (code_at quads i) → Surveying quads new count (i + 1) more (cost + k)
  survey_choice new c more k h e q r z =
      record {
        marking = marking_choice quads ranks new count i c s.marking l h e q;
        counted = r ∙ rw (q, s.counted)
            (sym (marks_more ranks count c (omega (arith, head_before quads count i c s.marking.earlier l h e))
            (rw s.marking.marked.size (survey_inside c h e)) (survey_bit c)));
        added = costs_step quads i cost k s.added z;
      }

  pub survey_other : (new : List ℕ) (more k : ℕ) → (code_at quads i ≡ choice_code → ⊥) → new ≡ ranks → more ≡ found → k ≡ code_cost (code_at quads i)
      → Surveying quads new count (i + 1) more (cost + k)
  survey_other new more k h q r z =
      record {
        marking = marking_other quads ranks new count i s.marking l h q;
        counted = r ∙ s.counted ∙ ap (λ (x : List ℕ). length (marked_in x count)) (sym q);
        added = costs_step quads i cost k s.added z;
      }

pub survey_end : (quads ranks : List ℕ) (count i found cost : ℕ) → Surveying quads ranks count i found cost → count ≤ i
    → (found ≡ length (conditions (gates_in quads count))) × ((cost ≡ costs (gates_in quads count)) × Marked (gates_in quads count) ranks)
survey_end quads ranks count i found cost s l =
    let m = marking_end quads ranks count i s.marking l in
    let e : i ≡ count = omega (arith, s.marking.below) in
    (conditions_counted quads ranks count found m s.counted, (s.added ∙ ap (λ (j : ℕ). costs (gates_in quads j)) e, m))
