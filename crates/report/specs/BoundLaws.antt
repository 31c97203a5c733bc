-- How large a report's sums become: no entry costs more than 10,240, so an entry more keeps the sums those of a batch.
use Rattle.std.specs.Prelude.{◌≡◌, ℕ, suc, ◌+◌, ◌*◌, ◌≤◌, eqb, length}
use mathlib.Core.List.{List, [], ◌∷◌, map}
use Rattle.std.proofs.Common.{eq-eqb, ne_eqb, eqb-true}
use native.Mathlib.Omega.{arith}
use Rattle.std.proofs.lemmas.Bool.{eqb-false}
use Rattle.base.specs.TestLaws.{split}
use Rattle.base.specs.declared.Answer.{Answer}
use Rattle.fused.specs.AnswerLaws.{costs_bound}
use Rattle.report.specs.declared.Sums.{Sums}
use Rattle.report.specs.Batch.{part_of, past_part, entry_answer, plus}
use Rattle.report.specs.Packed.{Entry, answer_to, accepts, among, cost_of}
use Rattle.report.specs.Bounds.{most_cost, Sized, Costs}

-- one answer more
pub plus_accepted : (t : Sums) (a : Answer) → a.number ≡ 0
    → plus t a ≡ record { accepted = t.accepted + 1; refused = t.refused; before = t.before + a.before; after = t.after + a.after }
unfolding plus
plus_accepted t a z = rw (eq-eqb a.number 0 z)

pub plus_refused : (t : Sums) (a : Answer) → (a.number ≡ 0 → ⊥) → plus t a ≡ record { accepted = t.accepted; refused = t.refused + 1; before = t.before; after = t.after }
unfolding plus
plus_refused t a z = rw (ne_eqb a.number 0 z)

pub plus_sized : (n : ℕ) (t : Sums) (a : Answer) → Sized (suc n) t → Costs a → Sized n (plus t a)
plus_sized n t a (m, b, c) h =
    split (eqb a.number 0)
    (λ z. rw (plus_accepted t a (eqb-true _ _ z)) (let k = h (eqb-true _ _ z) in (omega (arith, m), omega (arith, b, k), omega (arith, c, k))))
    (λ z. rw (plus_refused t a (eqb-false _ _ z)) (omega (arith, m), b, c))

-- no entry costs more
pub entry_costs : (s : List ℕ) → Costs (entry_answer s)
unfolding entry_answer
entry_costs s = costs_bound (part_of s) (part_of (past_part s))

-- all the accepted ones of a list
module _ (cost : Answer → ℕ) (small : (e : Entry) → (answer_to e).number ≡ 0 → cost (answer_to e) ≤ most_cost) where
  costs_small : (es : List Entry) → cost_of cost (among accepts (map answer_to es)) ≤ most_cost * length es
  unfolding accepts among cost_of
  costs_small [] = omega arith
  costs_small (e ∷ es) =
      split (accepts (answer_to e))
      (λ z. rw z (omega (arith, small e (eqb-true _ _ z), costs_small es))) (λ z. rw z (omega (arith, costs_small es)))

pub before_small : (es : List Entry) → cost_of (λ a. a.before) (among accepts (map answer_to es)) ≤ most_cost * length es
before_small es = costs_small (λ a. a.before) (λ e z. (costs_bound e.rule e.plan z).0) es

pub after_small : (es : List Entry) → cost_of (λ a. a.after) (among accepts (map answer_to es)) ≤ most_cost * length es
after_small es = costs_small (λ a. a.after) (λ e z. (costs_bound e.rule e.plan z).1) es
