-- The loop that counts the conditions that the members of a group rest on: start, step, end.
use Rattle.std.specs.Prelude.{ℕ, ◌+◌, ◌*◌, ◌≤◌, ◌<◌, ◌≡◌, List, [], ◌∷◌, length, get_or}
use Rattle.std.proofs.Common.{sym, ap, ◌∙◌, arith, length-append}
use Rattle.base.specs.Sets.{rests}
use Rattle.base.specs.PlaceLaws.{few_rests}
use Rattle.circuit.specs.Limits.{most_conditions}
use Rattle.base.specs.FillLaws.{pieces, pieces_none, pieces_more, pieces_first}
use Rattle.fused_size.specs.Sizes.{rested_by}

rest_sum : (sets ms : List ℕ) → length (pieces (λ i. rests most_conditions (get_or sets (get_or ms i 0) 0)) (length ms)) ≡ rested_by sets ms
rest_sum sets [] = ap (λ (l : List ℕ). length l) (pieces_none (λ i. rests most_conditions (get_or sets (get_or [] i 0) 0)))
rest_sum sets (m ∷ ms) =
    ap (λ (l : List ℕ). length l) (pieces_first (λ i. rests most_conditions (get_or sets (get_or (m ∷ ms) i 0) 0)) (length ms))
    ∙ length-append (rests most_conditions (get_or sets m 0)) (pieces (λ i. rests most_conditions (get_or sets (get_or ms i 0) 0)) (length ms))
    ∙ ap (λ (k : ℕ). length (rests most_conditions (get_or sets m 0)) + k) (rest_sum sets ms)

-- loop invariant: the sum over the first i members
pub record Summing (sets ms : List ℕ) (n i : ℕ) : Type 0 where
  pub below : i ≤ length ms
  pub few : n ≤ most_conditions * i
  pub summed : n ≡ length (pieces (λ k. rests most_conditions (get_or sets (get_or ms k 0) 0)) i)

pub summing_start : (sets ms : List ℕ) → Summing sets ms 0 0
summing_start sets ms = record { below = omega arith; few = omega arith; summed = sym (ap (λ (l : List ℕ). length l) (pieces_none (λ k. rests most_conditions (get_or sets (get_or ms k 0) 0)))) }

pub summing_step : (sets ms : List ℕ) (n i k g : ℕ) → Summing sets ms n i → i < length ms → g ≡ get_or ms i 0 → k ≡ length (rests most_conditions (get_or sets g 0))
    → Summing sets ms (n + k) (i + 1)
summing_step sets ms n i k g l h q e =
    let r : k ≡ length (rests most_conditions (get_or sets (get_or ms i 0) 0)) = rw (← q) e in
    let m : length (pieces (λ k. rests most_conditions (get_or sets (get_or ms k 0) 0)) (i + 1))
    ≡ length (pieces (λ k. rests most_conditions (get_or sets (get_or ms k 0) 0)) i) + length (rests most_conditions (get_or sets (get_or ms i 0) 0)) =
    rw (pieces_more (λ k. rests most_conditions (get_or sets (get_or ms k 0) 0)) i)
    (length-append (pieces (λ k. rests most_conditions (get_or sets (get_or ms k 0) 0)) i) (rests most_conditions (get_or sets (get_or ms i 0) 0))) in
    record { below = omega arith; few = omega (arith, l.few, r, few_rests most_conditions (get_or sets (get_or ms i 0) 0)); summed = omega (arith, m, l.summed, r) }

pub summing_end : (sets ms : List ℕ) (n i : ℕ) → Summing sets ms n i → length ms ≤ i → n ≡ rested_by sets ms
summing_end sets ms n i l h =
    let e : i ≡ length ms = omega (arith, l.below) in
    l.summed ∙ ap (λ (k : ℕ). length (pieces (λ j. rests most_conditions (get_or sets (get_or ms j 0) 0)) k)) e ∙ rest_sum sets ms
