-- Guards: a guard says whether its member is needed under the setting that the wires of the conditions make, and that is whether it is needed
-- under the actual setting, also where a wire that it reads belongs to a condition that nothing needs.
use Rattle.std.specs.Prelude.{ℕ, ◌≤◌, ◌<◌, ◌≡◌, Bool, cond, List, map, length, get_or}
use Rattle.std.proofs.Common.{sym, ap, ◌∙◌}
use Rattle.base.specs.Lists.{◌∈◌}
use Rattle.base.specs.MemberLaws.{keep_in}
use Rattle.base.specs.TestLaws.{split}
use Rattle.base.specs.Bits.{bit_of}
use Rattle.base.specs.Settings.{Setting, number_of, pre_rests_on}
use Rattle.base.specs.Sets.{has}
use Rattle.base.specs.Guards.{table}
use Rattle.base.specs.Holding.{Holds}
use Rattle.base.specs.SettingLaws.{number_of_map}
use Rattle.base.specs.RestLaws.{pre_rests_right}
use Rattle.base.proofs.GuardLaws.{guard_holds}
use Rattle.base.specs.Results.{is_one}
use Rattle.file.specs.Records.{guard_figure}
use Rattle.circuit.specs.Gates.{Gates, Earlier, Condition, conditions}
use Rattle.circuit.specs.ConditionLaws.{condition_in}
use Rattle.circuit.specs.Limits.{most_conditions}
use Rattle.circuit_needed.specs.Needed.{Needed}
use Rattle.circuit_needed.specs.Pass.{needed, precondition_sets, precondition_of}
use Rattle.circuit_needed.specs.PreconditionLaws.{needed_agree, needed_over, precondition_holds}
use Rattle.plan.specs.Groups.{rests_of}
use Rattle.plan.specs.RestLaws.{rests_list}

module _ (C : Gates) (wanted : List ℕ) (earlier : Earlier C) (inside : (g : ℕ) → g ∈ wanted → g < length C) (few : length (conditions C) ≤ most_conditions) where
  abbrev sets : List ℕ
  sets = precondition_sets most_conditions C wanted

  held : (m : ℕ) → Holds most_conditions (precondition_of most_conditions C wanted m) (conditions C) (needed C wanted m)
  held m = precondition_holds C wanted earlier inside most_conditions few m

  -- a guard's figure: is its member needed under the setting that the wires make?
  pub guard_figure_lem : (W wire : ℕ → ℕ) (m : ℕ)
      → guard_figure W (map wire (rests_of C (precondition_sets most_conditions C wanted) m)) (table most_conditions (precondition_of most_conditions C wanted m)) ≡ bit_of
      (needed C wanted m (λ c. is_one (W (wire c))))
  guard_figure_lem W wire m =
      ap (λ (j : ℕ). bit_of (has (table most_conditions (get_or sets m 0)) j))
      (number_of_map wire (rests_of C sets m) (λ c. is_one (W c)) ∙ ap (λ (l : List ℕ). number_of l (λ c. is_one (W (wire c)))) (rests_list C wanted earlier inside few m))
      ∙ ap bit_of (guard_holds most_conditions (get_or sets m 0) (conditions C) (needed C wanted m) (held m) (λ c. is_one (W (wire c))))

  -- the setting ρ that gives the needed conditions among those that m rests on their actual bits needs m exactly when the actual setting σ does
  pub guard_needed : (σ ρ : Setting) (m : ℕ)
      → ((c : ℕ) → c ∈ rests_of C (precondition_sets most_conditions C wanted) m → Needed C wanted σ c → ρ c ≡ σ c)
      → needed C wanted m ρ ≡ needed C wanted m σ
  guard_needed σ ρ m h =
      pre_rests_right P (conditions C) over mixed ρ (λ c k r. rw r)
      ∙ sym (needed_agree C wanted earlier inside σ mixed agree m)
    where
      P : Setting → Bool
      P = needed C wanted m

      over : (τ υ : Setting) → ((c : ℕ) → c ∈ conditions C → τ c ≡ υ c) → P τ ≡ P υ
      over = needed_over C wanted earlier inside m

      -- the bits of ρ at the conditions that m rests on, the actual bits at the others
      mixed : Setting
      mixed c = cond (pre_rests_on P (conditions C) c) (ρ c) (σ c)

      agree : (c : ℕ) → Condition C c → Needed C wanted σ c → σ c ≡ mixed c
      agree c k n =
          split (pre_rests_on P (conditions C) c)
          (λ r. rw r (sym (h c
          (rw (rests_list C wanted earlier inside few m) (keep_in (pre_rests_on P (conditions C)) (conditions C) c (condition_in C earlier c k) r)) n)))
          (λ r. rw r)
