-- The preconditions held as numbers hold the tests `needed`: each rests on conditions alone, has just the settings that need its gate, and two exclude each other as their gates do.
use Rattle.std.specs.Prelude.{ℕ, ◌^◌, ◌≤◌, ◌<◌, ◌≡◌, List, true, ◌↔◌, length}
use Rattle.std.proofs.Common.{sym, ◌∙◌, arith, pow_mono, pow_pos}
use Rattle.base.specs.Lists.{◌∈◌, elem, upto}
use Rattle.base.specs.TestLaws.{same_test}
use Rattle.circuit.specs.Gates.{Gates, Earlier, Condition, heads, conditions}
use Rattle.circuit.specs.ConditionLaws.{condition_in}
use Rattle.base.specs.Settings.{Setting, setting_of, number_of, Over, Once}
use Rattle.base.specs.Sets as sets
use Rattle.base.specs.Holding.{Holds}
use Rattle.base.specs.SettingListLaws.{from_once, keep_once}
use Rattle.base.specs.SettingLaws.{number_of_below, setting_of_number_of}
use Rattle.base.specs.SetLaws.{whole_below, union_below, those_below, excludes_right}
use Rattle.base.specs.SettingNumbers.{numbers}
use Rattle.circuit_needed.specs.Needed.{Needed, Exclude}
use Rattle.circuit_needed.specs.Pass.{needed, precondition_sets, precondition_of}
use Rattle.circuit_needed.specs.NeededLaws.{needed_to, needed_from}
use Rattle.circuit_needed.specs.PassLaws.{needed_sound, needed_complete, preconditions_right, preconditions_each}

-- the conditions are distinct
pub conditions_once : (C : Gates) → Once (conditions C)
unfolding conditions
conditions_once C = keep_once (λ c. elem c (heads C)) (upto (length C)) (from_once 0 (length C))

module _ (C : Gates) (wanted : List ℕ) (earlier : Earlier C) (inside : (g : ℕ) → g ∈ wanted → g < length C) where
  -- settings that agree on the conditions needed under the first give every gate the same answer
  pub needed_agree : (σ τ : Setting) → ((c : ℕ) → Condition C c → Needed C wanted σ c → σ c ≡ τ c) → (g : ℕ) → needed C wanted g σ ≡ needed C wanted g τ
  needed_agree σ τ agree g =
      same_test (needed C wanted g σ) (needed C wanted g τ)
      (λ t. needed_complete C wanted τ earlier inside g (needed_to C wanted σ τ agree g (needed_sound C wanted σ g t)))
      (λ t. needed_complete C wanted σ earlier inside g (needed_from C wanted σ τ agree g (needed_sound C wanted τ g t)))

  -- whether a gate is needed looks at the conditions alone
  pub needed_over : (g : ℕ) → Over (conditions C) (needed C wanted g)
  needed_over g σ τ h = needed_agree σ τ (λ c k n. h c (condition_in C earlier c k)) g

  module _ (n : ℕ) (few : length (conditions C) ≤ n) where
    -- the number holds the test
    pub precondition_holds : (g : ℕ) → Holds n (precondition_of n C wanted g) (conditions C) (needed C wanted g)
    unfolding precondition_sets numbers
    precondition_holds g = record {
      over = needed_over g;
      once = conditions_once C;
      room = few;
      holds = λ j h. preconditions_right (numbers (2 ^ n) (conditions C)) C wanted earlier inside (j, h) g;
    }

    -- setting j is in the precondition of g exactly when g is needed under it
    pub precondition_right : (g j : ℕ) → j < 2 ^ n
        → (sets.has (precondition_of n C wanted g) j ≡ true) ↔ Needed C wanted (setting_of (conditions C) j) g
    precondition_right g j h =
        let e = (precondition_holds g).holds j h in
        (λ t. needed_sound C wanted (setting_of (conditions C) j) g (sym e ∙ t), λ m. e ∙ needed_complete C wanted (setting_of (conditions C) j) earlier inside g m)

  -- it has no bit at 2 ^ n or above
  pub precondition_below : (n g : ℕ) → precondition_of n C wanted g < 2 ^ (2 ^ n)
  unfolding precondition_sets numbers
  precondition_below n g =
      preconditions_each (numbers (2 ^ n) (conditions C)) (λ s. s < 2 ^ (2 ^ n)) (pow_pos (2 ^ n)) (whole_below (2 ^ n))
      (λ s t h k. union_below (2 ^ n) s t h k) (λ c s. those_below (2 ^ n) _ s) (λ c s. those_below (2 ^ n) _ s) C wanted g

  -- two gates exclude each other exactly when their preconditions have no setting in common
  pub exclude_right : (n : ℕ) → length (conditions C) ≤ n → (g h : ℕ)
      → (sets.excludes (precondition_of n C wanted g) (precondition_of n C wanted h) ≡ true) ↔ Exclude C wanted g h
  exclude_right n few g h = (λ t. to ((excludes_right (2 ^ n) _ _ (precondition_below n g)).0 t), λ x. (excludes_right (2 ^ n) _ _ (precondition_below n g)).1 (back x))
    where
      to : sets.Disjoint (2 ^ n) (precondition_of n C wanted g) (precondition_of n C wanted h) → Exclude C wanted g h
      to x σ p q =
          let j : ℕ = number_of (conditions C) σ in
          let l : j < 2 ^ n = omega (arith, number_of_below (conditions C) σ, pow_mono few) in
          let same = setting_of_number_of (conditions C) σ in
          x j l
          ((precondition_holds n few g).holds j l ∙ needed_over g _ σ same ∙ needed_complete C wanted σ earlier inside g p)
          ((precondition_holds n few h).holds j l ∙ needed_over h _ σ same ∙ needed_complete C wanted σ earlier inside h q)

      back : Exclude C wanted g h → sets.Disjoint (2 ^ n) (precondition_of n C wanted g) (precondition_of n C wanted h)
      back x j l p q = x (setting_of (conditions C) j) ((precondition_right n few g j l).0 p) ((precondition_right n few h j l).0 q)
