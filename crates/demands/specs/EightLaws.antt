-- Laws for document 02, C-17: a rule is 11 exactly when it has too many conditions; sets held over more conditions repeat the pattern, so what is rested on, tables and exclusion stay.
use Rattle.std.specs.Prelude.{ℕ, ◌+◌, ◌-◌, ◌%◌, ◌^◌, ◌≤◌, ◌<◌, ◌≡◌, true, List, map, ◌↔◌, length, get_or}
use Rattle.std.proofs.Common.{arith, sym, ap, ◌∙◌, pow_mono, pow_pos, lt_of_lt_of_le, mod-lt}
use Rattle.std.proofs.lemmas.List.{length-map}
use Rattle.std.proofs.Math.Pow.{mod-mod-pow}
use Rattle.base.specs.TestLaws.{same_test}
use Rattle.base.specs.Lists.{◌∈◌}
use Rattle.base.specs.Answers.{refusal}
use Rattle.base.specs.Parsing.{IsRead}
use Rattle.base.specs.ParsingLaws.{is_read}
use Rattle.base.specs.BitLaws.{same_bits}
use Rattle.base.specs.Settings.{setting_of, number_of, pre_rests_on, pre_rests}
use Rattle.base.specs.Sets.{has, excludes, rests}
use Rattle.base.specs.Guards.{table}
use Rattle.base.specs.Holding.{Holds}
use Rattle.base.specs.SettingListLaws.{keep_once}
use Rattle.base.specs.SettingLaws.{number_of_setting_of}
use Rattle.base.specs.HoldLaws.{rests_places}
use Rattle.base.proofs.GuardLaws.{guard_holds}
use Rattle.base.specs.PlaceLaws.{holds_repeats}
use Rattle.circuit.specs.Limits.{most_gates, most_conditions}
use Rattle.circuit.specs.Gates.{Gates, Earlier, conditions}
use Rattle.circuit.specs.PlainCircuit.{gates_of}
use Rattle.rule.specs.Rule.{read_rule}
use Rattle.circuit_needed.specs.Needed.{Needed, wanted_of}
use Rattle.circuit_needed.specs.Pass.{needed, precondition_of, rule_preconditions}
use Rattle.circuit_needed.specs.RulePreconditions.{rule_precondition}
use Rattle.circuit_needed.specs.PreconditionLaws.{precondition_holds, exclude_right}
use Rattle.circuit.specs.Whole.{rule_answer}
use Rattle.circuit.specs.WholeLaws.{whole_conditions, whole_success, answer_whole, accepted}
use Rattle.fused.specs.FitLaws.{table_below}

-- a rule that is read and has no gate too many is taken exactly when it has no condition too many; else it is 11 at its length
module _ (s : List ℕ) (read : IsRead (read_rule s)) (few : length (gates_of s) ≤ most_gates) where
  pub conditions_taken : ((rule_answer s).number ≡ 0) ↔ (length (conditions (gates_of s)) ≤ most_conditions)
  conditions_taken = (λ h. (accepted s h).conds, λ h. ap (λ a. a.number) (answer_whole s read ∙ whole_success most_gates most_conditions (gates_of s) (length s) few h))

  pub conditions_refused : most_conditions < length (conditions (gates_of s)) → rule_answer s ≡ refusal 11 (length s)
  conditions_refused h = answer_whole s read ∙ whole_conditions most_gates most_conditions (gates_of s) (length s) few h

-- the preconditions of a rule that is taken, setting by setting
pub own_precondition : (s : List ℕ) → (rule_answer s).number ≡ 0 → (g j : ℕ) → j < 2 ^ most_conditions
    → (has (get_or (rule_preconditions s) g 0) j ≡ true) ↔ Needed (gates_of s) (wanted_of s) (setting_of (conditions (gates_of s)) j) g
own_precondition s h = let (b, n, read) = is_read (read_rule s) (accepted s h).read in rule_precondition s b n read (accepted s h).conds

-- of gates with at most m conditions, what is held over n conditions repeats what is held over m
module _ (C : Gates) (wanted : List ℕ) (earlier : Earlier C) (inside : (g : ℕ) → g ∈ wanted → g < length C) (m k : ℕ) (few : length (conditions C) ≤ m) where
  pub pattern_repeats : (g j : ℕ) → j < 2 ^ (k + m) → has (precondition_of (k + m) C wanted g) j ≡ has (precondition_of m C wanted g) (j % 2 ^ m)
  pattern_repeats g j h =
      let cs = conditions C in
      let H = precondition_holds C wanted earlier inside (k + m) (omega (arith, few)) g in
      let L = precondition_holds C wanted earlier inside m few g in
      let i = j % 2 ^ length cs in
      let low : i < 2 ^ m = lt_of_lt_of_le (mod-lt j (pow_pos (length cs))) (pow_mono few) in
      let e : m ≡ (m - length cs) + length cs = omega (arith, few) in
      let same : j % 2 ^ m % 2 ^ length cs ≡ i = ap (λ (n : ℕ). j % 2 ^ n % 2 ^ length cs) e ∙ mod-mod-pow j (m - length cs) (length cs) in
      holds_repeats (k + m) _ cs _ H j h
      ∙ H.holds i (lt_of_lt_of_le low (pow_mono (omega arith)))
      ∙ sym (L.holds i low)
      ∙ ap (has (precondition_of m C wanted g)) (sym same)
      ∙ sym (holds_repeats m _ cs _ L (j % 2 ^ m) (mod-lt j (pow_pos m)))

-- so a member rests on the same conditions, and has the same table, over n conditions as over m
module _ (C : Gates) (wanted : List ℕ) (earlier : Earlier C) (inside : (g : ℕ) → g ∈ wanted → g < length C) (n m : ℕ) (few : length (conditions C) ≤ n)
    (fewer : length (conditions C) ≤ m) (g : ℕ) where
  H : Holds n (precondition_of n C wanted g) (conditions C) (needed C wanted g)
  H = precondition_holds C wanted earlier inside n few g

  L : Holds m (precondition_of m C wanted g) (conditions C) (needed C wanted g)
  L = precondition_holds C wanted earlier inside m fewer g

  pub same_rests : map (λ t. get_or (conditions C) t 0) (rests n (precondition_of n C wanted g)) ≡ map (λ t. get_or (conditions C) t 0) (rests m (precondition_of m C wanted g))
  same_rests = sym (rests_places n _ _ _ H) ∙ rests_places m _ _ _ L

  pub same_table : table n (precondition_of n C wanted g) ≡ table m (precondition_of m C wanted g)
  same_table =
      let R = pre_rests (needed C wanted g) (conditions C) in
      let a : length (rests n (precondition_of n C wanted g)) ≡ length R =
      sym (ap (λ (l : List ℕ). length l) (rests_places n _ _ _ H) ∙ length-map (rests n (precondition_of n C wanted g)) (λ t. get_or (conditions C) t 0)) in
      let b : length (rests m (precondition_of m C wanted g)) ≡ length R =
      sym (ap (λ (l : List ℕ). length l) (rests_places m _ _ _ L) ∙ length-map (rests m (precondition_of m C wanted g)) (λ t. get_or (conditions C) t 0)) in
      same_bits (2 ^ length R) (table n (precondition_of n C wanted g)) (table m (precondition_of m C wanted g)) (rw a at (table_below n (precondition_of n C wanted g)))
      (rw b at (table_below m (precondition_of m C wanted g)))
      (λ k l.
      let e : number_of R (setting_of R k) ≡ k = number_of_setting_of R (keep_once (pre_rests_on (needed C wanted g) (conditions C)) (conditions C) H.once) k l in
      ap (has (table n (precondition_of n C wanted g))) (sym e) ∙ guard_holds n _ _ _ H (setting_of R k) ∙ sym (guard_holds m _ _ _ L (setting_of R k))
      ∙ ap (has (table m (precondition_of m C wanted g))) e)

-- and two gates exclude each other over n conditions exactly when they do over m
pub same_excludes : (C : Gates) (wanted : List ℕ) → Earlier C → ((g : ℕ) → g ∈ wanted → g < length C) → (n m : ℕ) → length (conditions C) ≤ n → length (conditions C) ≤ m
    → (g h : ℕ) → excludes (precondition_of n C wanted g) (precondition_of n C wanted h) ≡ excludes (precondition_of m C wanted g) (precondition_of m C wanted h)
same_excludes C wanted earlier inside n m few fewer g h =
    let a = exclude_right C wanted earlier inside n few g h in
    let b = exclude_right C wanted earlier inside m fewer g h in
    same_test _ _ (λ t. b.1 (a.0 t)) (λ t. a.1 (b.0 t))
