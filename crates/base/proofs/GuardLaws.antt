-- Laws for document 01, "The fused circuit file": the guard's table gives the right answer at every setting; for any number of conditions.
use Rattle.std.specs.Prelude.{◌≡◌, Bool, false, ℕ, ◌^◌, ◌≤◌, ◌<◌, get_or}
use Rattle.std.proofs.Common.{sym, ◌∙◌, arith}
use Rattle.std.proofs.Math.Path.{ap}
use mathlib.Core.List.{List}
use Rattle.std.proofs.Math.ListN.{length}
use Rattle.base.specs.Lists.{upto}
use Rattle.base.specs.ListLaws.{length_from, keep_same}
use Rattle.base.specs.MemberLaws.{keep_in, from_below}
use Rattle.base.specs.Bits.{bit, collect}
use Rattle.base.specs.Settings.{Setting, Over, setting_of, number_of, Agree, pre_rests_on, pre_rests}
use Rattle.base.specs.Sets.{has, rests_on, rests}
use Rattle.base.specs.Guards.{pre_guard, spread, table_over, table, chosen}
use Rattle.base.specs.Holding.{Holds, test}
use Rattle.base.specs.BitLaws.{collect_has, collect_above}
use Rattle.base.specs.SettingLaws.{number_of_map, number_of_below, number_of_agree, number_of_setting_of, number_of_bit, setting_of_number_of}
use Rattle.base.specs.RestLaws.{pre_rests_right}
use Rattle.base.specs.HoldLaws.{rests_places, holds_number}
use Rattle.base.specs.PlaceLaws.{test_holds, rests_same, rests_once}

-- a guard gives the right answer, whatever the wires of other conditions hold
pub pre_guard_right : (P : Setting → Bool) (cs : List ℕ) → Over cs P → (σ : Setting) → pre_guard P cs σ ≡ P σ
pre_guard_right P cs over σ =
    pre_rests_right P cs over σ (setting_of (pre_rests P cs) (number_of (pre_rests P cs) σ))
    (λ c m r. setting_of_number_of (pre_rests P cs) σ c (keep_in (pre_rests_on P cs) cs c m r))

module _ (n s : ℕ) where
  -- the table's bit at what any wires hold is the set's, at the setting that they make
  pub guard_wires : (τ : Setting) → has (table n s) (number_of (rests n s) τ) ≡ has s (number_of (upto n) τ)
  unfolding table table_over spread
  guard_wires τ =
      collect_has (2 ^ length (rests n s)) (λ j. has s (spread n (rests n s) j)) (number_of (rests n s) τ) (number_of_below (rests n s) τ)
      ∙ ap (λ (R : List ℕ). test n s (setting_of R (number_of R τ))) (rests_same n s)
      ∙ pre_guard_right (test n s) (upto n) (test_holds n s).over τ

  -- setting j is in s exactly when the table has the bit k that collects the bits of j at the conditions rested on, in their order
  pub guard_right : (j : ℕ) → j < 2 ^ n → has (table n s) (number_of (rests n s) (bit j)) ≡ has s j
  guard_right j h = guard_wires (bit j) ∙ ap (has s) (number_of_bit n j h)

  -- any setting that gives the conditions rested on, in their order, the bits of k tells the table's bit k
  pub table_right : (j k : ℕ) → j < 2 ^ n → k < 2 ^ length (rests n s) → Agree (rests n s) (bit j) (setting_of (rests n s) k) → has (table n s) k ≡ has s j
  table_right j k hj hk h =
      ap (has (table n s)) (sym (number_of_agree (rests n s) (bit j) (setting_of (rests n s) k) h
      ∙ number_of_setting_of (rests n s) (rests_once n s) k hk))
      ∙ guard_right j hj

  -- table bits above the first 2 ^ d are zero
  pub table_above : (k : ℕ) → 2 ^ length (rests n s) ≤ k → has (table n s) k ≡ false
  unfolding table table_over spread
  table_above k h = collect_above (2 ^ length (rests n s)) (λ j. has s (spread n (rests n s) j)) k h

  -- the conditions rested on, handed on as the bits of a number
  pub chosen_rests : chosen n (collect n (rests_on n s)) ≡ rests n s
  unfolding chosen rests
  chosen_rests =
      keep_same (bit (collect n (rests_on n s))) (rests_on n s) (upto n) (λ t m. collect_has n (rests_on n s) t (omega (arith, from_below 0 n t m)))

-- a setting of n conditions is numbered below 2 ^ n
pub spread_below : (n : ℕ) (ts : List ℕ) (j : ℕ) → spread n ts j < 2 ^ n
unfolding spread
spread_below n ts j = rw (length_from 0 n) at (number_of_below (upto n) (setting_of ts j))

module _ (n s : ℕ) (cs : List ℕ) (P : Setting → Bool) (H : Holds n s cs P) where
  -- the table of the set gives P at whatever the wires σ of the condition gates rested on hold
  pub guard_holds : (σ : Setting) → has (table n s) (number_of (pre_rests P cs) σ) ≡ P σ
  guard_holds σ =
      ap (λ (l : List ℕ). has (table n s) (number_of l σ)) (rests_places n s cs P H)
      ∙ ap (has (table n s)) (number_of_map (λ t. get_or cs t 0) (rests n s) σ)
      ∙ guard_wires n s (λ t. σ (get_or cs t 0))
      ∙ holds_number n s cs P H σ
