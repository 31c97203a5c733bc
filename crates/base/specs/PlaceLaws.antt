-- Laws for document 01, "Needed gates (000 Def. 4)": a set of settings depends only on the bits that it rests on; the settings beyond the conditions there are repeat the pattern.
use Rattle.std.specs.Prelude.{◌≡◌, Bool, true, false, List, ℕ, ◌%◌, ◌^◌, ◌≤◌, ◌<◌, ltb, length}
use Rattle.std.proofs.Common.{sym, ap, ◌∙◌, true≢false, le_of_eq, mod-lt, lt_of_lt_of_le, arith, pow_mono, pow_pos, ltb-true, ltb-false}
use Rattle.base.specs.Lists.{Inside, ◌∈◌, upto}
use Rattle.base.specs.ListLaws.{length_from, length_keep, keep_same}
use Rattle.base.specs.MemberLaws.{from_below, keep_from}
use Rattle.base.specs.TestLaws.{split}
use Rattle.base.specs.Bits.{bit}
use Rattle.base.specs.Settings.{Setting, Once, pre_rests_on, pre_rests}
use Rattle.base.specs.Sets.{has, rests_on, rests}
use Rattle.base.specs.Holding.{Holds, test}
use Rattle.base.specs.BitLaws.{bit_mod}
use Rattle.base.specs.SettingListLaws.{get_or_upto, from_once, keep_once}
use Rattle.base.specs.SettingLaws.{number_of_agree, number_of_setting_of, number_of_bit}
use Rattle.base.specs.RestLaws.{pre_rests_right}
use Rattle.base.specs.HoldLaws.{rests_bits, rests_beyond}

-- a set of n conditions' settings holds its own test, over the conditions by their places
pub test_holds : (n s : ℕ) → Holds n s (upto n) (test n s)
test_holds n s = record {
  over = λ σ τ h. ap (has s) (number_of_agree (upto n) σ τ h);
  once = from_once 0 n;
  room = le_of_eq (length_from 0 n);
  holds = λ j l. ap (has s) (sym (number_of_setting_of (upto n) (from_once 0 n) j (rw (length_from 0 n) l)));
}

module _ (n s : ℕ) where
  -- the same as a test, at one condition
  on_place : (t : ℕ) → t ∈ upto n → rests_on n s t ≡ pre_rests_on (test n s) (upto n) t
  on_place t m =
      let l : t < n = omega (arith, from_below 0 n t m) in
      sym (rests_bits n s (upto n) (test n s) (test_holds n s) t (rw (length_from 0 n) l)) ∙ ap (pre_rests_on (test n s) (upto n)) (get_or_upto n t l)

  -- what a set rests on is what its test rests on, over the conditions by their places
  pub rests_same : rests n s ≡ pre_rests (test n s) (upto n)
  unfolding rests
  rests_same = keep_same (rests_on n s) (pre_rests_on (test n s) (upto n)) (upto n) on_place

  -- whether a setting is in a set depends only on the bits that the set rests on
  pub rests_right : (i j : ℕ) → i < 2 ^ n → j < 2 ^ n → ((t : ℕ) → t < n → rests_on n s t ≡ true → bit i t ≡ bit j t) → has s i ≡ has s j
  rests_right i j hi hj h =
      ap (has s) (sym (number_of_bit n i hi))
      ∙ pre_rests_right (test n s) (upto n) (test_holds n s).over (bit j) (bit i) (λ t m r. h t (omega (arith, from_below 0 n t m)) (on_place t m ∙ r))
      ∙ ap (has s) (number_of_bit n j hj)

  pub rests_once : Once (rests n s)
  unfolding rests
  rests_once = keep_once (rests_on n s) (upto n) (from_once 0 n)

  -- few conditions, each of them one of those there are
  pub few_rests : length (rests n s) ≤ n
  unfolding rests
  few_rests = omega (arith, length_keep (rests_on n s) (upto n), length_from 0 n)

  pub rests_inside : Inside n (rests n s)
  unfolding rests
  rests_inside t m = omega (arith, from_below 0 n t (keep_from (rests_on n s) (upto n) t m).0)

  -- a set that rests on none but the first m conditions repeats the pattern of its first 2 ^ m settings
  pub repeats : (m : ℕ) → m ≤ n → ((t : ℕ) → m ≤ t → t < n → rests_on n s t ≡ false) → (j : ℕ) → j < 2 ^ n → has s j ≡ has s (j % 2 ^ m)
  repeats m l none j h =
      rests_right j (j % 2 ^ m) h (lt_of_lt_of_le (mod-lt j (pow_pos m)) (pow_mono l))
      (λ t u r. split (ltb t m) (λ e. sym (bit_mod j m t (ltb-true t m e))) (λ e. absurd (true≢false (sym r ∙ none t (ltb-false t m e) u))))

-- settings beyond the conditions there are repeat the pattern
pub holds_repeats : (n s : ℕ) (cs : List ℕ) (P : Setting → Bool) → Holds n s cs P → (j : ℕ) → j < 2 ^ n → has s j ≡ has s (j % 2 ^ length cs)
holds_repeats n s cs P H j h = repeats n s (length cs) H.room (rests_beyond n s cs P H) j h
