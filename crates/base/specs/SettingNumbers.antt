-- Document 01, "Needed gates (000 Def. 4)": sets of N settings held as numbers are such sets: 64 settings at six conditions, 256 at eight.
use Rattle.std.specs.Prelude.{◌≡◌, Bool, not, List, ℕ, ◌<◌, length, get_or}
use Rattle.std.proofs.Common.{ap}
use Rattle.std.specs.Int.Bits.{bit_and}
use Rattle.base.specs.Bits.{bit, collect}
use Rattle.base.specs.Settings.{Setting, setting_of, Once}
use Rattle.base.specs.Sets.{has, empty, whole, union, given, without}
use Rattle.base.specs.Interface.{SetsOf}
use Rattle.base.specs.BitLaws.{collect_same}
use Rattle.base.specs.SettingLaws.{setting_of_at}
use Rattle.base.specs.SetLaws.{has_empty, has_whole, has_union, has_those}

module _ (N : ℕ) (cs : List ℕ) where
  -- a setting's number, below N
  abbrev pub Numbered : Type 0
  Numbered = (j : ℕ) × (j < N)

  -- the setting of the condition gates cs with that number
  abbrev pub setting_at : Numbered → Setting
  setting_at j = setting_of cs j.0

  -- is it in the set s?
  abbrev pub has_number : ℕ → Numbered → Bool
  has_number s j = has s j.0

  -- those of s that give the condition gate c the bit 1, and those that give it 0
  abbrev pub given_gate : ℕ → ℕ → ℕ
  given_gate c s = bit_and s (collect N (λ j. setting_of cs j c))

  abbrev pub without_gate : ℕ → ℕ → ℕ
  without_gate c s = bit_and s (collect N (λ j. not (setting_of cs j c)))

  unfoldable pub numbers : SetsOf Numbered setting_at ℕ has_number
  numbers = record {
    empty = empty;
    whole = whole N;
    join = union;
    given = given_gate;
    without = without_gate;
    has_empty = λ j. has_empty j.0;
    has_whole = λ j. has_whole N j.0 j.1;
    has_join = λ s t j. has_union s t j.0;
    has_given = λ c s j. has_those N (λ i. setting_of cs i c) s j.0 j.1;
    has_without = λ c s j. has_those N (λ i. not (setting_of cs i c)) s j.0 j.1;
  }

  -- by the condition's place instead of its gate
  pub given_place : Once cs → (t s : ℕ) → t < length cs → given_gate (get_or cs t 0) s ≡ given N t s
  given_place o t s h =
      ap (bit_and s) (collect_same N (λ j. setting_of cs j (get_or cs t 0)) (λ j. bit j t) (λ j l. setting_of_at cs o j t h))

  pub without_place : Once cs → (t s : ℕ) → t < length cs → without_gate (get_or cs t 0) s ≡ without N t s
  without_place o t s h =
      ap (bit_and s) (collect_same N (λ j. not (setting_of cs j (get_or cs t 0))) (λ j. not (bit j t)) (λ j l. ap not (setting_of_at cs o j t h)))
