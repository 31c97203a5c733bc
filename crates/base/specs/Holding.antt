-- Inner, for document 01, "Needed gates (000 Def. 4)": a set of settings held as bits, and the test of settings over the condition gates that it stands for.
use Rattle.std.specs.Prelude.{◌≡◌, Bool, List, ℕ, ◌^◌, ◌≤◌, ◌<◌, length}
use Rattle.base.specs.Lists.{upto}
use Rattle.base.specs.Settings.{Setting, setting_of, number_of, Over, Once}
use Rattle.base.specs.Sets.{has}

-- the set s, of n conditions' settings, holds the test P over the condition gates cs; n may be more conditions than there are
pub record Holds (n s : ℕ) (cs : List ℕ) (P : Setting → Bool) : Type 0 where
  pub over : Over cs P  -- P looks at no other gate
  pub once : Once cs  -- the conditions are distinct
  pub room : length cs ≤ n
  pub holds : (j : ℕ) → j < 2 ^ n → has s j ≡ P (setting_of cs j)  -- setting j is in s exactly when it passes P

-- the test that a set of n conditions' settings stands for, over the conditions by their places
abbrev pub test : ℕ → ℕ → Setting → Bool
test n s σ = has s (number_of (upto n) σ)
