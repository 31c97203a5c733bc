-- Document 01, "Needed gates (000 Def. 4)": what the pass that finds the needed gates wants of a type of sets of settings.
use Rattle.std.specs.Prelude.{◌≡◌, Bool, true, false, not, ◌&&◌, ◌||◌, ℕ}
use Rattle.base.specs.Settings.{Setting}

-- sets S of the settings that J numbers; `has s j` says whether setting j is in s
pub record SetsOf (J : Type 0) (setting : J → Setting) (S : Type 0) (has : S → J → Bool) : Type 0 where
  pub empty : S  -- no setting
  pub whole : S  -- every setting
  pub join : S → S → S  -- the settings of either set
  pub given : ℕ → S → S  -- those of the set that give condition c the bit 1
  pub without : ℕ → S → S  -- those that give it 0
  pub has_empty : (j : J) → has empty j ≡ false
  pub has_whole : (j : J) → has whole j ≡ true
  pub has_join : (s t : S) (j : J) → has (join s t) j ≡ (has s j || has t j)
  pub has_given : (c : ℕ) (s : S) (j : J) → has (given c s) j ≡ (has s j && setting j c)
  pub has_without : (c : ℕ) (s : S) (j : J) → has (without c s) j ≡ (has s j && not (setting j c))
