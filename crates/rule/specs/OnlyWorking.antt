-- Document 02, C-13: kind bytes that differ only in which variables work, and those by which more work.
use Rattle.std.specs.Prelude.{ℕ, ◌≤◌, ◌<◌, ◌≡◌, true, List, length, get_or}
use Rattle.rule.specs.Limits.{last_kind}
use Rattle.rule.specs.Header.{working_of}
use Rattle.rule.specs.Format.{kind_in}

pub record OnlyWorking (kinds other : List ℕ) : Type 0 where
  -- as many, each 00 to 03, words for words and bits for bits
  pub many : length kinds ≡ length other
  pub known : (x : ℕ) → x < length other → get_or other x 0 ≤ last_kind
  pub alike : (x : ℕ) → x < length kinds → kind_in kinds x ≡ kind_in other x

pub record MoreWorking (kinds other : List ℕ) : Type 0 where
  pub only : OnlyWorking kinds other
  -- what works by the first works by the second
  pub more : (x : ℕ) → x < length kinds → working_of (get_or kinds x 0) ≡ true → working_of (get_or other x 0) ≡ true
