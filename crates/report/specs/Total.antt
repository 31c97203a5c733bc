-- Document 02, C-16, "What a month saved": the last line of a report, with what the accepted entries cost before and after and what that saved.
use Rattle.std.specs.Prelude.{cond, List, [], ◌∷◌, ◌++◌, ℕ, ◌-◌, leb}
use Rattle.base.specs.Lists.{flat}
use Rattle.report.specs.Line.{decimal, spaced}

-- the word `total`
abbrev pub total : List ℕ
total = 116 ∷ 111 ∷ 116 ∷ 97 ∷ 108 ∷ []

-- "before less after, which may be negative": behind a space, with a minus sign where it is
unfoldable pub spaced_less : ℕ → ℕ → List ℕ
spaced_less before after = cond (leb after before) (spaced (before - after)) (32 ∷ 45 ∷ decimal (after - before))

-- "`total`, the entries accepted and refused, the accepted ones' cost before and after, and before less after"
unfoldable pub total_line : ℕ → ℕ → ℕ → ℕ → List ℕ
total_line accepted refused before after = total ++ (flat spaced (accepted ∷ refused ∷ before ∷ after ∷ []) ++ (spaced_less before after ++ (10 ∷ [])))
