-- The numbers of a plan's rows: which they are, in the order in which they are checked.
use Rattle.std.specs.Prelude.{ℕ, ◌≡◌, refl, List, [], ◌∷◌}
use Rattle.plan.specs.Rows.{rows}
use Rattle.plan.specs.FailingLaws.{numbers_of}

-- 32 after 26 and before 27
pub rows_are : (s p : List ℕ) → numbers_of (rows s p) ≡ 20 ∷ 21 ∷ 22 ∷ 23 ∷ 24 ∷ 25 ∷ 26 ∷ 32 ∷ 27 ∷ 28 ∷ 29 ∷ 30 ∷ []
rows_are s p = refl
