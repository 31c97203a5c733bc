-- Inner, for row 30 of document 01: what ordering the groups answers.
use Rattle.std.specs.Prelude.{ℕ, cond, List, length, Result, Ok, Err}
use Rattle.base.specs.declared.Row.{Row}
use Rattle.base.specs.declared.Row.TheVariants.{Circle}
use Rattle.circuit.specs.Gates.{Gates}
use Rattle.plan.specs.Groups.{groups}
use Rattle.plan.specs.Rows.{placed}

-- the groups are placed, so many of them, or a circle remains
unfoldable pub order_of : Gates → List ℕ → (ℕ → ℕ) → Result ℕ Row
order_of C sets group = cond (placed C sets group) (Ok (length (groups (length C) group))) (Err Circle)
