-- Row 30: what the answer of ordering the groups says, and its number.
use Rattle.std.specs.Prelude.{ℕ, Bool, List, Result, Ok, Err}
use Rattle.std.proofs.Math.Path.{◌≡◌, refl}
use Rattle.std.proofs.Math.Bool.{true, false, cond}
use Rattle.std.proofs.Math.ListN.{length}
use Rattle.base.specs.declared.Row.{Row}
use Rattle.base.specs.declared.Row.TheVariants.{Circle}
use Rattle.base.specs.Rows.{row_in}
use Rattle.circuit.specs.Gates.{Gates}
use Rattle.plan.specs.Groups.{groups}
use Rattle.plan.specs.Rows.{placed}
use Rattle.plan_order.specs.Row.{order_of}

module _ (C : Gates) (sets : List ℕ) (group : ℕ → ℕ) where
  -- all are placed, so many
  pub answer_placed : (k : ℕ) → Ok k ≡ order_of C sets group → (placed C sets group ≡ true) × (k ≡ length (groups (length C) group))
  unfolding order_of
  answer_placed k e = go (placed C sets group) refl e
    where
      go : (t : Bool) → placed C sets group ≡ t → ◌≡◌ {A = Result ℕ Row} (Ok k) (cond t (Ok (length (groups (length C) group))) (Err Circle))
          → (placed C sets group ≡ true) × (k ≡ length (groups (length C) group))
      go true h f = (h, cc)
      go false h f = absurd cc

  -- its number
  pub order_row_lem : row_in (order_of C sets group) ≡ cond (placed C sets group) 0 30
  unfolding order_of
  order_row_lem = go (placed C sets group)
    where
      go : (t : Bool) → ◌≡◌ {A = ℕ} (row_in (cond t (Ok (length (groups (length C) group))) (Err Circle))) (cond t 0 30)
      go true = refl
      go false = refl
