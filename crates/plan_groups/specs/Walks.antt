-- Inner: what the rows before have established where a pass over the groups stands.
use Rattle.std.specs.Prelude.{ℕ, zero, suc, ◌≤◌, ◌≡◌, List, [], ◌∷◌, Bool, length, get_or}
use Rattle.base.specs.Lists.{◌∈◌}
use Rattle.circuit.specs.Limits.{most_gates}
use Rattle.plan.specs.PlanFile.{groups_counted, group_at, after, groups_from, groups_in, EachGroup, Rising, Ends}
use Rattle.plan.specs.Limits.{least_plan_bytes, most_plan_bytes}
use Rattle.plan.specs.Accepted.{Exist}

-- the places where n groups begin, from the place at on; and where all groups of a plan do
abbrev pub begins_from : ℕ → List ℕ → ℕ → List ℕ
begins_from zero p at = []
begins_from (suc n) p at = at ∷ begins_from n p (after p at)

unfoldable pub begins : List ℕ → List ℕ
begins p = begins_from (groups_counted p) p least_plan_bytes

-- what the rows 20 to 25 establish of the plan p for n gates
pub record Readable (n : ℕ) (p : List ℕ) : Type 0 where
  pub room : n ≤ most_gates
  pub least : least_plan_bytes ≤ length p
  pub most : length p ≤ most_plan_bytes
  pub ended : Ends (groups_counted p) p least_plan_bytes
  pub joins : EachGroup (λ G. 2 ≤ length G) (groups_in p)
  pub rising : EachGroup Rising (groups_in p)
  pub exist : EachGroup (Exist n) (groups_in p)

-- as many groups as are left lie in the file from the place at on
pub record Lie (p : List ℕ) (left at : ℕ) : Type 0 where
  pub short : length p ≤ most_plan_bytes
  pub begun : least_plan_bytes ≤ at
  pub ended : Ends left p at

-- they are readable groups of n gates
pub record Ahead (n : ℕ) (p : List ℕ) (left at : ℕ) : Type 0 where
  pub room : n ≤ most_gates
  pub lie : Lie p left at
  pub joins : EachGroup (λ G. 2 ≤ length G) (groups_from left p at)
  pub rising : EachGroup Rising (groups_from left p at)
  pub exist : EachGroup (Exist n) (groups_from left p at)

-- the group that begins at the place is one
pub record ReadableGroup (n : ℕ) (p : List ℕ) (at : ℕ) : Type 0 where
  pub room : n ≤ most_gates
  pub short : length p ≤ most_plan_bytes
  pub begun : least_plan_bytes ≤ at
  pub lies : after p at ≤ length p
  pub joins : 2 ≤ get_or p at 0
  pub rising : Rising (group_at p at)
  pub exist : Exist n (group_at p at)

-- what a test of places answers is what t answers of the groups that begin there
abbrev pub Tells : (ℕ → Bool → Type 0) → List ℕ → (List ℕ → Bool) → Type 0
Tells post p t = (at : ℕ) (r : Bool) → at ∈ begins p → post at r → r ≡ t (group_at p at)
