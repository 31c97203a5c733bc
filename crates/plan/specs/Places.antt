-- Document 01, "The plan file and its check (001, section 5.1)": where in the plan's bytes the group of a gate is listed.
use Rattle.std.specs.Prelude.{ℕ, zero, suc, List, cond}
use Rattle.base.specs.Lists.{elem}
use Rattle.plan.specs.PlanFile.{groups_counted, group_at, after}
use Rattle.plan.specs.Limits.{least_plan_bytes}

-- of n groups from the place at on: the place of the first that lists the gate g, 0 when none does
abbrev pub place_from : ℕ → List ℕ → ℕ → ℕ → ℕ
place_from zero p at g = 0
place_from (suc n) p at g = cond (elem g (group_at p at)) at (place_from n p (after p at) g)

-- the place in the plan p of the group that lists the gate g, 0 when none does; its members stand after the byte at that place
unfoldable pub place_of : List ℕ → ℕ → ℕ
place_of p g = place_from (groups_counted p) p least_plan_bytes g
