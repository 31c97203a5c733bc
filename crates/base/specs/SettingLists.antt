-- Inner, for document 01, "The fused circuit file": the conditions that a member rests on, as code holds them: a list in hand, so many of them and zeros after them.
use Rattle.std.specs.Prelude.{◌≡◌, List, ℕ, ◌≤◌, length, take}
use Rattle.base.specs.Lists.{Inside}
use Rattle.base.specs.Buffers.{padded}
use Rattle.base.specs.SetLimits.{set_conditions}
use Rattle.base.specs.declared.ConditionList.{ConditionList}

-- the conditions of the list
unfoldable pub conditions_in : ConditionList → List ℕ
conditions_in r = take r.count r.at

-- it holds as many as it says, all of them conditions
pub record Lists (r : ConditionList) : Type 0 where
  pub counted : r.count ≡ length (conditions_in r)
  pub listed : r.at ≡ padded set_conditions (conditions_in r)
  pub few : r.count ≤ set_conditions
  pub below : Inside set_conditions (conditions_in r)
