-- Inner: each gate's group and where it stands in the plan, as tables of 256 places.
use Rattle.std.specs.Prelude.{ℕ, List, map}
use Rattle.base.specs.Lists.{upto}
use Rattle.circuit.specs.Limits.{most_gates}
use Rattle.base.specs.Buffers.{padded}
use Rattle.plan.specs.PlanFile.{Plan}
use Rattle.plan.specs.Groups.{group_of}
use Rattle.plan.specs.Places.{place_of}

-- the group of each of n gates, by its smallest member
unfoldable pub group_table : ℕ → Plan → List ℕ
group_table n Gs = padded most_gates (map (group_of Gs) (upto n))

-- the place of each of n gates' group
unfoldable pub place_table : ℕ → List ℕ → List ℕ
place_table n p = padded most_gates (map (place_of p) (upto n))

-- before any group is joined: each of n gates is a group alone
unfoldable pub each_alone : ℕ → List ℕ
each_alone n = padded most_gates (upto n)
