-- Inner, for document 01, "The fused circuit file": what the records of one group come to.
use Rattle.std.specs.Prelude.{ℕ, ◌+◌, ◌*◌, ◌^◌, ◌<◌, ◌≡◌, Bool, cond, List, [], ◌∷◌, length, get_or}
use Rattle.base.specs.Sets.{rests}
use Rattle.circuit.specs.Limits.{most_conditions}
use Rattle.base.specs.Lists.{Inside}
use Rattle.file.specs.Versions.{written_version, table_bytes}
use Rattle.file.specs.Records.{records_cost}
use Rattle.file.specs.CircuitFile.{records_bytes}
use Rattle.plan.specs.PlanFile.{group_at}
use Rattle.fused_group.specs.Joined.{emit_in}
use Rattle.fused_group.specs.Decisions.{has_pick}
use Rattle.fused_group.specs.Joints.{members}
use Rattle.fused_group.specs.declared.Joint.{Joint}
use Rattle.fused_group.specs.declared.Picks.{Picks}
use Rattle.fused_gate.specs.Emitted.{wire_by}
use Rattle.base.specs.SetsHeld.{sets_in}
use Rattle.fused_size.specs.declared.Size.{Size}

-- one record of so many bytes and this cost
abbrev pub one_of : ℕ → ℕ → Size
one_of bytes cost = record { wires = 1; bytes = bytes; cost = cost }

-- what two parts come to together, where the sums fit
abbrev pub sum_of : Size → Size → Size
sum_of a b = record { wires = a.wires + b.wires; bytes = a.bytes + b.bytes; cost = a.cost + b.cost }

abbrev pub Together : Size → Size → Type 0
Together a b = (a.wires + b.wires < 2 ^ 64) × ((a.bytes + b.bytes < 2 ^ 64) × (a.cost + b.cost < 2 ^ 64))

abbrev pub SumOf : Size → Size → Size → Type 0
SumOf a b s = s ≡ sum_of a b

-- how many conditions the members rest on, counted for each member
abbrev pub rested_by : List ℕ → List ℕ → ℕ
rested_by sets [] = 0
rested_by sets (m ∷ ms) = length (rests most_conditions (get_or sets m 0)) + rested_by sets ms

-- the bytes of their guards
abbrev pub guards_bytes : List ℕ → List ℕ → ℕ
guards_bytes sets ms = (2 + table_bytes written_version) * length ms + 2 * rested_by sets ms

-- by the decision which picks the group at the place at of the plan p has: its guards have this size
abbrev pub GuardsSized : List ℕ → List ℕ → ℕ → Picks → Size → Type 0
GuardsSized sets p at picks s =
    (s.wires ≡ cond (has_pick picks) (get_or p at 0) 0)
    × ((s.bytes ≡ cond (has_pick picks) (guards_bytes sets (group_at p at)) 0) × (s.cost ≡ cond (has_pick picks) (get_or p at 0) 0))

-- and the pick of an argument place, of so many pairs
abbrev pub PlaceSized : ℕ → Bool → Size → Type 0
PlaceSized size picked s = (s.wires ≡ cond picked 1 0) × ((s.bytes ≡ cond picked (2 + 4 * size) 0) × (s.cost ≡ cond picked (2 * size) 0))

-- the records of a group with these members, over these wires, have this size, wherever they stand
pub record Measured (quads sets : List ℕ) (wire : ℕ → ℕ) (ms : List ℕ) (s : Size) : Type 0 where
  pub wired : (count n : ℕ) → Inside count ms → s.wires ≡ length (emit_in quads count sets wire n ms)
  pub long : (count n : ℕ) → Inside count ms → s.bytes ≡ length (records_bytes written_version (emit_in quads count sets wire n ms))
  pub costs : (count n : ℕ) → Inside count ms → s.cost ≡ records_cost (emit_in quads count sets wire n ms)

-- the same of a joined group in hand
abbrev pub MeasuredIn : Joint → Size → Type 0
MeasuredIn j s = Measured j.circuit.now.quads (sets_in j.circuit.now.needs) (wire_by j.wiring) (members j) s
