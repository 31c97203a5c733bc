-- Inner: what the order of writing is worked out from, as it lies in memory.
use Rattle.std.specs.Prelude.{ℕ, ◌≤◌, ◌<◌, ◌≡◌, not, cond, List, [], ◌∷◌, eqb, leb, length, get_or, take}
use Rattle.base.specs.Lists.{◌∈◌}
use Rattle.base.specs.Codes.{code_of}
use Rattle.circuit.specs.Gates.{Earlier, conditions}
use Rattle.circuit.specs.Limits.{most_gates, most_conditions}
use Rattle.circuit_needed.specs.Held.{choice_code, code_at, first_at, second_at, third_at, gates_in}
use Rattle.circuit.specs.declared.Circuit.{Circuit}
use Rattle.plan.specs.declared.Grouping.{Grouping}
use Rattle.plan.specs.Groups.{members}
use Rattle.circuit.specs.Rooms.{gate_room}

-- the arguments of a gate by its code: a choice has three, an operation what the table says, any other none
unfoldable pub arity_of : ℕ → ℕ
arity_of code = cond (eqb code choice_code) 3 (code_of code).arity

-- the arguments of gate i of the quads
unfoldable pub arguments_at : List ℕ → ℕ → List ℕ
arguments_at quads i = take (arity_of (code_at quads i)) (first_at quads i ∷ second_at quads i ∷ third_at quads i ∷ [])

-- the numbers of l are places of the array of groups, and so are their groups
abbrev pub Into : List ℕ → List ℕ → Type 0
Into group l = (a : ℕ) → a ∈ l → (a < gate_room) × (get_or group a 0 < gate_room)

-- what the order is worked out from: gates in quads, arguments before their gates, the conditions, each gate's group by its smallest member,
-- and a mark at the members of a group of two or more
pub record Orderable (circuit : Circuit) (grouping : Grouping) : Type 0 where
  pub room : circuit.count ≤ most_gates
  pub earlier : Earlier (gates_in circuit.quads circuit.count)
  pub listed : (t : ℕ) → t < most_conditions → get_or circuit.conditions t 0 ≡ get_or (conditions (gates_in circuit.quads circuit.count)) t 0
  pub named : (x : ℕ) → x < circuit.count → (get_or grouping.group x 0 ≤ x) × (get_or grouping.group (get_or grouping.group x 0) 0 ≡ get_or grouping.group x 0)
  pub many : (m : ℕ) → m < circuit.count
      → leb 2 (length (members circuit.count (λ x. get_or grouping.group x 0) (get_or grouping.group m 0))) ≡ not (eqb (get_or grouping.places m 0) 0)
