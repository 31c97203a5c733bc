-- Document 01, "The plan file and its check (001, section 5.1)": which plans are accepted, in its own terms (demand 3, first sentence).
use Rattle.std.specs.Prelude.{ℕ, ◌≤◌, ◌<◌, ◌≡◌, List, map, true, length, take}
use Rattle.base.specs.Lists.{◌∈◌}
use Rattle.base.specs.Codes.{costly}
use Rattle.base.specs.declared.Operation.{Operation}
use Rattle.circuit.specs.Gates.{Gates, gate_at, operation}
use Rattle.circuit.specs.PlainCircuit.{gates_of, gate_count}
use Rattle.circuit_needed.specs.Needed.{wanted_of, Exclude}
use Rattle.plan.specs.PlanFile.{mark, gates_counted, groups_counted, Plan, groups_in, EachGroup, Rising, Apart, Ends}
use Rattle.plan.specs.Limits.{least_plan_bytes, most_plan_bytes}
use Rattle.plan.specs.Groups.{smallest, group_of, Waits, Chain}

-- "A plan is laid out when it has 9 to 1,024 bytes, this mark and version, the plain circuit's gate count, and as many groups as it counts,
-- ending where the file ends, each of size 2 or more with rising numbers."
pub record LaidOut (s p : List ℕ) : Type 0 where
  pub least : least_plan_bytes ≤ length p
  pub most : length p ≤ most_plan_bytes
  pub marked : take 5 p ≡ mark
  pub counted : gates_counted p ≡ gate_count s
  pub ended : Ends (groups_counted p) p least_plan_bytes
  pub joins : EachGroup (λ G. 2 ≤ length G) (groups_in p)
  pub rising : EachGroup Rising (groups_in p)

-- every gate that the group names exists, of n gates
abbrev pub Exist : ℕ → List ℕ → Type 0
Exist n G = (g : ℕ) → g ∈ G → g < n

-- document 02, C-15: "Groups must now stand in rising order of their smallest member."
abbrev pub GroupsRise : Plan → Type 0
GroupsRise Gs = Rising (map smallest Gs)

-- the group's members are one costly operation
abbrev pub OneCostly : Gates → List ℕ → Type 0
OneCostly C G = (op : Operation) × (costly op ≡ true) × ((g : ℕ) → g ∈ G → (l : List ℕ) × (gate_at C g ≡ operation op l))

-- no setting of the conditions needs two of the group's members together
abbrev pub NoTwoNeeded : Gates → List ℕ → List ℕ → Type 0
NoTwoNeeded C wanted G = (g h : ℕ) → g ∈ G → h ∈ G → (g ≡ h → ⊥) → Exclude C wanted g h

-- no group waits for itself by a chain of one or more waits
abbrev pub NoCircle : Gates → List ℕ → (ℕ → ℕ) → Type 0
NoCircle C wanted group = (p : ℕ) → Chain (Waits C wanted group) p p → ⊥

-- the plan p for the accepted rule s: it is laid out as the exact rules say, names existing gates once each, has its groups in order (C-15), joins in each
-- group one costly operation only, joins no two gates that some setting of the conditions needs together, and leaves no group waiting for itself by a chain
pub record Acceptable (s p : List ℕ) : Type 0 where
  pub laid_out : LaidOut s p
  pub exist : EachGroup (Exist (gate_count s)) (groups_in p)
  pub once : Apart (groups_in p)
  pub in_order : GroupsRise (groups_in p)
  pub one_costly : EachGroup (OneCostly (gates_of s)) (groups_in p)
  pub exclude : EachGroup (NoTwoNeeded (gates_of s) (wanted_of s)) (groups_in p)
  pub no_circle : NoCircle (gates_of s) (wanted_of s) (group_of (groups_in p))
