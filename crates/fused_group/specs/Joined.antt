-- Inner, for document 01, "The fused circuit file": the records of a group, alone or joined, from a rule's gates as they lie in lent arrays.
use Rattle.std.specs.Prelude.{ℕ, ◌+◌, ◌*◌, ◌≤◌, ◌<◌, ◌≡◌, List, [], ◌∷◌, map, length, get_or}
use Rattle.base.specs.Lists.{◌∈◌, Inside}
use Rattle.base.specs.Sets.{rests}
use Rattle.base.specs.Guards.{table}
use Rattle.circuit.specs.Gates.{arguments, conditions}
use Rattle.circuit.specs.Limits.{most_gates, most_conditions}
use Rattle.circuit_needed.specs.Held.{Applies, gate_in, gates_in, code_at}
use Rattle.plan.specs.PlanFile.{group_at, after}
use Rattle.file.specs.Records.{Pair, Record, guard}
use Rattle.fused.specs.Emission.{emit, pairs}
use Rattle.fused_gate.specs.Emitted.{alone_in, Grouped}

-- the records of a group of the quads' gates, the first of them being wire n; a group of two or more asks for no variable's kind, so for no rule
abbrev pub emit_in : List ℕ → ℕ → List ℕ → (ℕ → ℕ) → ℕ → List ℕ → List Record
emit_in quads count sets wire n [] = []
emit_in quads count sets wire n (m ∷ []) = alone_in quads wire m ∷ []
emit_in quads count sets wire n (m ∷ k ∷ l) = emit [] (gates_in quads count) sets wire n (m ∷ k ∷ l)

-- the guard of a member with the precondition s; conds: condition t's gate at place t
abbrev pub guard_in : List ℕ → (ℕ → ℕ) → ℕ → Record
guard_in conds wire s = guard (map (λ t. wire (get_or conds t 0)) (rests most_conditions s)) (table most_conditions s)

-- the guards of a group, members rising
abbrev pub guards_in : List ℕ → (ℕ → ℕ) → List ℕ → List ℕ → List Record
guards_in conds wire sets ms = map (λ m. guard_in conds wire (get_or sets m 0)) ms

-- argument k of gate g
abbrev pub argument_at : List ℕ → ℕ → ℕ → ℕ
argument_at quads g k = get_or quads (4 * g + 1 + k) 0

-- the members' wires at argument place k
abbrev pub values_in : List ℕ → (ℕ → ℕ) → ℕ → List ℕ → List ℕ
values_in quads wire k ms = map (λ m. wire (argument_at quads m k)) ms

-- the pairs of the pick for argument place k: the guards are the wires from n on
abbrev pub pairs_in : List ℕ → (ℕ → ℕ) → ℕ → ℕ → List ℕ → List Pair
pairs_in quads wire n k ms = pairs n (values_in quads wire k ms)

-- What the code asks of the arrays.

-- the group at the place at lies in the plan p, and its members have numbers of gates
pub record Lies (p : List ℕ) (at : ℕ) : Type 0 where
  pub within : after p at ≤ length p
  pub inside : Inside most_gates (group_at p at)

-- it can be measured: it has two or more members, each a gate of two arguments, which have wires
pub record Joinable (quads p group : List ℕ) (at : ℕ) : Type 0 where
  pub lies : Lies p at
  pub many : 2 ≤ get_or p at 0
  pub two : (m : ℕ) → m ∈ group_at p at → length (arguments (gate_in quads m)) ≡ 2
  pub placed : (m a : ℕ) → m ∈ group_at p at → a ∈ arguments (gate_in quads m) → Grouped group a

-- the guards over the conditions conds can be written
pub record Guarded (conds group : List ℕ) : Type 0 where
  pub guarded : (t : ℕ) → t < most_conditions → Grouped group (get_or conds t 0)

-- the pick for argument place k of the group at the place at of the plan p can be written
pub record Paired (quads p group : List ℕ) (k at : ℕ) : Type 0 where
  pub lies : Lies p at
  pub few : k < 2
  pub placed : (m : ℕ) → m ∈ group_at p at → Grouped group (argument_at quads m k)

-- its picks and its operation can be written
pub record Fusing (quads p group : List ℕ) (at : ℕ) : Type 0 where
  pub zero_paired : Paired quads p group 0 at
  pub one_paired : Paired quads p group 1 at
  pub some : 0 < get_or p at 0
  pub coded : Applies (code_at quads (get_or (group_at p at) 0 0))

-- the group at the place at of the plan p can be written; conds: condition t's gate at place t
pub record JoinWritable (quads p conds group : List ℕ) (count at : ℕ) : Type 0 where
  pub joinable : Joinable quads p group at
  pub below : Inside count (group_at p at)
  pub conditioned : (t : ℕ) → t < most_conditions → get_or conds t 0 ≡ get_or (conditions (gates_in quads count)) t 0
  pub guarded : Guarded conds group
