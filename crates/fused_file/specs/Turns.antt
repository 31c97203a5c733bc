-- Inner: one group in turn, and the whole file, as the code measures and writes them from lent arrays.
use Rattle.std.specs.Prelude.{Option, Some, None, ℕ, ◌≤◌, ◌<◌, ◌≡◌, List, map, cond, length, get_or}
use Rattle.base.specs.Lists.{upto}
use Rattle.file.specs.Versions.{written_version}
use Rattle.file.specs.Limits.{most_wires}
use Rattle.file.specs.Records.{records_cost}
use Rattle.file.specs.CircuitFile.{records_bytes, file_bytes, no_wire}
use Rattle.rule.specs.Header.{variables, working_at}
use Rattle.fused_gate.specs.Emitted.{wire_in, Grouped, Coded, Writable}
use Rattle.fused_group.specs.Joined.{Joinable, JoinWritable}
use Rattle.fused_size.specs.declared.Size.{Size}
use Rattle.fused_file.specs.Staged.{stage, Turnable}
use Rattle.circuit.specs.Rooms.{variable_room}

-- group q, listed at the place at of the plan p, or alone where the place is 0, can be measured
pub record Measurable (quads p group : List ℕ) (at q : ℕ) : Type 0 where
  pub alone : at ≡ 0 → Coded quads q
  pub joins : (at ≡ 0 → ⊥) → Joinable quads p group at

-- it can be written, the first of its records being wire n; conds: condition t's gate at place t
pub record Puttable (quads p conds group : List ℕ) (count at q n : ℕ) : Type 0 where
  pub alone : at ≡ 0 → Writable quads group q
  pub joins : (at ≡ 0 → ⊥) → JoinWritable quads p conds group count at
  pub narrow : n ≤ most_wires

-- the arrays, with some number of gates and some conditions, can be written
pub record Measures (p quads needs group places ord : List ℕ) (groups : ℕ) : Type 0 where
  pub count : ℕ
  pub conds : List ℕ
  pub turnable : Turnable p quads count needs group places conds ord groups

-- the records of the first i groups have this size
pub record Sum (p quads : List ℕ) (count : ℕ) (needs group places ord : List ℕ) (i : ℕ) (s : Size) : Type 0 where
  pub wired : s.wires ≡ length (stage p quads count needs group places ord i).records
  pub long : s.bytes ≡ length (records_bytes written_version (stage p quads count needs group places ord i).records)
  pub costs : s.cost ≡ records_cost (stage p quads count needs group places ord i).records

-- where a group lies in a plan, by the array of places, which has 0 for a group alone
abbrev pub PlaceOf : Option ℕ → ℕ → Type 0
PlaceOf None at = at ≡ 0
PlaceOf (Some k) at = (k ≡ at) × (k ≡ 0 → ⊥)

-- the first v of the 32 outputs can be written: the gates that give them have wires
pub record OutputsPlaced (outputs : List ℕ) (v : ℕ) (group : List ℕ) : Type 0 where
  pub held : length outputs ≡ variable_room
  pub few : v ≤ variable_room
  pub placed : (x : ℕ) → x < v → Grouped group (get_or outputs x 0)

-- the output of variable x of the rule s: the wire of its last gate, no wire for a working one
abbrev pub output_in : List ℕ → List ℕ → List ℕ → List ℕ → ℕ → ℕ
output_in s outputs group wires x = cond (working_at s x) no_wire (wire_in group wires (get_or outputs x 0))

-- the file of the rule s: outputs: every variable's last gate
abbrev pub file_in : List ℕ → List ℕ → List ℕ → ℕ → List ℕ → List ℕ → List ℕ → List ℕ → ℕ → List ℕ → List ℕ
file_in s p quads count needs group places ord groups outputs =
    file_bytes written_version (variables s) (stage p quads count needs group places ord groups).records
    (map (output_in s outputs group (stage p quads count needs group places ord groups).wires) (upto (variables s)))
