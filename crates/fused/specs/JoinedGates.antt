-- Document 02, C-18, "No pick between equal wires": the gates that a plan joins with one, their guards, their wires of the fused circuit at an argument place, their records; and when
-- records stand in a circuit.
use Rattle.std.specs.Prelude.{ℕ, ◌+◌, ◌-◌, ◌≡◌, List, [], ◌∷◌, ◌++◌, map, length, get_or}
use Rattle.file.specs.Records.{Record}
use Rattle.circuit.specs.Gates.{gate_at, arguments}
use Rattle.circuit.specs.PlainCircuit.{gates_of, gate_count}
use Rattle.circuit_needed.specs.Pass.{rule_preconditions}
use Rattle.plan.specs.PlanFile.{groups_in}
use Rattle.plan.specs.Groups.{group_of, members}
use Rattle.fused.specs.Emission.{gate_operation, picked, joined, guard_of, values_at}
use Rattle.fused.specs.FusedCircuit.{wire_of}

-- argument k of gate m of a rule
unfoldable pub argument : List ℕ → ℕ → ℕ → ℕ
argument s m k = get_or (arguments (gate_at (gates_of s) m)) k 0

-- the members of gate m's group, m among them
abbrev pub joined_with : List ℕ → List ℕ → ℕ → List ℕ
joined_with s p m = members (gate_count s) (group_of (groups_in p)) (group_of (groups_in p) m)

-- their guards
abbrev pub guards_with : List ℕ → List ℕ → ℕ → List Record
guards_with s p m = map (guard_of s (gates_of s) (rule_preconditions s) (wire_of s p)) (joined_with s p m)

-- their wires at argument place k
abbrev pub wires_at : List ℕ → List ℕ → ℕ → ℕ → List ℕ
wires_at s p m k = values_at s (gates_of s) (rule_preconditions s) (wire_of s p) (joined_with s p m) k

-- the records of its group, if it has two or more members, the first of them being wire n
abbrev pub records_with : List ℕ → List ℕ → ℕ → ℕ → List Record
records_with s p m n = joined n (gate_operation (gate_at (gates_of s) m)) (guards_with s p m) (wires_at s p m 0 ∷ wires_at s p m 1 ∷ [])

-- how many of its two places have a pick
abbrev pub picks_with : List ℕ → List ℕ → ℕ → ℕ
picks_with s p m = length (picked (wires_at s p m 0 ∷ wires_at s p m 1 ∷ []))

-- records stand together in R, and w is the wire of the last of them; what n: these records, if the first of them is wire n
pub record Stands (R : List Record) (w : ℕ) (what : ℕ → List Record) : Type 0 where
  pub before : List Record
  pub after : List Record
  pub together : R ≡ before ++ (what (length before) ++ after)
  pub last : w ≡ length before + length (what (length before)) - 1
