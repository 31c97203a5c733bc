-- Inner: what is written of the fused circuit, group by group, as it lies in lent arrays.
use Rattle.std.specs.Prelude.{ℕ, zero, suc, ◌+◌, ◌-◌, ◌≤◌, ◌<◌, ◌≡◌, List, [], ◌∷◌, ◌++◌, cond, eqb, length, get_or, set, replicate}
use Rattle.circuit.specs.Limits.{most_gates}
use Rattle.plan.specs.PlanFile.{group_at}
use Rattle.file.specs.Versions.{written_version}
use Rattle.file.specs.Records.{Record, records_cost}
use Rattle.file.specs.CircuitFile.{records_bytes}
use Rattle.fused.specs.SizeLimits.{most_record_bytes}
use Rattle.fused_gate.specs.Emitted.{wire_in, Writable}
use Rattle.fused_group.specs.Joined.{emit_in, JoinWritable}
use Rattle.file.specs.Limits.{most_wires}

-- after some turns: the records written, and the wire of each group written, at the place of its name
pub record Stage : Type 0 where
  pub records : List Record
  pub wires : List ℕ

-- the members of group q: those listed at the place at of the plan p, itself alone where the place is 0
abbrev pub members_of : List ℕ → ℕ → ℕ → List ℕ
members_of p at q = cond (eqb at 0) (q ∷ []) (group_at p at)

-- p: the plan, quads: count gates, needs: their preconditions, group: each gate's group, places: the place in the plan of each gate's group, 0 for a group alone
module _ (p quads : List ℕ) (count : ℕ) (needs group places : List ℕ) where
  -- the records of group q, after those of a stage
  abbrev pub turn_records : Stage → ℕ → List Record
  turn_records w q = emit_in quads count needs (wire_in group w.wires) (length w.records) (members_of p (get_or places q 0) q)

  -- one group more; its wire is its last record's
  abbrev pub turn : Stage → ℕ → Stage
  turn w q = record {
    records = w.records ++ turn_records w q;
    wires = set w.wires q (length w.records + length (turn_records w q) - 1);
  }

  -- i groups, in the order ord
  unfoldable pub stage : List ℕ → ℕ → Stage
  stage ord zero = record { records = []; wires = replicate most_gates 0 }
  stage ord (suc i) = turn (stage ord i) (get_or ord i 0)

  -- what the code asks of the arrays: each group in turn can be written, and the wires, bytes and cost stay small; conds: condition t's gate at place t
  pub record Turnable (conds ord : List ℕ) (groups : ℕ) : Type 0 where
    pub few : groups ≤ most_gates
    pub inside : (i : ℕ) → i < groups → get_or ord i 0 < most_gates
    pub alone : (i : ℕ) → i < groups → get_or places (get_or ord i 0) 0 ≡ 0 → Writable quads group (get_or ord i 0)
    pub joins : (i : ℕ) → i < groups → (get_or places (get_or ord i 0) 0 ≡ 0 → ⊥) → JoinWritable quads p conds group count (get_or places (get_or ord i 0) 0)
    pub below : count ≤ most_gates
    pub member : (i : ℕ) → i < groups → get_or ord i 0 < count
    pub wired : (i : ℕ) → i ≤ groups → length (stage ord i).records ≤ most_wires
    pub long : (i : ℕ) → i ≤ groups → length (records_bytes written_version (stage ord i).records) ≤ most_record_bytes
    pub costs : (i : ℕ) → i ≤ groups → records_cost (stage ord i).records ≤ 10240
