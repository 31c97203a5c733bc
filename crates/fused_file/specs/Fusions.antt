-- Inner: what is measured and written of a fused circuit in hand, and what the code asks of it.
use Rattle.std.specs.Prelude.{ℕ, ◌≡◌, List, length, get_or}
use Rattle.base.specs.SetsHeld.{sets_in}
use Rattle.file.specs.Versions.{written_version}
use Rattle.file.specs.Records.{Record}
use Rattle.file.specs.CircuitFile.{records_bytes}
use Rattle.fused_gate.specs.Emitted.{wire_in}
use Rattle.fused_gate.specs.declared.Wiring.{Wiring}
use Rattle.fused_group.specs.Joined.{emit_in}
use Rattle.fused_size.specs.Sizes.{Measured}
use Rattle.fused_size.specs.declared.Size.{Size}
use Rattle.fused_file.specs.Staged.{Stage, members_of, stage, Turnable}
use Rattle.fused_file.specs.Turns.{Measurable, Puttable, Measures, Sum, output_in, file_in}
use Rattle.fused_file.specs.declared.Fusion.{Fusion}

-- the output of variable x of the rule s
abbrev pub output_by : List ℕ → List ℕ → Wiring → ℕ → ℕ
output_by s outputs w x = output_in s outputs w.group.now w.wires.now x

module _ (f : Fusion) where
  -- group q: its place in the plan, its members, and its records over the wires w, the first of them being wire n
  abbrev pub place_for : ℕ → ℕ
  place_for q = get_or f.grouping.now.places q 0

  abbrev pub members_for : ℕ → List ℕ
  members_for q = members_of f.plan.now (place_for q) q

  abbrev pub group_records : List ℕ → ℕ → ℕ → List Record
  group_records w n q = emit_in f.circuit.now.quads f.circuit.now.count (sets_in f.circuit.now.needs) (wire_in f.grouping.now.group w) n (members_for q)

  abbrev pub group_bytes : List ℕ → ℕ → ℕ → List ℕ
  group_bytes w n q = records_bytes written_version (group_records w n q)

  -- it has u of them
  abbrev pub GroupWired : List ℕ → ℕ → ℕ → ℕ → Type 0
  GroupWired w n q u = u ≡ length (group_records w n q)

  abbrev pub MeasurableIn : ℕ → Type 0
  MeasurableIn q = Measurable f.circuit.now.quads f.plan.now f.grouping.now.group (place_for q) q

  abbrev pub GroupMeasured : ℕ → List ℕ → Size → Type 0
  GroupMeasured q w s = Measured f.circuit.now.quads (sets_in f.circuit.now.needs) (wire_in f.grouping.now.group w) (members_for q) s

  abbrev pub PuttableIn : ℕ → ℕ → Type 0
  PuttableIn q n =
      Puttable f.circuit.now.quads f.plan.now f.circuit.now.conditions f.grouping.now.group f.circuit.now.count (place_for q) q n

  -- all groups
  abbrev pub stage_of : Stage
  stage_of =
      stage f.plan.now f.circuit.now.quads f.circuit.now.count (sets_in f.circuit.now.needs) f.grouping.now.group f.grouping.now.places f.grouping.now.order
      f.grouping.now.groups

  abbrev pub stage_bytes : List ℕ
  stage_bytes = records_bytes written_version stage_of.records

  abbrev pub MeasuresIn : Type 0
  MeasuresIn =
      Measures f.plan.now f.circuit.now.quads (sets_in f.circuit.now.needs) f.grouping.now.group f.grouping.now.places f.grouping.now.order f.grouping.now.groups

  abbrev pub TurnableIn : Type 0
  TurnableIn =
      Turnable f.plan.now f.circuit.now.quads f.circuit.now.count (sets_in f.circuit.now.needs) f.grouping.now.group f.grouping.now.places
      f.circuit.now.conditions f.grouping.now.order f.grouping.now.groups

  -- the size s, whatever the count of gates and the conditions are
  abbrev pub Summed : Size → Type 0
  Summed s =
      (count : ℕ) (conds : List ℕ)
      → Turnable f.plan.now f.circuit.now.quads count (sets_in f.circuit.now.needs) f.grouping.now.group f.grouping.now.places conds f.grouping.now.order
      f.grouping.now.groups
      → Sum f.plan.now f.circuit.now.quads count (sets_in f.circuit.now.needs) f.grouping.now.group f.grouping.now.places f.grouping.now.order
      f.grouping.now.groups s

-- the file of the rule s
abbrev pub file_for : List ℕ → Fusion → List ℕ
file_for s f =
    file_in s f.plan.now f.circuit.now.quads f.circuit.now.count (sets_in f.circuit.now.needs) f.grouping.now.group f.grouping.now.places f.grouping.now.order
    f.grouping.now.groups f.circuit.now.outputs
