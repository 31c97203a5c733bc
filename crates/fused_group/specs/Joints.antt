-- Inner, for document 01, "The fused circuit file": what is written of a joined group in hand, and what its writers ask.
use Rattle.std.specs.Prelude.{ℕ, ◌≤◌, Bool, List, [], ◌∷◌}
use Rattle.base.specs.SetsHeld.{sets_in}
use Rattle.plan.specs.PlanFile.{group_at}
use Rattle.file.specs.Limits.{most_wires}
use Rattle.file.specs.Versions.{written_version}
use Rattle.file.specs.Records.{Pair, pick}
use Rattle.file.specs.CircuitFile.{record_bytes, records_bytes}
use Rattle.fused_gate.specs.Emitted.{wire_by}
use Rattle.fused_group.specs.Joined.{emit_in, guard_in, guards_in, values_in, pairs_in, Lies, Guarded, Paired, Joinable, Fusing, JoinWritable}
use Rattle.fused_group.specs.Decisions.{Decided, kept_in, place_in, picks_in, read_in, operation_in, fused_in}
use Rattle.fused_group.specs.declared.Joint.{Joint}
use Rattle.fused_group.specs.declared.Picks.{Picks}

module _ (j : Joint) where
  abbrev pub members : List ℕ
  members = group_at j.plan.now j.at

  -- its members' wires at argument place k, and the pairs of the pick there; the guards are the wires from n on
  abbrev pub values_for : ℕ → List ℕ
  values_for k = values_in j.circuit.now.quads (wire_by j.wiring) k members

  abbrev pub pairs_for : ℕ → ℕ → List Pair
  pairs_for n k = pairs_in j.circuit.now.quads (wire_by j.wiring) n k members

  -- what the operation reads at argument place k
  abbrev pub read_for : ℕ → Bool → ℕ → ℕ
  read_for k picked next = read_in j.circuit.now.quads (wire_by j.wiring) k members picked next

  -- The bytes of its parts; n is its first wire.

  abbrev pub guard_for : ℕ → List ℕ
  guard_for s = record_bytes written_version (guard_in j.circuit.now.conditions (wire_by j.wiring) s)

  abbrev pub guards_for : List ℕ
  guards_for = records_bytes written_version (guards_in j.circuit.now.conditions (wire_by j.wiring) (sets_in j.circuit.now.needs) members)

  abbrev pub kept_for : Picks → List ℕ
  kept_for picks = records_bytes written_version (kept_in j.circuit.now.conditions (wire_by j.wiring) (sets_in j.circuit.now.needs) members picks)

  abbrev pub pick_for : ℕ → ℕ → List ℕ
  pick_for n k = record_bytes written_version (pick (pairs_for n k))

  abbrev pub place_for : ℕ → ℕ → Bool → List ℕ
  place_for n k picked = records_bytes written_version (place_in j.circuit.now.quads (wire_by j.wiring) n k members picked)

  abbrev pub picks_for : ℕ → Picks → List ℕ
  picks_for n picks = records_bytes written_version (picks_in j.circuit.now.quads (wire_by j.wiring) n members picks)

  abbrev pub operation_for : ℕ → Picks → List ℕ
  operation_for n picks = records_bytes written_version (operation_in j.circuit.now.quads (wire_by j.wiring) n members picks ∷ [])

  abbrev pub fused_for : ℕ → Picks → List ℕ
  fused_for n picks = records_bytes written_version (fused_in j.circuit.now.quads (wire_by j.wiring) n members picks)

  -- the whole group
  abbrev pub records_for : ℕ → List ℕ
  records_for n = records_bytes written_version (emit_in j.circuit.now.quads j.circuit.now.count (sets_in j.circuit.now.needs) (wire_by j.wiring) n members)

  -- What the code asks of it.

  abbrev pub LiesIn : Type 0
  LiesIn = Lies j.plan.now j.at

  abbrev pub GuardedIn : Type 0
  GuardedIn = Guarded j.circuit.now.conditions j.wiring.group.now

  abbrev pub PairedIn : ℕ → Type 0
  PairedIn k = Paired j.circuit.now.quads j.plan.now j.wiring.group.now k j.at

  abbrev pub JoinableIn : Type 0
  JoinableIn = Joinable j.circuit.now.quads j.plan.now j.wiring.group.now j.at

  abbrev pub FusingIn : Type 0
  FusingIn = Fusing j.circuit.now.quads j.plan.now j.wiring.group.now j.at

  -- the same for one that can be written from wire n on
  abbrev pub PairedFrom : ℕ → ℕ → Type 0
  PairedFrom n k = PairedIn k × (n ≤ most_wires)

  abbrev pub FusingFrom : ℕ → Type 0
  FusingFrom n = FusingIn × (n ≤ most_wires)

  abbrev pub JoinWritableIn : Type 0
  JoinWritableIn = JoinWritable j.circuit.now.quads j.plan.now j.circuit.now.conditions j.wiring.group.now j.circuit.now.count j.at

  abbrev pub DecidedIn : Picks → Type 0
  DecidedIn picks = Decided j.circuit.now.quads (wire_by j.wiring) members picks
