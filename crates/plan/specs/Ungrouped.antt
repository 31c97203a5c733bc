-- Document 01, "The plan file and its check": the memory of the groups before a plan is checked.
use Rattle.std.specs.Prelude.{replicate, ◌≡◌}
use Rattle.plan.specs.declared.Grouping.{Grouping}
use Rattle.circuit.specs.Rooms.{gate_room}

-- all of it is 0
abbrev pub ungrouped : Grouping
ungrouped = record {
  group = replicate gate_room 0;
  places = replicate gate_room 0;
  order = replicate gate_room 0;
  groups = 0;
}

-- nothing lies in it; a count of groups may be left
abbrev pub Ungrouped : Grouping → Type 0
Ungrouped g = (g.group ≡ replicate gate_room 0) × ((g.places ≡ replicate gate_room 0) × (g.order ≡ replicate gate_room 0))
