-- Document 01, "The plain circuit": the memory of a circuit before one is built.
use Rattle.std.specs.Prelude.{replicate, ◌*◌, ◌≡◌}
use Rattle.base.specs.SetsHeld.{sets_in}
use Rattle.circuit.specs.declared.Circuit.{Circuit}
use Rattle.circuit.specs.Rooms.{gate_room, quad_room, variable_room, condition_room}

-- all of it is 0
abbrev pub clear : Circuit
clear = record {
  quads = replicate quad_room 0;
  needs = replicate (4 * gate_room) 0;
  outputs = replicate variable_room 0;
  conditions = replicate condition_room 0;
  count = 0;
}

-- nothing lies in it; a count of gates may be left
abbrev pub Clear : Circuit → Type 0
Clear c = (c.quads ≡ replicate quad_room 0)
    × ((sets_in c.needs ≡ replicate gate_room 0)
    × ((c.outputs ≡ replicate variable_room 0) × (c.conditions ≡ replicate condition_room 0)))
