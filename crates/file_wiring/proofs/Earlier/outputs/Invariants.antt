use Rattle.std.proofs.Common.{◌≡◌, ◌-◌, ◌+◌, ◌*◌}
use Rattle.file.specs.FileFigures.{wires_at}
use Rattle.file.specs.CircuitRows.{outputs_stand}
use Rattle.file_parts.specs.HeldKinds.{held_kind}
use Rattle.file_wiring.proofs.Earlier.outputs.Given as goal

-- the outputs that are left decide
abbrev pub invariant-loop-x : goal.invariant-loop-x
invariant-loop-x l = let k = held_kind l.self.kinds.now in
    outputs_stand l.self.end.0 k 0 (wires_at l.v l.self.file.now l.at) ≡ outputs_stand l.self.end.0 k l.x (wires_at (l.v - l.x) l.self.file.now (l.at + 2 * l.x))
