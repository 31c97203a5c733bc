use Rattle.std.proofs.Common.{◌≡◌, ◌-◌, ◌+◌, ◌*◌}
use Rattle.base.specs.Lists.{every}
use Rattle.file_parts.specs.HeldKinds.{held_kind}
use Rattle.file_wiring.specs.Wires.{fits, wires_by}
use Rattle.file_wiring.proofs.Earlier.all_fit.Given as goal

-- the wires that are left decide
abbrev pub invariant-loop-k : goal.invariant-loop-k
invariant-loop-k l = let t = fits l.self.end.0 (held_kind l.self.kinds.now) l.kind in
    every t (wires_by l.step l.count l.self.file.now l.at) ≡ every t (wires_by l.step (l.count - l.k) l.self.file.now (l.at + l.step * l.k))
