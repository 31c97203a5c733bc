use Rattle.std.proofs.Common.{◌*◌}
use Rattle.base.specs.SettingLists.{conditions_in}
use Rattle.base.specs.FillLaws.{Filling}
use Rattle.fused_gate.specs.Emitted.{wire_by}
use Rattle.fused_group.specs.LoopLaws.{rest_piece}
use Rattle.fused_group.proofs.Joint.put_rested.Given as goal

abbrev pub invariant-loop-i : goal.invariant-loop-i
invariant-loop-i l = Filling (rest_piece l.self.circuit.now.conditions (wire_by l.self.wiring) (conditions_in l.list)) l.out l.initial.out l.list.count (2 * l.i) l.i
