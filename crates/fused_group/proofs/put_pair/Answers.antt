use Rattle.fused_gate.specs.ByteLaws.{pair_behind}
use Rattle.fused_group.proofs.put_pair.Goals as goal

pub returns : goal.returns
returns c = pair_behind _ _ _ _ _ c.requires c.put16.ensures c.put16-2.ensures
