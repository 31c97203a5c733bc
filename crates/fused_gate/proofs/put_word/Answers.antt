use Rattle.fused_gate.specs.ByteLaws.{word_behind}
use Rattle.fused_gate.proofs.put_word.Goals as goal

pub returns : goal.returns
returns c = word_behind _ _ _ _ c.requires
    c.put_byte.ensures c.put32.ensures
