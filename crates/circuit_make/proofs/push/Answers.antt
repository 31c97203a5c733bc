use Rattle.circuit_make.specs.QuadLaws.{push_stores}
use Rattle.circuit_make.proofs.push.Goals as goal

pub returns : goal.returns
returns c = let a = c.args in push_stores a.quads.now a.count a.code a.a a.b a.c c.if-count-ge-MOST_GATES.false
