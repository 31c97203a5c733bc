use Rattle.std.proofs.Common.{arith}
use Rattle.file.specs.Limits.{most_wires}
use Rattle.file_figures.specs.StepLaws.{pair_of, summing_one, summing_none}
use Rattle.file_figures.proofs.Figures.pick.Goals as goal

pub read-requires : goal.read-requires
read-requires c = (omega (arith, c.requires.0), (pair_of most_wires _ _ _ _ c.requires.1 (omega arith)).0)

pub read-requires-then-read-eq1 : goal.read-requires-then-read-eq1
read-requires-then-read-eq1 c = (omega (arith, c.requires.0), (pair_of most_wires _ _ _ _ c.requires.1 (omega arith)).1)

pub loop-t-preserved-then-read-eq1 : goal.loop-t-preserved-then-read-eq1
loop-t-preserved-then-read-eq1 c = summing_one _ _ _ _ _ _ c.loop-t-test.true (omega arith) c.loop-t.invariant _ _ _
    c.read.ensures c.if-read-eq1.true c.read-then-read-eq1.ensures c.sum-sum.ensures

pub loop-t-preserved : goal.loop-t-preserved
loop-t-preserved c = summing_none _ _ _ _ _ _ c.loop-t-test.true (omega arith) c.loop-t.invariant _ c.read.ensures c.if-read-eq1.false
