use Rattle.std.proofs.Common.{◌≡◌, ◌<◌, ◌≤◌, eqb, arith}
use Rattle.base.specs.Bits.{bit_of}
use Rattle.file.specs.FilePartLaws.{wire_of_lem}
use Rattle.file.specs.Limits.{most_wires}
use Rattle.file_figures.specs.StepLaws.{counting_few, counted, counting_next}
use Rattle.file_figures.proofs.Figures.guard_number.Goals as goal

pub overflow_mul-j : goal.overflow_mul-j
overflow_mul-j c = omega (arith, counting_few _ _ _ _ _ _ c.loop-t.invariant c.requires.0)

pub read-requires : goal.read-requires
read-requires c = (omega (arith, c.requires.1), wire_of_lem (λ w. w < most_wires) _ _ _ _ c.requires.2 (omega arith))

pub overflow_add-j : goal.overflow_add-j
overflow_add-j c = let b : c.from.result ≤ 1 = grind arith in omega (arith, counting_few _ _ _ _ _ _ c.loop-t.invariant c.requires.0)

pub loop-t-preserved : goal.loop-t-preserved
loop-t-preserved c = let b : c.from.result ≡ bit_of (eqb c.read.result 1) = grind arith in
    counting_next c.args.self.file.now c.args.self.figures.now c.args.at c.args.count c.loop-t.t c.loop-t.j c.loop-t.invariant c.loop-t-test.true (omega arith) _ _ c.read.ensures b

pub returns : goal.returns
returns c = counted _ _ _ _ _ _ c.loop-t.invariant c.loop-t-test.false
