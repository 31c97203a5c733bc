use Rattle.std.proofs.Common.{ℕ, List, ap, ◌∙◌, arith}
use Rattle.base.specs.Buffers.{over}
use Rattle.fused_write.specs.PreparedLaws.{prepared_taken, prepared_wires, prepared_few, prepared_fits, file_is, file_ready}
use Rattle.fused_write.proofs.put.Goals as goal

pub overflow_cast-counts : goal.overflow_cast-counts
overflow_cast-counts c = omega (arith, prepared_few _ c.args.plan.now _ c.requires.1.answered)

pub put_file-requires : goal.put_file-requires
put_file-requires c = file_ready _ _ (prepared_taken _ _ _ c.requires.1.answered) _ _ c.requires.1.handed (λ i _. omega (arith, c.type_inv.rule i)) _
    (prepared_wires _ _ _ c.requires.1.answered) c.args.out.now
    (prepared_fits _ _ _ c.requires.1.answered _ c.requires.0)

pub returns : goal.returns
returns c = c.put_file.ensures
    ∙ ap (λ (f : List ℕ). over f c.args.out.now) (file_is _ _ (prepared_taken _ _ _ c.requires.1.answered) _ _ c.requires.1.handed)
