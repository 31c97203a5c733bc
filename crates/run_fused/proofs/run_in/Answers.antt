use Rattle.std.proofs.Common.{arith}
use Rattle.run_fused.specs.StepLaws.{part_runnable, part_run}
use Rattle.run_fused.proofs.run_in.Goals as goal

pub run_file-requires : goal.run_file-requires
run_file-requires c = part_runnable _ _ _ c.requires.1.answered _ _ c.put.ensures (λ i _. omega (arith, c.type_inv.rule i)) c.args.inputs.now c.args.results.now
    c.requires.0.1

pub returns : goal.returns
returns c = part_run _ _ _ c.requires.1.answered _ _ c.put.ensures _ _ _ c.run_file.ensures
