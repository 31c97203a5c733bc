use Rattle.file.specs.FormatLaws.{row_passed}
use Rattle.file_figures.specs.GivingLaws.{outputs_whole, outputs_fine, outputs_given}
use Rattle.file_figures.proofs.run_file.Goals as goal

pub give_outputs-requires : goal.give_outputs-requires
give_outputs-requires c = let p = row_passed c.args.file.now c.requires.0 in (
  p.head.long,
  outputs_whole c.args.file.now c.args.inputs.now p _ c.work_out-at.ensures.place,
  outputs_fine c.args.file.now c.args.inputs.now p _ c.work_out-at.ensures.place,
  c.requires.2,
)

pub returns : goal.returns
returns c = outputs_given c.args.file.now c.args.inputs.now (row_passed c.args.file.now c.requires.0) _ c.work_out-at.ensures.place _ _ _ _ c.work_out-at.ensures.figures
    c.give_outputs.ensures
