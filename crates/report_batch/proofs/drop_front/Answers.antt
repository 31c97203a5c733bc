use mathlib.Core.Path.{◌∙◌}
use Rattle.report_batch.specs.FrontLaws.{moved_front}
use Rattle.report_batch.proofs.drop_front.Goals as goal

pub returns-clause-held : goal.returns-clause-held
returns-clause-held c = c.copy_within.ensures.after ∙ moved_front c.args.window.now c.args.bytes c.args.to c.requires.0 c.requires.1
