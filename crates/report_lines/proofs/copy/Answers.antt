use Rattle.report_lines.proofs.Copied.{copy_held}
use Rattle.report_lines.proofs.copy.Goals as goal

pub returns-clause-written : goal.returns-clause-written
returns-clause-written c = copy_held c.args.text.now c.args.out.now _ c.copy_from_slice.ensures.after
