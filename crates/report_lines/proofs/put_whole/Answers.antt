use mathlib.Core.Path.{sym}
use Rattle.report.specs.LineLaws.{put_short}
use Rattle.report.specs.PutLaws.{text_put}
use Rattle.report_lines.proofs.Copied.{as_copied}
use Rattle.report_lines.proofs.put_whole.Goals as goal

pub returns-then-out-text : goal.returns-then-out-text
returns-then-out-text c = let r = put_short c.args.text.now c.args.out.now c.if-out-text.true in
    record { counted = sym r.0; written = sym r.1 }

pub returns : goal.returns
returns c = let r = text_put _ _ _ _ c.if-out-text.false c.copy.ensures.counted (as_copied _ _ _ c.copy.ensures.written) in record { counted = r.0; written = r.1 }
