use Rattle.std.proofs.Common.{ap, ◌∙◌, ◌+◌, sym, leb, get_or}
use Rattle.plan.specs.LayoutLaws.{length_numbers}
use Rattle.plan_groups.proofs.size_counts.Goals as goal

pub returns : goal.returns
returns c = let p = c.args.plan.now in ap (leb 2) (c.size_at.ensures.0 ∙ sym (length_numbers (get_or p c.args.at 0) p (c.args.at + 1)))
