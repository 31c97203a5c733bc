use borrow.Author.Rules.{rules}
use Rattle.demands.specs.PromiseLaws.{plan_told, checked}
use Rattle.linnet.proofs.linnet_check_plan.Goals as goal

pub returns : goal.returns
returns c = let d = c.args in
    record { answer = search rules; table = plan_told d.rule.now d.plan.now _ (search rules); accepted = checked _ _ _ (search rules) }
