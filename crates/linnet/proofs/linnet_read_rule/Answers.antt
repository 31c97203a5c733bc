use borrow.Author.Rules.{rules}
use Rattle.demands.specs.PromiseLaws.{rule_told}
use Rattle.linnet.proofs.linnet_read_rule.Goals as goal

pub returns : goal.returns
returns c = record { answer = search rules; table = rule_told _ _ (search rules) }
