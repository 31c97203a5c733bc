use borrow.Author.Rules.{rules}
use Rattle.demands.specs.C17.{one_array}
use Rattle.demands.specs.PromiseLaws.{rule_told}
use Rattle.linnet.proofs.linnet_show_plain.Goals as goal

pub returns-clause-table : goal.returns-clause-table
returns-clause-table c = rule_told _ _ (search rules)

pub returns-clause-once : goal.returns-clause-once
returns-clause-once c = one_array _
