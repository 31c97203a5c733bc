use Rattle.std.proofs.Common.{rules}
use borrow.Author.Tests.{tests}
use Rattle.plan_groups.specs.Tests.{operation_in}
use Rattle.plan_fit.proofs.operation_in.Goals as goal

pub returns : goal.returns
unfolding operation_in
returns c = search (rules, tests)
