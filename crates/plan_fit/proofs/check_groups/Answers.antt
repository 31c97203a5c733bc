use Rattle.std.proofs.Common.{rules}
use Rattle.plan_groups.specs.Walks.{ReadableGroup}
use Rattle.plan_groups.specs.GroupLaws.{readable_each}
use Rattle.plan_fit.proofs.check_groups.Goals as goal

pub every_group-requires-clause-tested : goal.every_group-requires-clause-tested
every_group-requires-clause-tested c = λ at m. let f : ReadableGroup c.args.circuit.now.count c.args.plan.now at = readable_each _ _ c.requires at m in search (rules, f)

pub every_group-requires-2-clause-tested : goal.every_group-requires-2-clause-tested
every_group-requires-2-clause-tested c = λ at m. let f : ReadableGroup c.args.circuit.now.count c.args.plan.now at = readable_each _ _ c.requires at m in search (rules, f)

pub every_group-requires-3-clause-tested : goal.every_group-requires-3-clause-tested
every_group-requires-3-clause-tested c = λ at m. let f : ReadableGroup c.args.circuit.now.count c.args.plan.now at = readable_each _ _ c.requires at m in search (rules, f)
