use Rattle.std.proofs.Common.{◌∙◌}
use Rattle.plan_groups.specs.GateLaws.{operation_lem, operations_same}
use Rattle.plan_fit.proofs.alike.Goals as goal

pub returns : goal.returns
returns c =
    c.eq.ensures
    ∙ rw (
      operation_lem c.args.circuit.now.quads c.args.first.0,
      operation_lem c.args.circuit.now.quads c.args.g.0,
      c.operation_in.ensures,
      c.operation_in-2.ensures,
      c.code_at.ensures,
      c.code_at-2.ensures,
    ) (operations_same _ _)
