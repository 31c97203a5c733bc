use Rattle.std.proofs.Common.{◌∙◌, arith}
use Rattle.base.specs.SetsHeld.{sets_in}
use Rattle.fused_size.specs.JoinedSizes.{rested_few, kept_sized}
use Rattle.fused_size.proofs.size_kept.Goals as goal

pub overflow_mul-result-then-any : goal.overflow_mul-result-then-any
overflow_mul-result-then-any c = let j = c.args.joint in
    record { fits = omega (arith, c.rested_by-n.ensures, rested_few (sets_in j.circuit.now.needs) j.plan.now j.at, c.size.ensures, c.size.type_inv) }

pub overflow_add-result : goal.overflow_add-result
overflow_add-result c = let j = c.args.joint in
    record { fits = omega (arith, c.rested_by-n.ensures, rested_few (sets_in j.circuit.now.needs) j.plan.now j.at, c.size.ensures, c.size.type_inv, c.from-size.ensures) }

pub returns-then-any : goal.returns-then-any
returns-then-any c = let j = c.args.joint in
    rw (c.from-size.ensures ∙ c.size.ensures)
    (kept_sized (sets_in j.circuit.now.needs) j.plan.now j.at c.args.picks _ c.any.ensures c.if-any.true _ c.rested_by-n.ensures)
