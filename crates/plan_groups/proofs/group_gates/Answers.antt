use Rattle.std.proofs.Common.{sym, refl, rules}
use Rattle.plan_groups.specs.RefusalLaws.{row_some}
use Rattle.plan_groups.specs.RowLaws.{shape_readable, layout_before, layout_26}
use Rattle.plan_groups.proofs.group_gates.Goals as goal

pub returns-in_err-check_layout-clause-number : goal.returns-in_err-check_layout-clause-number
returns-in_err-check_layout-clause-number c =
    let e = layout_before c.args.count c.args.plan.now _ c.in_err-check_layout.ensures (row_some _) in search (rules, e)

pub join_groups-requires : goal.join_groups-requires
join_groups-requires c = (shape_readable c.args.count c.args.plan.now c.requires.0 (sym c.in_ok-check_layout.ensures), c.requires.1)

pub returns-then-not-join_groups-clause-number : goal.returns-then-not-join_groups-clause-number
returns-then-not-join_groups-clause-number c = layout_26 c.args.count c.args.plan.now _ _ c.in_ok-check_layout.ensures refl c.join_groups.ensures.once
    c.if-not-join_groups.true
