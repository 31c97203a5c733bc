use Rattle.std.proofs.Common.{ℕ, sym, ◌∙◌, ◌≤◌, length, rules}
use Rattle.base.specs.Lists.{◌∈◌}
use Rattle.plan.specs.PlanFile.{after}
use Rattle.plan.specs.Limits.{most_plan_bytes}
use Rattle.plan_groups.specs.Walks.{begins}
use Rattle.plan_groups.specs.RowLaws.{layout_lie}
use Rattle.plan_groups.specs.GroupLaws.{lie_each}
use Rattle.plan_groups.proofs.check_layout.Goals as goal

pub every_group-requires : goal.every_group-requires
every_group-requires c =
    let w = layout_lie c.args.count c.args.plan.now (sym c.size_fits.ensures ∙ c.if-not-size_fits.false) (sym c.groups_end.ensures ∙ c.if-not-groups_end.false) in
    let each : (at : ℕ) → at ∈ begins c.args.plan.now → (after c.args.plan.now at ≤ length c.args.plan.now) × (length c.args.plan.now ≤ most_plan_bytes) = lie_each _ w.1 in
    record { lie = w; tested = λ at m. let f = each at m in search rules }

pub every_group-requires-2 : goal.every_group-requires-2
every_group-requires-2 c =
    let w = layout_lie c.args.count c.args.plan.now (sym c.size_fits.ensures ∙ c.if-not-size_fits.false) (sym c.groups_end.ensures ∙ c.if-not-groups_end.false) in
    let each : (at : ℕ) → at ∈ begins c.args.plan.now → (after c.args.plan.now at ≤ length c.args.plan.now) × (length c.args.plan.now ≤ most_plan_bytes) = lie_each _ w.1 in
    record { lie = w; tested = λ at m. let f = each at m in search rules }
