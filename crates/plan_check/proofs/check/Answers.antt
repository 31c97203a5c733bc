use Rattle.std.proofs.Common.{◌≡◌, ℕ, List, length, refl, sym, ap, ◌∙◌}
use Rattle.base.proofs.PassedLaws.{passed_answer, passed_at_0}
use Rattle.base.specs.SetsHeld.{sets_in}
use Rattle.base.specs.declared.Answer.{Answer}
use Rattle.circuit.specs.Whole.{rule_answer}
use Rattle.circuit.specs.declared.Circuit.{Circuit}
use Rattle.circuit_needed.specs.Built.{built_quads, built_needs, built_outputs, built_conditions}
use Rattle.plan.specs.declared.Grouping.{Grouping}
use Rattle.plan_check.specs.InHand.{IsBuilt}
use Rattle.plan_groups.specs.RefusalLaws.{row_some}
use Rattle.plan_groups.specs.RowLaws.{layout_readable}
use Rattle.plan_check.specs.AnswerLaws.{rule_refused, gates_room, layout_refused, join_refused}
use Rattle.plan_check.specs.HandedLaws.{refused_handed, row_handed}
use Rattle.plan_check.specs.TakenLaws.{tables_orderable, circle_handed, taken_handed}
use Rattle.plan_check.proofs.check.Goals as goal

-- what building promises clause by clause, as the laws of the check take it
is_built : (s : List ℕ) (a : Answer) (circuit : Circuit) → a ≡ rule_answer s → circuit.quads ≡ built_quads s → sets_in circuit.needs ≡ built_needs s
    → circuit.outputs ≡ built_outputs s → circuit.conditions ≡ built_conditions s → circuit.count ≡ (rule_answer s).gates → IsBuilt s a circuit
is_built s a circuit u v w x y z = record { answer = u; quads = v; needs = w; outputs = x; conditions = y; count = z }

pub returns-in_err-counts : goal.returns-in_err-counts
returns-in_err-counts c =
    let e = c.in_err-counts.ensures in
    let b = is_built _ _ c.build.new.circuit e.answer e.quads e.needs e.outputs e.conditions e.count in
    let some = row_some c.in_err-counts.field-0.0.0 in
    let r = refused_handed _ c.args.plan.now _ _ b (record c.args.grouping.now { groups = 0 }) c.requires.1 refl _ (rule_refused _ _ _ _ b some) some in
    record { answer = passed_answer _ _ c.from_residual.ensures.1 r.0; handed = r.1 }

pub group_gates-requires : goal.group_gates-requires
group_gates-requires c =
    let e = c.in_ok-counts.ensures in
    let b = is_built _ _ c.build.new.circuit e.answer e.quads e.needs e.outputs e.conditions e.count in
    (gates_room _ c.args.plan.now _ _ b refl, (c.requires.1.0, c.requires.1.1.0))

pub returns-in_err-group_gates : goal.returns-in_err-group_gates
returns-in_err-group_gates c =
    let e = c.in_ok-counts.ensures in
    let b = is_built _ _ c.build.new.circuit e.answer e.quads e.needs e.outputs e.conditions e.count in
    let g = c.in_err-group_gates.ensures in
    let some = row_some c.in_err-group_gates.field-0.0 in
    let u = g.refused some in
    let r = row_handed _ c.args.plan.now _ _ b _ (u.0, (u.1, g.rest.0 ∙ c.requires.1.1.1)) g.rest.1 _ (layout_refused _ _ _ _ b refl _ g.number some) in
    record { answer = passed_at_0 _ _ c.from_residual-in_err-group_gates.ensures.1 r.0; handed = r.1 }

pub check_groups-requires : goal.check_groups-requires
check_groups-requires c =
    let e = c.in_ok-counts.ensures in
    let b = is_built _ _ c.build.new.circuit e.answer e.quads e.needs e.outputs e.conditions e.count in
    layout_readable _ _ (gates_room _ c.args.plan.now _ _ b refl) (sym c.in_ok-group_gates.ensures.number)

pub returns-in-Err : goal.returns-in-Err
returns-in-Err c =
    let e = c.in_ok-counts.ensures in
    let b = is_built _ _ c.build.new.circuit e.answer e.quads e.needs e.outputs e.conditions e.count in
    let some = row_some c.in-Err.row in
    let u = c.clear.ensures in
    let r = row_handed _ c.args.plan.now _ _ b c.clear.result u.clear (ap (λ (h : Grouping). h.groups) u.is) c.in-Err.row
    (join_refused _ _ _ _ b refl _ c.in_ok-group_gates.ensures.number refl _ c.in-Err.ensures some) in
    record { answer = rw c.at.ensures r.0; handed = r.1 }

pub order_groups-requires : goal.order_groups-requires
order_groups-requires c =
    let e = c.in_ok-counts.ensures in
    let b = is_built _ _ c.build.new.circuit e.answer e.quads e.needs e.outputs e.conditions e.count in
    let g = c.in_ok-group_gates.ensures in (
      tables_orderable _ _ _ _ b refl _ g.number refl c.group_gates.new.grouping (g.groups refl) (g.places refl),
      ap length (g.rest.0 ∙ c.requires.1.1.1),
    )

pub returns-in-Ok : goal.returns-in-Ok
returns-in-Ok c =
    let e = c.in_ok-counts.ensures in
    let b = is_built _ _ c.build.new.circuit e.answer e.quads e.needs e.outputs e.conditions e.count in
    let g = c.in_ok-group_gates.ensures in
    let o = c.in-Ok.ensures in
    let r = taken_handed _ _ _ _ b refl _ g.number refl c.group_gates.new.grouping (g.groups refl) (g.places refl) _ c.in_default.ensures refl
    c.in-Ok.groups o.answer (g.rest.0 ∙ c.requires.1.1.1) in
    record { answer = r.0; handed = rw o.written r.1 }

pub returns-in-Err-order_groups : goal.returns-in-Err-order_groups
returns-in-Err-order_groups c =
    let e = c.in_ok-counts.ensures in
    let b = is_built _ _ c.build.new.circuit e.answer e.quads e.needs e.outputs e.conditions e.count in
    let g = c.in_ok-group_gates.ensures in
    let u = c.clear-in-Err-order_groups.ensures in
    let r = circle_handed _ _ _ _ b refl _ g.number refl c.group_gates.new.grouping (g.groups refl) (g.places refl) _ c.in_default.ensures refl c.in-Err-order_groups.circle
    c.in-Err-order_groups.ensures.answer c.clear-in-Err-order_groups.result u.clear (ap (λ (h : Grouping). h.groups) u.is) in
    record { answer = rw c.at-in-Err-order_groups.ensures r.0; handed = r.1 }
