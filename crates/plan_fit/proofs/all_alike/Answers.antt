use Rattle.std.proofs.Common.{◌<◌, ◌∙◌, refl, eqb, get_or, arith, rules}
use Rattle.std.proofs.lemmas.Iterator.{serves_from_Range, YieldsList-from_range}
use Rattle.std.proofs.lemmas.Iterator.Search.{all_from_yields_List}
use borrow.Author.Tests.{tests}
use Rattle.circuit_needed.specs.Held.{gate_in}
use Rattle.plan.specs.PlanFile.{group_at}
use Rattle.plan.specs.Rows.{operation_byte}
use Rattle.plan_groups.specs.MemberLaws.{every_placed, readable_member}
use Rattle.plan_groups.specs.WalkLaws.{alike_members, first_member}
use Rattle.plan_fit.proofs.all_alike.Goals as goal

pub all-requires-clause-callable : goal.all-requires-clause-callable
all-requires-clause-callable c =
    let f : c.member-first.result.0 < 256 = omega (arith, first_member _ _ _ _ c.requires c.member-first.ensures, c.requires.room) in
    serves_from_Range (λ x q k. search rules)
    (λ k a b.
    let h : k < get_or c.args.plan.now c.args.at 0 = omega (arith, b) in
    let m : get_or (group_at c.args.plan.now c.args.at) k 0 < 256 = omega (arith, readable_member _ _ _ k c.requires h) in
    search (rules, f, h, m))

pub returns : goal.returns
returns c =
    let p = c.args.plan.now in
    let at = c.args.at in
    let quads = c.args.circuit.now.quads in
    let first = c.member-first.result.0 in
    all_from_yields_List (λ k. eqb (operation_byte (gate_in quads first)) (operation_byte (gate_in quads (get_or (group_at p at) k 0)))) _ _ _ c.all.ensures.ran
    (YieldsList-from_range 0 _ (get_or p at 0) refl (omega arith)) (λ x b q k. search (rules, tests))
    ∙ every_placed (λ g. eqb (operation_byte (gate_in quads first)) (operation_byte (gate_in quads g))) p at
    ∙ alike_members quads _ p at c.requires first c.member-first.ensures
