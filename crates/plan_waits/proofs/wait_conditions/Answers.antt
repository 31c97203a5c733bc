use Rattle.std.proofs.Common.{ℕ, ◌≡◌, ◌<◌, ◌∙◌, ap, get_or, arith}
use Rattle.std.proofs.lemmas.Grind.{common_steps}
use Rattle.std.proofs.lemmas.List.{length-map}
use Rattle.base.specs.SettingLists.{conditions_in}
use Rattle.base.specs.SettingListsLaws.{list_at}
use Rattle.plan_waits.specs.ArgumentLaws.{putting_start, putting_into, putting_step, putting_end, listed_gate}
use Rattle.plan_waits.proofs.wait_conditions.Goals as goal

pub loop-t-init : goal.loop-t-init
loop-t-init c = putting_start _ _ _ _ c.requires.0 c.requires.1.1

pub bounds-circuit-from : goal.bounds-circuit-from
bounds-circuit-from c =
    let n : c.loop-t.t-index < c.args.list.count = omega (arith, c.from.ensures, c.loop-t-test.true, c.requires.1.0.few) in
    let e : c.from-in-loop-t.result ≡ get_or c.args.list.at c.loop-t.t-index 0 = grind (arith, common_steps, c.from-in-loop-t.ensures) in
    omega (arith, e, (list_at _ c.requires.1.0 _ n).1)

pub group_of-requires : goal.group_of-requires
group_of-requires c =
    let n : c.loop-t.t-index < c.args.list.count = omega (arith, c.from.ensures, c.loop-t-test.true, c.requires.1.0.few) in
    let e : c.from-in-loop-t.result ≡ get_or c.args.list.at c.loop-t.t-index 0 = grind (arith, common_steps, c.from-in-loop-t.ensures) in
    let g = listed_gate c.args.circuit.now.conditions _ c.requires.1.0 _ n in
    let q = ap (λ (t : ℕ). get_or c.args.circuit.now.conditions t 0) e ∙ g.1 in
    (putting_into _ _ _ _ _ _ _ c.loop-t.invariant g.0 q).0

pub wait_for-requires : goal.wait_for-requires
wait_for-requires c =
    let n : c.loop-t.t-index < c.args.list.count = omega (arith, c.from.ensures, c.loop-t-test.true, c.requires.1.0.few) in
    let e : c.from-in-loop-t.result ≡ get_or c.args.list.at c.loop-t.t-index 0 = grind (arith, common_steps, c.from-in-loop-t.ensures) in
    let g = listed_gate c.args.circuit.now.conditions _ c.requires.1.0 _ n in
    let q = ap (λ (t : ℕ). get_or c.args.circuit.now.conditions t 0) e ∙ g.1 in
    let i = c.loop-t.invariant in
    (i.room, rw c.group_of.ensures (putting_into _ _ _ _ _ _ _ i g.0 q).1)

pub loop-t-preserved : goal.loop-t-preserved
loop-t-preserved c =
    let n : c.loop-t.t-index < c.args.list.count = omega (arith, c.from.ensures, c.loop-t-test.true, c.requires.1.0.few) in
    let e : c.from-in-loop-t.result ≡ get_or c.args.list.at c.loop-t.t-index 0 = grind (arith, common_steps, c.from-in-loop-t.ensures) in
    let g = listed_gate c.args.circuit.now.conditions _ c.requires.1.0 _ n in
    let q = ap (λ (t : ℕ). get_or c.args.circuit.now.conditions t 0) e ∙ g.1 in
    putting_step _ _ _ _ _ _ _ _ _ c.loop-t.invariant g.0 q c.group_of.ensures c.wait_for.ensures

pub returns : goal.returns
returns c = putting_end _ _ _ _ _ _ c.loop-t.invariant
    (rw (length-map (conditions_in c.args.list) (λ t. get_or c.args.circuit.now.conditions t 0), ← c.requires.1.0.counted)
    (omega (arith, c.from.ensures, c.loop-t-test.false, c.requires.1.0.few, c.requires.1.0.listed)))
