use Rattle.std.proofs.Common.{◌≡◌, ◌∙◌, ◌&&◌, true, false, leb, ltb, arith, rules}
use borrow.Author.Tests.{tests}
use Rattle.plan_groups.specs.WalkLaws.{climbing_start, climbing_fails, climbing_step}
use Rattle.plan_groups.proofs.numbers_rise.Goals as goal

pub loop-k-init : goal.loop-k-init
loop-k-init c = climbing_start _ _ _ c.requires

pub returns-then-not-contains : goal.returns-then-not-contains
returns-then-not-contains c =
    let e : (leb c.loop-k.least c.index-i.result && ltb c.index-i.result c.args.count) ≡ false = search (rules, tests) in
    climbing_fails _ _ _ _ _ _ c.loop-k.invariant (omega arith) (c.index-i.ensures ∙ c.member.ensures) e

pub loop-k-preserved : goal.loop-k-preserved
loop-k-preserved c =
    let e : (leb c.loop-k.least c.index-i.result && ltb c.index-i.result c.args.count) ≡ true = search (rules, tests) in
    climbing_step _ _ _ _ _ _ c.loop-k.invariant (omega arith) (c.index-i.ensures ∙ c.member.ensures) e
