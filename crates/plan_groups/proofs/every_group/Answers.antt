use Rattle.std.proofs.Common.{arith}
use Rattle.plan_groups.specs.GroupLaws.{passing_start, passing_here, passing_step, passing_fails}
use Rattle.plan_groups.proofs.every_group.Goals as goal

pub loop-init : goal.loop-init
loop-init g c = passing_start _ _ _ c.requires.lie.1 (omega (arith, c.groups_counted-end.ensures))

pub test-requires : goal.test-requires
test-requires g c = c.requires.tested _ (passing_here _ _ _ _ c.loop.invariant (omega arith))

pub returns-then-not-test : goal.returns-then-not-test
returns-then-not-test g c = λ t s. passing_fails _ _ _ _ _ c.loop.invariant (omega arith) c.test.ensures c.if-not-test.true t s

pub loop-preserved : goal.loop-preserved
loop-preserved g c = passing_step _ _ _ _ _ _ _ c.loop.invariant (omega arith) c.test.ensures c.if-not-test.false c.after-at.ensures
