use native.Mathlib.Omega.{arith}
use Rattle.circuit_needed.specs.PassingLaws.{walking_start, walking_final, walking_step, walking_end}
use Rattle.circuit_pass.proofs.Gates.pass.Goals as goal

pub loop-i-init : goal.loop-i-init
loop-i-init c = walking_start _ _ _ _ c.args.self.now.passable

-- the gate in turn hands on the set that it ends with, since that set is final
pub loop-i-preserved : goal.loop-i-preserved
loop-i-preserved c = let w = c.loop-i.invariant in
    walking_step _ _ _ _ _ _ _ w c.loop-i-test.true (walking_final _ _ _ _ _ _ w _ (omega arith)) c.hand.ensures

pub returns : goal.returns
returns c = let r = walking_end _ _ _ _ _ _ c.loop-i.invariant c.loop-i-test.false in record { passed = r.0; settled = r.1 }
