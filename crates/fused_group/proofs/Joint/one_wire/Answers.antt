use Rattle.std.proofs.Common.{sym, ◌∙◌, arith}
use Rattle.fused_group.specs.AgreeLaws.{agreeing_start, agreeing_step, agreeing_fails, agreeing_end}
use Rattle.fused_group.proofs.Joint.one_wire.Goals as goal

pub wire-common-requires : goal.wire-common-requires
wire-common-requires c = c.requires

pub size-i-end-requires : goal.size-i-end-requires
size-i-end-requires c = omega (arith, c.requires.0.lies.within)

pub loop-i-init : goal.loop-i-init
loop-i-init c = agreeing_start _ _ _ _ _ _ c.requires.1 c.wire-common.ensures

pub wire-requires : goal.wire-requires
wire-requires c = (c.requires.0, (omega (arith, c.loop-i-test.true, c.size-i-end.ensures)))

pub returns-then-ne : goal.returns-then-ne
returns-then-ne c = agreeing_fails _ _ _ _ _ _ _ c.loop-i.invariant _ (omega (arith, c.loop-i-test.true, c.size-i-end.ensures)) c.wire.ensures (sym c.ne.ensures ∙
    c.if-ne.true)

pub loop-i-preserved : goal.loop-i-preserved
loop-i-preserved c = agreeing_step _ _ _ _ _ _ _ c.loop-i.invariant _ (omega (arith, c.loop-i-test.true, c.size-i-end.ensures)) c.wire.ensures (sym c.ne.ensures ∙
    c.if-ne.false)

pub returns : goal.returns
returns c = agreeing_end _ _ _ _ _ _ _ c.loop-i.invariant c.requires.1 (omega (arith, c.loop-i-test.false, c.size-i-end.ensures))
