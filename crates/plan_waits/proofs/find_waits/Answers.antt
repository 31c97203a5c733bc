use Rattle.std.proofs.Common.{◌∙◌, arith}
use Rattle.base.specs.SetsHeld.{set_of}
use Rattle.base.specs.SettingListsLaws.{rested_are, rested_lists}
use Rattle.plan_waits.specs.GatherLaws.{gathering_start, gathering_group, gathering_size}
use Rattle.plan_waits.specs.GatherLaws.{gathering_arguments, gathering_conditions, gathering_alone, gathering_joined, gathering_end}
use Rattle.plan_waits.proofs.find_waits.Goals as goal
use Rattle.plan_waits.proofs.find_waits.Goals.{then-grouping-i-ne0, else-grouping-i-ne0}

pub loop-i-init : goal.loop-i-init
loop-i-init c = gathering_start _ _ _ c.requires.0 c.requires.1.0 c.requires.1.1

pub wait_arguments-requires : goal.wait_arguments-requires
wait_arguments-requires c = let i = c.loop-i.invariant in
    let t = c.loop-i-test.true in (
      omega (arith, i.orderable.room, t),
      (omega (arith, c.group_of-p.ensures, (gathering_group _ _ _ _ _ i t).1), gathering_arguments _ _ _ _ _ i t),
    )

pub wait_conditions-requires : goal.wait_conditions-requires
wait_conditions-requires c = let i = c.loop-i.invariant in
    let t = c.loop-i-test.true in
    let e = c.rested-r.ensures in (
      omega (
        arith,
        c.group_of-p.ensures,
        (gathering_group _ _ _ _ _ i t).1,
        gathering_size _ _ _ _ _ i t _ _ _ c.wait_arguments.ensures,
      ),
      (
        rested_lists _ _ e.counted e.listed,
        rw (rested_are (set_of c.load.result) c.rested-r.result e.counted e.listed)
            (gathering_conditions _ _ _ _ _ i t _ c.load.ensures),
      ),
    )

pub loop-i-preserved : goal.loop-i-preserved
loop-i-preserved c = let i = c.loop-i.invariant in
    let t = c.loop-i-test.true in
    elim c.if-grouping-i-ne0.branch [
      | then-grouping-i-ne0 w ↦ gathering_joined _ _ _ _ _ i t _ _ _ _ c.group_of-p.ensures w.if-grouping-i-ne0.true w.load.ensures c.wait_arguments.ensures
          (w.waits-is ∙ rw (rested_are (set_of w.load.result) w.rested-r.result w.rested-r.ensures.counted w.rested-r.ensures.listed) at w.wait_conditions.ensures)
      | else-grouping-i-ne0 w ↦ gathering_alone _ _ _ _ _ i t _ _ c.group_of-p.ensures w.if-grouping-i-ne0.false (w.waits-is ∙ c.wait_arguments.ensures)
    ]

pub returns : goal.returns
returns c = gathering_end _ _ _ _ _ c.loop-i.invariant c.loop-i-test.false
