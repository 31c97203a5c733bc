use mathlib.Core.Path.{sym, ◌∙◌}
use native.Mathlib.Omega.{arith}
use Rattle.base.specs.SetLimits.{set_conditions}
use Rattle.base_settings.proofs.Laws.{listing_start, listing_room, listing_in, listing_out, listing_end}
use Rattle.base_settings.proofs.rested.Goals as goal
use Rattle.base_settings.proofs.rested.Goals.{then-rests_on, else-rests_on}

pub loop-t-init : goal.loop-t-init
loop-t-init c = listing_start set_conditions _

pub bounds-at-count : goal.bounds-at-count
bounds-at-count c = listing_room _ _ _ _ _ _ c.loop-t.invariant c.loop-t-test.true

pub overflow_cast-at : goal.overflow_cast-at
overflow_cast-at c = record { fits = omega (arith, bounds-at-count c) }

pub overflow_add-count : goal.overflow_add-count
overflow_add-count c = let r = listing_room _ _ _ _ _ _ c.loop-t.invariant c.loop-t-test.true in record { fits = omega (arith, r) }

pub loop-t-preserved : goal.loop-t-preserved
loop-t-preserved c =
    let z = c.loop-t.invariant in
    let h = c.loop-t-test.true in
    let e = sym c.rests_on.ensures in
    elim c.if-rests_on.branch [
      | then-rests_on w ↦ listing_in _ _ _ _ _ _ _ _ _ _ z h (e ∙ w.if-rests_on.true) w.at-is w.power-on.ensures w.on-is w.count-is
      | else-rests_on w ↦ listing_out _ _ _ _ _ _ _ _ _ z h (e ∙ w.if-rests_on.false) w.at-is w.on-is w.count-is
    ]

pub returns : goal.returns
returns c = let r = listing_end _ _ _ _ _ _ c.loop-t.invariant c.loop-t-test.false in record { counted = r.0; listed = r.1.0; chosen = r.1.1 }
