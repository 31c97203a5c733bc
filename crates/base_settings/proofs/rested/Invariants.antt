use Rattle.base.specs.SetLimits.{set_conditions}
use Rattle.base.specs.Sets.{rests_on}
use Rattle.base.specs.SetsHeld.{set_of}
use Rattle.base_settings.proofs.Laws.{Listing}
use Rattle.base_settings.proofs.rested.Given as goal

abbrev pub invariant-loop-t : goal.invariant-loop-t
invariant-loop-t l = Listing set_conditions (rests_on set_conditions (set_of l.s)) l.at l.on l.count l.t
