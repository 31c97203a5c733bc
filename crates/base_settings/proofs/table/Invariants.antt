use Rattle.base.specs.SetLimits.{set_conditions, set_words}
use Rattle.base.specs.SetsHeld.{set_of}
use Rattle.base_settings.proofs.Tabling.{Tabling}
use Rattle.base_settings.proofs.table.Given as goal

abbrev pub invariant-loop-j : goal.invariant-loop-j
invariant-loop-j l = Tabling set_conditions set_words (set_of l.s) l.on l.n l.bits l.setting l.j
