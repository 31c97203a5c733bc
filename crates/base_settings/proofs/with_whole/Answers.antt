use mathlib.Core.Path.{sym, ◌∙◌}
use Rattle.base.specs.SetLimits.{set_settings}
use Rattle.base.specs.SetsHeld.{set_of}
use Rattle.base.specs.SetsHeldLaws.{set_below}
use Rattle.base.specs.SetLaws.{union_whole}
use Rattle.base_settings.proofs.Fits.{fits}
use Rattle.base_settings.proofs.with_whole.Goals as goal

pub returns : goal.returns
returns c = let s = c.args.s in
    c.whole.ensures ∙ sym (union_whole set_settings (set_of s) (set_below s (fits s c.well_formed.0.1.1)))
