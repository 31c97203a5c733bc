use mathlib.Core.Path.{sym, ap, ◌∙◌}
use mathlib.Core.Bool.{not}
use Prim.Native.Nat.{ℕ}
use lib.Dec.{eqb}
use Rattle.base.specs.SetLimits.{set_conditions}
use Rattle.base.specs.SetLaws.{rests_on_shift}
use Rattle.base.specs.SetsHeld.{set_of}
use Rattle.base_settings.proofs.Fits.{fits, none_in}
use Rattle.base_settings.proofs.rests_on.Goals as goal

pub returns : goal.returns
returns c = let m = c.movers-m.result in
    ap not (none_in m (fits m c.movers-m.type_inv.1.1) ∙ ap (λ (x : ℕ). eqb x 0) c.movers-m.ensures)
    ∙ sym (rests_on_shift set_conditions (set_of c.args.s) c.args.t c.requires)
