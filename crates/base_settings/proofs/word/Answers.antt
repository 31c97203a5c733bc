use mathlib.Core.Path.{◌≡◌}
use native.Mathlib.Omega.{arith}
use Rattle.base_settings.proofs.word.Goals as goal

pub returns-in_default : goal.returns-in_default
returns-in_default c = let e : c.args.i ≡ 3 = omega arith in rw e
