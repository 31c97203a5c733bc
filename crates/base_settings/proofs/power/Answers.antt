use mathlib.Core.Path.{◌∙◌}
use native.Mathlib.Nat.{one-mul}
use native.Mathlib.Omega.{arith}
use lib.Pow.{shl_exact}
use borrow.Author.Rules.{rules}
use Rattle.base_settings.proofs.power.Goals as goal

pub overflow_shl-result : goal.overflow_shl-result
overflow_shl-result c = search rules

pub returns : goal.returns
returns c = shl_exact {a = 1} 1 c.args.t 8 (search rules) (omega arith) ∙ one-mul _
