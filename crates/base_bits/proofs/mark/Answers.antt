use mathlib.Core.Path.{◌∙◌}
use native.Mathlib.Nat.{one-mul}
use native.Mathlib.Omega.{arith}
use Prim.Native.Nat.{◌%◌}
use lib.Pow.{shl_exact}
use Rattle.base_bits.proofs.mark.Goals as goal

pub returns : goal.returns
returns c = shl_exact {a = 1} 1 (c.args.q % 64) 64 (omega arith) (omega arith) ∙ one-mul _
