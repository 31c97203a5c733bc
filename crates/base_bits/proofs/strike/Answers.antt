use lib.Bits.{bit_xor}
use lib.ListN.{set, get_or}
use Prim.Native.Nat.{ℕ, ◌/◌}
use mathlib.Core.Path.{ap}
use Rattle.base.specs.BitWords.{strike_bit}
use Rattle.base_bits.proofs.strike.Goals as goal

pub returns : goal.returns
unfolding strike_bit
returns c = ap (λ (x : ℕ). set c.args.words.now (c.args.q / 64) (bit_xor (get_or c.args.words.now (c.args.q / 64) 0) x)) c.mark.ensures
