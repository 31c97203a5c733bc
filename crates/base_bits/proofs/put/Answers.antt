use lib.Bits.{bit_or}
use lib.ListN.{set, get_or}
use Prim.Native.Nat.{ℕ, ◌+◌, ◌/◌}
use mathlib.Core.Path.{ap}
use Rattle.base.specs.BitWords.{put_bit}
use Rattle.base_bits.proofs.put.Goals as goal

pub returns : goal.returns
unfolding put_bit
returns c = let i = c.args.base + c.args.q / 64 in
    ap (λ (x : ℕ). set c.args.words.now i (bit_or (get_or c.args.words.now i 0) x)) c.mark.ensures
