-- The highest bit of a word that is not 0 is 1.
use Rattle.std.specs.Prelude.{ℕ, zero, suc, ◌+◌, ◌*◌, ◌/◌, ◌%◌, ◌^◌, ◌≤◌, ◌<◌, ◌≡◌, true}
use Rattle.std.proofs.Common.{arith, eq-eqb}
use Rattle.base.specs.Bits.{bit}

once : (d q r : ℕ) → r < d → d ≤ d * q + r → d * q + r < 2 * d → q ≡ 1
once d zero r a l h = absurd (omega arith)
once d (suc zero) r a l h = omega arith
once d (suc (suc q)) r a l h = absurd (omega arith)

pub highest_bit : (x n : ℕ) → 2 ^ n ≤ x → x < 2 * 2 ^ n → bit x n ≡ true
highest_bit x n l h =
    let q : x / 2 ^ n ≡ 1 = once (2 ^ n) (x / 2 ^ n) (x % 2 ^ n) (omega arith) (omega arith) (omega arith) in
    let o : x / 2 ^ n % 2 ≡ 1 = omega (arith, q) in eq-eqb (x / 2 ^ n % 2) 1 o
