-- Document 01, "Needed gates (000 Def. 4)", what it rests on: the bits of a number, and the number that has the bits of a test.
use Rattle.std.specs.Prelude.{Bool, true, false, not, ℕ, zero, suc, ◌+◌, ◌*◌, ◌/◌, ◌%◌, ◌^◌, eqb}
use Rattle.std.specs.Bool.{beq}
use Rattle.std.specs.Int.Bits.{bit_xor}

-- is the lowest bit 1?
abbrev pub odd : ℕ → Bool
odd j = eqb (j % 2) 1

-- the number of a bit
abbrev pub bit_of : Bool → ℕ
bit_of true = 1
bit_of false = 0

-- bit t of the number j, the lowest bit 0
abbrev pub bit : ℕ → ℕ → Bool
bit j t = odd (j / 2 ^ t)

-- are the two bits unlike?
abbrev pub unlike : Bool → Bool → Bool
unlike a b = not (beq a b)

-- the number j with bit t alone changed
abbrev pub flip_bit : ℕ → ℕ → ℕ
flip_bit t j = bit_xor j (2 ^ t)

-- the numbers below N that pass the test, as the bits that are 1 of a number
unfoldable pub collect : ℕ → (ℕ → Bool) → ℕ
collect zero p = 0
collect (suc N) p = collect N p + bit_of (p N) * 2 ^ N
