-- Inner, for document 02, C-11, row 62: a wire that record i may read as one of a kind, wires that stand in a file at equal distances, and the bytes of a guard's table that hold its bits.
use Rattle.std.specs.Prelude.{ℕ, zero, suc, ◌+◌, ◌-◌, ◌^◌, List, [], ◌∷◌, Bool, ◌&&◌, cond, leb, ltb}
use Rattle.base.specs.Numbers.{number_at}
use Rattle.base.specs.Codes.{same_kind}
use Rattle.base.specs.declared.Kind.{Kind}

-- wire w is earlier than record i, and of kind j; k: the kinds of the wires
abbrev pub fits : ℕ → (ℕ → Kind) → Kind → ℕ → Bool
fits i k j w = ltb w i && same_kind (k w) j

-- n two-byte wires, the first at the place at, each so many bytes after the one before: 2 for the wires of an operation, a choice or a guard, 4 for a pick's guards or values
abbrev pub wires_by : ℕ → ℕ → List ℕ → ℕ → List ℕ
wires_by step zero f at = []
wires_by step (suc n) f at = number_at 2 f at ∷ wires_by step n f (at + step)

-- a table of 2^d bits stands in the last bytes of its place: how many they are, and the most that the first of them is; up to d = 3 it is the last byte
abbrev pub used_bytes : ℕ → ℕ
used_bytes d = cond (leb 3 d) (2 ^ (d - 3)) 1

abbrev pub top_byte : ℕ → ℕ
top_byte d = cond (leb 3 d) 255 (2 ^ 2 ^ d - 1)
