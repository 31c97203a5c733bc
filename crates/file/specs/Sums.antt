-- Inner, for document 01, "The fused circuit file": how many guards of a pick are 1: "A pick (31) gives the value whose guard is 1, else 0."
use Rattle.std.specs.Prelude.{ℕ, ◌+◌, List, [], ◌∷◌}
use Rattle.base.specs.Bits.{bit_of}
use Rattle.base.specs.Results.{is_one}
use Rattle.file.specs.Records.{Pair}

-- how many of a pick's guards are 1, from the figures W of the wires
abbrev pub guards_at_one : (ℕ → ℕ) → List Pair → ℕ
guards_at_one W [] = 0
guards_at_one W (p ∷ l) = bit_of (is_one (W p.guarding)) + guards_at_one W l
