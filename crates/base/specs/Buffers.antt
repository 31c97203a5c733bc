-- Document 01, "The fused circuit file": each record begins "in the rest of the lent buffer handed on"; and lists that lie in arrays.
use Rattle.std.specs.Prelude.{List, ◌++◌, ℕ, ◌-◌, length, drop, replicate}

-- the lent buffer d with bs at its start, and nothing after them touched
unfoldable pub over : List ℕ → List ℕ → List ℕ
over bs d = bs ++ drop (length bs) d

-- a list in an array of so many places, zeros after it
abbrev pub padded : ℕ → List ℕ → List ℕ
padded room l = l ++ replicate (room - length l) 0
