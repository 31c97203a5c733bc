-- Document 01, "The fused circuit file": a guard is a record that reads the wires of the conditions that a member rests on;
-- its table, a lookup table, says for each choice of their bits whether the member is needed.
use Rattle.std.specs.Prelude.{Bool, List, ℕ, ◌^◌, length}
use Rattle.base.specs.Lists.{keep, upto}
use Rattle.base.specs.Bits.{bit, collect}
use Rattle.base.specs.Settings.{Setting, setting_of, number_of, pre_rests}
use Rattle.base.specs.Sets.{has, rests}

-- table bit j of the test P: P at a setting that gives the conditions rested on, in that order, the bits of j
abbrev pub pre_table : (Setting → Bool) → List ℕ → ℕ → Bool
pre_table P cs j = P (setting_of (pre_rests P cs) j)

-- what the guard of P gives when σ is what its wires hold: the table bit that they number
abbrev pub pre_guard : (Setting → Bool) → List ℕ → Setting → Bool
pre_guard P cs σ = pre_table P cs (number_of (pre_rests P cs) σ)

-- the number of the setting of n conditions that gives the conditions ts, in that order, the bits of j, and the others 0: the bits of j deposited there
unfoldable pub spread : ℕ → List ℕ → ℕ → ℕ
spread n ts j = number_of (upto n) (setting_of ts j)

-- the table of the set s over the conditions ts, a number: bit j for j below 2 ^ d where d conditions stand in ts, zero above
unfoldable pub table_over : ℕ → List ℕ → ℕ → ℕ
table_over n ts s = collect (2 ^ length ts) (λ j. has s (spread n ts j))

-- the guard's table of the set s of settings of n conditions: over the conditions that s rests on
unfoldable pub table : ℕ → ℕ → ℕ
table n s = table_over n (rests n s) s

-- the conditions below n whose bit is 1 in a number, rising: how code hands on a list of conditions
unfoldable pub chosen : ℕ → ℕ → List ℕ
chosen n on = keep (bit on) (upto n)
