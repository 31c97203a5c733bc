-- Document 01, "Needed gates (000 Def. 4)": a set of settings, held as a number whose bit j is 1 when setting j is in it.
use Rattle.std.specs.Prelude.{◌≡◌, Bool, true, not, List, ℕ, ◌/◌, ◌^◌, ◌<◌, eqb}
use Rattle.std.specs.Int.Bits.{bit_and, bit_or, bit_xor}
use Rattle.base.specs.Lists.{keep, upto}
use Rattle.base.specs.Bits.{bit, unlike, flip_bit, collect}
use Rattle.base.specs.Settings.{any_below}

-- is setting j in the set s?
abbrev pub has : ℕ → ℕ → Bool
has s j = bit s j

-- no setting
abbrev pub empty : ℕ
empty = 0

-- the first N settings
abbrev pub whole : ℕ → ℕ
whole N = collect N (λ j. true)

-- the settings of either set
abbrev pub union : ℕ → ℕ → ℕ
union s t = bit_or s t

-- those of the first N settings that give condition t the bit 1, and those that give it 0
abbrev pub giving : ℕ → ℕ → ℕ
giving N t = collect N (λ j. bit j t)

abbrev pub lacking : ℕ → ℕ → ℕ
lacking N t = collect N (λ j. not (bit j t))

-- the parts of the set s by condition t, its cofactors: those, among the first N settings, that give t the bit 1, and those that give it 0
abbrev pub given : ℕ → ℕ → ℕ → ℕ
given N t s = bit_and s (giving N t)

abbrev pub without : ℕ → ℕ → ℕ → ℕ
without N t s = bit_and s (lacking N t)

-- two sets exclude each other: no setting, of N, is in both
abbrev pub Disjoint : ℕ → ℕ → ℕ → Type 0
Disjoint N s t = (j : ℕ) → j < N → has s j ≡ true → has t j ≡ true → ⊥

-- the same as a test
abbrev pub excludes : ℕ → ℕ → Bool
excludes s t = eqb (bit_and s t) 0

-- a set of settings of n conditions rests on condition t, t is in its support: changing bit t alone moves some setting in or out
abbrev pub MovedBy : ℕ → ℕ → ℕ → Type 0
MovedBy n s t = (j : ℕ) × (j < 2 ^ n) × (has s j ≡ has s (flip_bit t j) → ⊥)

-- the same as a test
unfoldable pub rests_on : ℕ → ℕ → ℕ → Bool
rests_on n s t = any_below (λ j. unlike (has s j) (has s (flip_bit t j))) (2 ^ n)

-- the conditions that the set rests on, rising
unfoldable pub rests : ℕ → ℕ → List ℕ
rests n s = keep (rests_on n s) (upto n)

-- the movers of condition t: the settings that give it 0 and of which just one of j and j + 2 ^ t is in s, by a shift, a difference and a mask
unfoldable pub movers : ℕ → ℕ → ℕ → ℕ
movers n s t = bit_and (bit_xor (s / 2 ^ (2 ^ t)) s) (lacking (2 ^ n) t)
