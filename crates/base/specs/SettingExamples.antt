-- Examples of document 01, "Examples (a star: proved)": the sets of examples 1 and 3, worked out from the definitions.
use Rattle.std.specs.Prelude.{◌≡◌, refl, true, false, [], ◌∷◌, ◌^◌}
use Rattle.base.specs.Bits.{collect}
use Rattle.base.specs.BitWords.{joined}
use Rattle.base.specs.Settings.{setting_of, pre_rests_on, pre_rests}
use Rattle.base.specs.Sets.{whole, giving, lacking, given, without, excludes, rests_on, rests}
use Rattle.base.specs.Guards.{pre_table, spread, table_over, table}

-- example 1: over eight conditions, the settings that give condition 0 the bit 1, and those that give it 0
ones : giving 256 0 ≡ 0xAAAAAAAAAAAAAAAAAAAAAAAAAAAAAAAAAAAAAAAAAAAAAAAAAAAAAAAAAAAAAAAA
unfolding collect
ones = refl

zeros : lacking 256 0 ≡ 0x5555555555555555555555555555555555555555555555555555555555555555
unfolding collect
zeros = refl

-- the products of R1, gates 3 and 4, are needed under those of all settings that give the condition, gate 0, the bit 1, and the bit 0
products : (given 256 0 (whole 256) ≡ giving 256 0) × (without 256 0 (whole 256) ≡ lacking 256 0)
unfolding collect
products = (refl, refl)

-- the two exclude each other; all settings exclude neither
apart : (excludes (giving 256 0) (lacking 256 0) ≡ true) × (excludes (whole 256) (lacking 256 0) ≡ false)
unfolding collect
apart = (refl, refl)

-- in words: the same pattern in each; conditions 6 and 7 give whole words the bit 1
in_words : (giving 256 0 ≡ joined (0xAAAAAAAAAAAAAAAA ∷ 0xAAAAAAAAAAAAAAAA ∷ 0xAAAAAAAAAAAAAAAA ∷ 0xAAAAAAAAAAAAAAAA ∷ []))
    × (giving 256 6 ≡ joined (0 ∷ 0xFFFFFFFFFFFFFFFF ∷ 0 ∷ 0xFFFFFFFFFFFFFFFF ∷ []))
    × (giving 256 7 ≡ joined (0 ∷ 0 ∷ 0xFFFFFFFFFFFFFFFF ∷ 0xFFFFFFFFFFFFFFFF ∷ []))
unfolding collect joined
in_words = (refl, refl, refl)

-- example 3: each rests on condition 0 alone, and the guards' tables are 02 and 01
on_0 : (rests 8 (giving 256 0) ≡ 0 ∷ []) × (rests 8 (lacking 256 0) ≡ 0 ∷ [])
unfolding rests_on rests collect
on_0 = (refl, refl)

tables : (table 8 (giving 256 0) ≡ 2) × (table 8 (lacking 256 0) ≡ 1)
unfolding rests_on rests table table_over spread collect
tables = (refl, refl)

-- the settings that give condition 2 the bit 0 and condition 7 the bit 1: guard over 2 and 7, table 04; what rests on nothing has table 01 or 00
two : (rests 8 (without 256 2 (giving 256 7)) ≡ 2 ∷ 7 ∷ []) × (table 8 (without 256 2 (giving 256 7)) ≡ 4)
unfolding rests_on rests table table_over spread collect
two = (refl, refl)

none : (rests 8 (whole 256) ≡ []) × (table 8 (whole 256) ≡ 1) × (table 8 0 ≡ 0)
unfolding rests_on rests table table_over spread collect
none = (refl, refl, refl)

-- all eight conditions
eight : table 8 (2 ^ 255) ≡ 2 ^ 255
unfolding rests_on rests table table_over spread collect
eight = refl

-- the same definitions used at six conditions, as files of version 1 were
ones_6 : (giving 64 0 ≡ 0xAAAAAAAAAAAAAAAA) × (lacking 64 0 ≡ 0x5555555555555555)
unfolding collect
ones_6 = (refl, refl)

tables_6 : (table 6 0xAAAAAAAAAAAAAAAA ≡ 2) × (table 6 0x5555555555555555 ≡ 1)
unfolding rests_on rests table table_over spread collect
tables_6 = (refl, refl)

two_6 : (rests 6 0x0A0A0A0A0A0A0A0A ≡ 0 ∷ 2 ∷ []) × (table 6 0x0A0A0A0A0A0A0A0A ≡ 2)
unfolding rests_on rests table table_over spread collect
two_6 = (refl, refl)

six : table 6 0x8000000000000000 ≡ 0x8000000000000000
unfolding rests_on rests table table_over spread collect
six = refl

-- R1's one condition is gate 0, given in the test by its gate: the set over all 256 settings repeats the pattern 10 of its two
one_condition : (collect 256 (λ j. setting_of (0 ∷ []) j 0) ≡ giving 256 0) × (collect 2 (λ j. setting_of (0 ∷ []) j 0) ≡ 2)
unfolding collect
one_condition = (refl, refl)

-- the test "gate 0 is 1" over the condition gates 7 and 0 rests on gate 0 alone; its table's bits 0 and 1 are 0 and 1
by_gate : (pre_rests (λ σ. σ 0) (7 ∷ 0 ∷ []) ≡ 0 ∷ []) × (pre_table (λ σ. σ 0) (7 ∷ 0 ∷ []) 0 ≡ false) × (pre_table (λ σ. σ 0) (7 ∷ 0 ∷ []) 1 ≡ true)
unfolding pre_rests_on
by_gate = (refl, refl, refl)
