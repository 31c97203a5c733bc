-- Document 01, "The plain circuit": its limits, all in this place.
use Rattle.std.specs.Prelude.{ℕ, ◌^◌}

-- at most 256 gates
abbrev pub most_gates : ℕ
most_gates = 256

-- at most 8 conditions (document 02, C-17)
abbrev pub most_conditions : ℕ
most_conditions = 8

-- and so many settings
abbrev pub most_settings : ℕ
most_settings = 2 ^ most_conditions
