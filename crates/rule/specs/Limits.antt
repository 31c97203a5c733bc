-- Document 01, "The rule file": its limits, all in this place.
use Rattle.std.specs.Prelude.{ℕ}

-- a rule has 6 to 4,096 bytes
abbrev pub least_rule_bytes : ℕ
least_rule_bytes = 6

abbrev pub most_rule_bytes : ℕ
most_rule_bytes = 4096

-- V is 1 to 32
abbrev pub most_variables : ℕ
most_variables = 32

-- kind bytes are 00 word and 01 bit; document 02, C-13: 02 working word and 03 working bit
abbrev pub last_kind : ℕ
last_kind = 3

-- expressions are at most 8 deep
abbrev pub deepest : ℕ
deepest = 8

-- ifs nest at most 8 deep (document 02, C-17)
abbrev pub nested : ℕ
nested = 8
