-- Document 02, C-17, "a precondition is a set of 256 settings": how large sets of settings are in code, all in this place.
use Rattle.std.specs.Prelude.{ℕ, ◌*◌, ◌/◌, ◌^◌}

-- the conditions that a set has room for: as many as a plain circuit may have
abbrev pub set_conditions : ℕ
set_conditions = 8

-- so many settings
abbrev pub set_settings : ℕ
set_settings = 2 ^ set_conditions

-- a word of 64 bits tells the settings of so many conditions apart
abbrev pub word_conditions : ℕ
word_conditions = 6

-- so the settings of a set stand in so many words
abbrev pub set_words : ℕ
set_words = set_settings / 2 ^ word_conditions

-- and so many bytes
abbrev pub set_bytes : ℕ
set_bytes = 8 * set_words
