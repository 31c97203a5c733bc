-- Document 01, "Examples", last paragraph, and document 02, C-16, "What a month saved": how long a printed line can be, all in this place.
use Rattle.std.specs.Prelude.{ℕ}

-- no line of an answer has more bytes: `accepted`, four numbers of 20 digits behind spaces, a line feed
abbrev pub most_line : ℕ
most_line = 93

-- no last line of a report: `total`, five numbers of 20 digits behind spaces, a sign, a line feed
abbrev pub most_total : ℕ
most_total = 112
