-- Document 01, "The plan file and its check": its limits, all in this place.
use Rattle.std.specs.Prelude.{ℕ}

-- a plan has 9 to 1,024 bytes
abbrev pub least_plan_bytes : ℕ
least_plan_bytes = 9

abbrev pub most_plan_bytes : ℕ
most_plan_bytes = 1024
