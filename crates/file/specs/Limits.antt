-- Document 01, "The fused circuit file", and document 02, C-11: the limits of a circuit file, all in this place but for a guard's, which are by version (Versions). They are the file's own: how many
-- conditions a rule may have is another limit, and a writer shows that its guards keep within the file's.
use Rattle.std.specs.Prelude.{ℕ}

-- 16,384 bytes
abbrev pub most_file_bytes : ℕ
most_file_bytes = 16384

-- V outside 1 to 32
abbrev pub most_file_variables : ℕ
most_file_variables = 32

-- at most 640 wires
abbrev pub most_wires : ℕ
most_wires = 640
