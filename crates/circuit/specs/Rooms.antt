-- Document 01, "The plain circuit": the places of lent arrays, all in this file. They are no limits: a rule is refused by those of Limits.
use Rattle.std.specs.Prelude.{ℕ, ◌*◌}

-- one for each gate
abbrev pub gate_room : ℕ
gate_room = 256

-- four numbers for each gate
abbrev pub quad_room : ℕ
quad_room = 4 * gate_room

-- one for each variable
abbrev pub variable_room : ℕ
variable_room = 32

-- one for each condition
abbrev pub condition_room : ℕ
condition_room = 8
