-- Document 01, "The plan file and its check (001, section 5.1)": a plan put together: mark and version, gate count (2 bytes), group count (2 bytes), then groups.
use Rattle.std.specs.Prelude.{ℕ, ◌^◌, ◌<◌, List, [], ◌∷◌, ◌++◌, length}
use Rattle.base.specs.Lists.{flat}
use Rattle.base.specs.Numbers.{bytes_of}
use Rattle.plan.specs.PlanFile.{mark, Plan}

-- every gate number fits two bytes
abbrev pub Small : List ℕ → Type 0
Small [] = Unit {0}
Small (g ∷ G) = (g < 256 ^ 2) × Small G

-- groups: one byte size, then the gate numbers, two bytes each
abbrev pub groups_bytes : Plan → List ℕ
groups_bytes [] = []
groups_bytes (G ∷ Gs) = length G ∷ (flat (bytes_of 2) G ++ groups_bytes Gs)

-- the plan of these groups for a circuit of so many gates
abbrev pub plan_bytes : ℕ → Plan → List ℕ
plan_bytes gates Gs = mark ++ (bytes_of 2 gates ++ (bytes_of 2 (length Gs) ++ groups_bytes Gs))
