-- Document 02, C-15, "Groups in one order": when two plans form the same groups.
use Rattle.std.specs.Prelude.{ℕ, ◌≡◌, [], ◌∷◌, ◌⊎◌, ◌↔◌}
use Rattle.base.specs.Lists.{◌∈◌}
use Rattle.plan.specs.PlanFile.{Plan}

-- the plan joins the gates g and h: a group of it lists both
abbrev pub Joined : Plan → ℕ → ℕ → Type 0
Joined [] g h = ⊥
Joined (G ∷ Gs) g h = ((g ∈ G) × (h ∈ G)) ⊎ Joined Gs g h

-- the plans form the same groups: they join the same pairs of gates
abbrev pub SameGroups : Plan → Plan → Type 0
SameGroups P Q = (g h : ℕ) → (g ≡ h → ⊥) → Joined P g h ↔ Joined Q g h
