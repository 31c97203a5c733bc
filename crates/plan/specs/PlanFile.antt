-- Document 01, "The plan file and its check (001, section 5.1)": the bytes of a plan and the groups in them.
use Rattle.std.specs.Prelude.{ℕ, zero, suc, ◌+◌, ◌*◌, ◌≤◌, ◌<◌, ◌≡◌, List, [], ◌∷◌, Bool, ◌&&◌, eqb, leb, length, get_or, ◌⊎◌}
use Rattle.base.specs.Lists.{◌∈◌}
use Rattle.base.specs.Numbers.{number_at}
use Rattle.plan.specs.Limits.{least_plan_bytes}

-- "PLN" and the version
abbrev pub mark : List ℕ
mark = 0x50 ∷ 0x4C ∷ 0x4E ∷ 0x00 ∷ 0x01 ∷ []

-- the gate count and the group count, as the file gives them
abbrev pub gates_counted : List ℕ → ℕ
gates_counted p = number_at 2 p 5

abbrev pub groups_counted : List ℕ → ℕ
groups_counted p = number_at 2 p 7

-- a plan, taken apart: its groups in file order, each a list of gate numbers
abbrev pub Plan : Type 0
Plan = List (List ℕ)

-- n two-byte gate numbers from the place at on
abbrev pub numbers_at : ℕ → List ℕ → ℕ → List ℕ
numbers_at zero p at = []
numbers_at (suc n) p at = number_at 2 p at ∷ numbers_at n p (at + 2)

-- the group that begins at a place: one byte size, then its gate numbers; and the place after it
abbrev pub group_at : List ℕ → ℕ → List ℕ
group_at p at = numbers_at (get_or p at 0) p (at + 1)

abbrev pub after : List ℕ → ℕ → ℕ
after p at = at + 1 + 2 * get_or p at 0

-- n groups from the place at on
abbrev pub groups_from : ℕ → List ℕ → ℕ → Plan
groups_from zero p at = []
groups_from (suc n) p at = group_at p at ∷ groups_from n p (after p at)

-- n groups from the place at on lie in the file and end where it ends
abbrev pub Ends : ℕ → List ℕ → ℕ → Type 0
Ends zero p at = at ≡ length p
Ends (suc n) p at = (after p at ≤ length p) × Ends n p (after p at)

-- the same as a test: false when they run past the end or bytes are left
abbrev pub ends : ℕ → List ℕ → ℕ → Bool
ends zero p at = eqb at (length p)
ends (suc n) p at = leb (after p at) (length p) && ends n p (after p at)

-- the groups of a plan: as many as it counts, from byte 9 on
unfoldable pub groups_in : List ℕ → Plan
groups_in p = groups_from (groups_counted p) p least_plan_bytes

-- every group of a plan is so
abbrev pub EachGroup : (List ℕ → Type 0) → Plan → Type 0
EachGroup P [] = Unit {0}
EachGroup P (G ∷ Gs) = P G × EachGroup P Gs

-- gate numbers rising
abbrev pub Above : ℕ → List ℕ → Type 0
Above m [] = Unit {0}
Above m (k ∷ l) = m < k

abbrev pub Rising : List ℕ → Type 0
Rising [] = Unit {0}
Rising (m ∷ l) = Above m l × Rising l

-- in some group of the plan
abbrev pub Listed : Plan → ℕ → Type 0
Listed [] g = ⊥
Listed (G ∷ Gs) g = (g ∈ G) ⊎ Listed Gs g

-- no gate is in two groups
abbrev pub Apart : Plan → Type 0
Apart [] = Unit {0}
Apart (G ∷ Gs) = ((g : ℕ) → g ∈ G → Listed Gs g → ⊥) × Apart Gs
