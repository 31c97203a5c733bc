-- Document 01, "The plan file and its check (001, section 5.1)": groups, which group waits for which, and chains of waits.
use Rattle.std.specs.Prelude.{ℕ, ◌≤◌, ◌≡◌, List, [], ◌∷◌, ◌++◌, map, cond, ◌⊎◌, eqb, leb, length, get_or}
use Rattle.base.specs.Lists.{◌∈◌, elem, keep, upto, flat}
use Rattle.base.specs.Settings.{Setting, flip}
use Rattle.base.specs.Sets.{rests}
use Rattle.circuit.specs.Gates.{Gates, gate_at, arguments, conditions}
use Rattle.circuit.specs.Limits.{most_conditions}
use Rattle.circuit_needed.specs.Needed.{Needed}
use Rattle.plan.specs.PlanFile.{Plan}

-- a listed group's smallest member: its numbers rise
abbrev pub smallest : List ℕ → ℕ
smallest [] = 0
smallest (m ∷ l) = m

-- the group of a gate, named by its smallest member, its representative; an unlisted gate is a group alone
abbrev pub group_of : Plan → ℕ → ℕ
group_of [] g = g
group_of (G ∷ Gs) g = cond (elem g G) (smallest G) (group_of Gs g)

-- a group's name is no larger than its members, and names itself
abbrev pub Named : (ℕ → ℕ) → Type 0
Named group = (g : ℕ) → (group g ≤ g) × (group (group g) ≡ group g)

-- the groups by their names, rising: of n gates those that name their own group
unfoldable pub groups : ℕ → (ℕ → ℕ) → List ℕ
groups n group = keep (λ p. eqb (group p) p) (upto n)

-- the members of group p among n gates, rising
abbrev pub members : ℕ → (ℕ → ℕ) → ℕ → List ℕ
members n group p = keep (λ g. eqb (group g) p) (upto n)

-- gate m rests on the condition c: changing what a setting gives c, and that alone, makes m needed no longer.
-- (A setting that it moves in is, changed, one that it moves out.)
abbrev pub RestsOn : Gates → List ℕ → ℕ → ℕ → Type 0
RestsOn C wanted m c = (c ∈ conditions C) × (σ : Setting) × Needed C wanted σ m × (Needed C wanted (flip σ c) m → ⊥)

-- "Group P waits for Q if a member of P has an argument in Q, or if P has two or more members and one rests on a condition in Q":
-- m is the member, a the gate in Q
abbrev pub Waits : Gates → List ℕ → (ℕ → ℕ) → ℕ → ℕ → Type 0
Waits C wanted group p q =
    (m : ℕ) × (m ∈ members (length C) group p) × (a : ℕ) × (q ≡ group a)
    × ((a ∈ arguments (gate_at C m)) ⊎ ((2 ≤ length (members (length C) group p)) × RestsOn C wanted m a))

-- a chain of one or more steps of a relation, its transitive closure; one that returns to its start is a circle, a cycle
pub data Chain (R : ℕ → ℕ → Type 0) : ℕ → ℕ → Type 0 where
  one : {p q : ℕ} → R p q → Chain R p q
  more : {p q r : ℕ} → R p q → Chain R q r → Chain R p r

-- the waits as lists, from the preconditions held as numbers: the condition gates that gate m rests on, rising
unfoldable pub rests_of : Gates → List ℕ → ℕ → List ℕ
rests_of C sets m = map (λ t. get_or (conditions C) t 0) (rests most_conditions (get_or sets m 0))

-- what a group of these members reads on account of m
abbrev pub reads_of : Gates → List ℕ → List ℕ → ℕ → List ℕ
reads_of C sets ms m = arguments (gate_at C m) ++ cond (leb 2 (length ms)) (rests_of C sets m) []

-- the groups that group p waits for
unfoldable pub waits_for : Gates → List ℕ → (ℕ → ℕ) → ℕ → List ℕ
waits_for C sets group p = map group (flat (reads_of C sets (members (length C) group p)) (members (length C) group p))
