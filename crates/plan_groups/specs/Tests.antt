-- Inner: the rows 25, 28 and 29 as the code tests them, number by number.
use Rattle.std.specs.Prelude.{ℕ, ◌+◌, ◌-◌, ◌*◌, List, [], ◌∷◌, Bool, true, false, cond, ◌&&◌, leb, ltb, get_or, set, Option, Some, None}
use Rattle.base.specs.Sets.{union, excludes}
use Rattle.plan.specs.PlanFile.{numbers_at}

-- the operation's byte by a gate's code, none for a code that is no operation's
unfoldable pub operation_in : ℕ → Option ℕ
operation_in code = cond (leb 0x20 code && leb code 0x27) (Some code) None

-- the members from number k on of the group that begins at a place
abbrev pub members_from : List ℕ → ℕ → ℕ → List ℕ
members_from p at k = numbers_at (get_or p at 0 - k) p (at + 1 + 2 * k)

-- 25 number by number: each is at least `least`, one above the number before it, and one of n gates
abbrev pub rising_from : ℕ → ℕ → List ℕ → Bool
rising_from n least [] = true
rising_from n least (g ∷ l) = cond (leb least g) (cond (ltb g n) (rising_from n (g + 1) l) false) false

-- 29 gate by gate: each set has no setting in common with those seen before
abbrev pub parted_from : List ℕ → ℕ → List ℕ → Bool
parted_from sets seen [] = true
parted_from sets seen (g ∷ l) = cond (excludes seen (get_or sets g 0)) (parted_from sets (union seen (get_or sets g 0)) l) false

-- the number v at the places of the list G
abbrev pub put_all : List ℕ → ℕ → List ℕ → List ℕ
put_all [] v l = l
put_all (g ∷ G) v l = put_all G v (set l g v)
