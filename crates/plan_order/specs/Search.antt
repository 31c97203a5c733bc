-- Inner: the search for the next ready group over the tables, in the form that the code goes.
use Rattle.std.specs.Prelude.{ℕ, zero, suc, ◌+◌, ◌-◌, ◌*◌, ◌≤◌, ◌<◌, ◌≡◌, Bool, true, false, cond, List, ltb, length, get_or, set, Option, Some, None}
use Rattle.std.proofs.Math.Option as list
use Rattle.base.specs.Sets.{excludes}
use Rattle.base.specs.BitWords.{bit_in}
use Rattle.circuit.specs.declared.GateId.{GateId}
use Rattle.circuit.specs.Rooms.{gate_room}

-- p waits for no group that is left: k of its words from w on have none in common with what is left
unfoldable pub free_from : List ℕ → List ℕ → ℕ → ℕ → ℕ → Bool
free_from waits left p w zero = true
free_from waits left p w (suc k) = cond (excludes (get_or waits (4 * p + w) 0) (get_or left w 0)) (free_from waits left p (w + 1) k) false

-- p is left, and waits for none that is
unfoldable pub ready_in : List ℕ → List ℕ → ℕ → Bool
ready_in waits left p = cond (bit_in 0 left p) (free_from waits left p 0 4) false

-- the first such of the k groups from p on
unfoldable pub search_from : List ℕ → List ℕ → ℕ → ℕ → Option GateId
search_from waits left p zero = None
search_from waits left p (suc k) = cond (ready_in waits left p) (Some (record { 0 = p })) (search_from waits left (p + 1) k)

-- the first from `from` on, below count
unfoldable pub next_ready : List ℕ → List ℕ → ℕ → ℕ → Option GateId
next_ready waits left first count = search_from waits left first (count - first)

-- what a search over the list of groups gives, as the code yields it
abbrev pub as_next : list.Option ℕ → Option GateId
as_next list.none = None
as_next (list.some p) = Some (record { 0 = p })

-- the place that a search stopped at
abbrev pub place_of : Option GateId → ℕ → ℕ
place_of (Some p) n = p.0
place_of None n = n

-- p is noted at q, unless a lower number is
unfoldable pub lowered : ℕ → ℕ → List ℕ → List ℕ
lowered q p watch = cond (ltb p (get_or watch q 0)) (set watch q p) watch

-- q waits for a group that is left, at which q or a lower one is noted
abbrev pub HeldUp : List ℕ → List ℕ → List ℕ → ℕ → Type 0
HeldUp waits left watch q = (g : ℕ) × (g < gate_room) × (bit_in (4 * q) waits g ≡ true) × (bit_in 0 left g ≡ true) × (get_or watch g 0 ≤ q)

-- what the search remembers: each group below p that is left is held up
pub record Holding (waits left watch : List ℕ) (p : ℕ) : Type 0 where
  pub size : length watch ≡ gate_room
  pub passed : (q : ℕ) → q < p → bit_in 0 left q ≡ true → HeldUp waits left watch q
