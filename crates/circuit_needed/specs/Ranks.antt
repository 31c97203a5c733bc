-- Inner, for document 01, "Conditions are the distinct gates standing first in a choice gate, numbered from 0 in rising gate number": the number of each gate that is one, in a lent array.
use Rattle.std.specs.Prelude.{ℕ, zero, suc, ◌≤◌, ◌<◌, List, [], ◌∷◌, map, ◌≡◌, not, cond, length, get_or, eqb}
use Rattle.base.specs.Lists.{elem, keep, upto}
use Rattle.base.specs.Bits.{bit_of}
use Rattle.circuit.specs.Gates.{Gates, heads, conditions}
use Rattle.circuit.specs.Rooms.{gate_room}

-- one more, but nothing stays nothing
abbrev pub next : ℕ → ℕ
next zero = 0
next (suc t) = suc (suc t)

-- t + 1 where g stands at place t of the list, 0 where it stands nowhere
unfoldable pub rank_in : List ℕ → ℕ → ℕ
rank_in [] g = 0
rank_in (c ∷ cs) g = cond (eqb g c) 1 (next (rank_in cs g))

-- of gates 0 to n - 1: t + 1 for condition t, 0 for a gate that is none
unfoldable pub ranks_of : Gates → ℕ → List ℕ
ranks_of C n = map (rank_in (conditions C)) (upto n)

-- before they are numbered: 1 for a gate that stands first in a choice gate, else 0
unfoldable pub mark_of : Gates → ℕ → ℕ
mark_of C g = bit_of (elem g (heads C))

pub record Marked (C : Gates) (ranks : List ℕ) : Type 0 where
  pub size : length ranks ≡ gate_room
  pub marks : (g : ℕ) → get_or ranks g 0 ≡ mark_of C g

-- the marked gates below n, rising
unfoldable pub marked_in : List ℕ → ℕ → List ℕ
marked_in marks n = keep (λ g. not (eqb (get_or marks g 0) 0)) (upto n)

-- the marked gates below n were numbered, the others stayed
pub record NumberedBelow (marks ranks : List ℕ) (n : ℕ) : Type 0 where
  pub size : length ranks ≡ length marks
  pub below : (g : ℕ) → g < n → get_or ranks g 0 ≡ rank_in (marked_in marks n) g
  pub above : (g : ℕ) → n ≤ g → get_or ranks g 0 ≡ get_or marks g 0
