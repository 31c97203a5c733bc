-- Inner: tables that hold which group waits for which, and which are left to write.
use Rattle.std.specs.Prelude.{ℕ, ◌*◌, ◌^◌, ◌≤◌, ◌<◌, ◌≡◌, List, length, get_or}
use Rattle.base.specs.Lists.{elem}
use Rattle.circuit.specs.Gates.{Gates}
use Rattle.plan.specs.Groups.{groups, waits_for}
use Rattle.base.specs.BitWords.{HasWords, bit_in}
use Rattle.circuit.specs.Rooms.{gate_room}

-- the table of waits: p's set holds the groups that p waits for
pub record Waiting (C : Gates) (sets : List ℕ) (group : ℕ → ℕ) (waits : List ℕ) : Type 0 where
  pub wide : 4 * length C ≤ length waits
  pub fits : (i : ℕ) → get_or waits i 0 < 2 ^ 64
  pub holds : (p q : ℕ) → p < gate_room → q < gate_room → bit_in (4 * p) waits q ≡ elem q (waits_for C sets group p)

-- the set of groups left, at first: all of them
pub record Left (group : ℕ → ℕ) (n : ℕ) (left : List ℕ) : Type 0 where
  pub words : HasWords 4 left
  pub holds : (q : ℕ) → q < gate_room → bit_in 0 left q ≡ elem q (groups n group)
