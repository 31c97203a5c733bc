-- Inner, for document 02, C-18, "No pick between equal wires": the records of a joined group by the decision which picks it has, part by part as the code writes them.
use Rattle.std.specs.Prelude.{ℕ, ◌+◌, ◌≡◌, Bool, cond, not, ◌||◌, List, [], ◌∷◌, ◌++◌, length, get_or}
use Rattle.base.specs.Codes.{operation_of}
use Rattle.circuit_needed.specs.Held.{code_at}
use Rattle.file.specs.Records.{Record, pick, operation}
use Rattle.fused.specs.Emission.{one_wire}
use Rattle.fused_group.specs.Joined.{guards_in, values_in, pairs_in}
use Rattle.fused_group.specs.declared.Picks.{Picks}

-- the picks are those of the places at which the members' wires differ
pub record Decided (quads : List ℕ) (wire : ℕ → ℕ) (ms : List ℕ) (picks : Picks) : Type 0 where
  pub at_first : picks.first ≡ not (one_wire (values_in quads wire 0 ms))
  pub at_second : picks.second ≡ not (one_wire (values_in quads wire 1 ms))

-- there is a pick
abbrev pub has_pick : Picks → Bool
has_pick picks = picks.first || picks.second

-- how many records a group of so many members has
abbrev pub count_in : ℕ → Picks → ℕ
count_in size picks = cond (has_pick picks) size 0 + (cond picks.first 1 0 + cond picks.second 1 0) + 1

-- the guards that are written
abbrev pub kept_in : List ℕ → (ℕ → ℕ) → List ℕ → List ℕ → Picks → List Record
kept_in conds wire sets ms picks = cond (has_pick picks) (guards_in conds wire sets ms) []

-- n is the group's first wire: what is written for argument place k, and for both
abbrev pub place_in : List ℕ → (ℕ → ℕ) → ℕ → ℕ → List ℕ → Bool → List Record
place_in quads wire n k ms picked = cond picked (pick (pairs_in quads wire n k ms) ∷ []) []

abbrev pub picks_in : List ℕ → (ℕ → ℕ) → ℕ → List ℕ → Picks → List Record
picks_in quads wire n ms picks = place_in quads wire n 0 ms picks.first ++ place_in quads wire n 1 ms picks.second

-- what the operation reads at argument place k: its pick, which is wire next, or the first member's wire
abbrev pub read_in : List ℕ → (ℕ → ℕ) → ℕ → List ℕ → Bool → ℕ → ℕ
read_in quads wire k ms picked next = cond picked next (get_or (values_in quads wire k ms) 0 0)

-- the operation: the wires of the picks follow those of the guards
abbrev pub operation_in : List ℕ → (ℕ → ℕ) → ℕ → List ℕ → Picks → Record
operation_in quads wire n ms picks =
    operation (operation_of (code_at quads (get_or ms 0 0)))
    (read_in quads wire 0 ms picks.first (n + length ms) ∷ read_in quads wire 1 ms picks.second (n + length ms + cond picks.first 1 0) ∷ [])

abbrev pub fused_in : List ℕ → (ℕ → ℕ) → ℕ → List ℕ → Picks → List Record
fused_in quads wire n ms picks = picks_in quads wire n ms picks ++ (operation_in quads wire n ms picks ∷ [])

-- the whole group
abbrev pub joined_in : List ℕ → List ℕ → List ℕ → (ℕ → ℕ) → ℕ → List ℕ → Picks → List Record
joined_in quads sets conds wire n ms picks = kept_in conds wire sets ms picks ++ fused_in quads wire n ms picks
