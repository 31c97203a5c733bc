-- Document 01, "The fused circuit file": records, the wires that a record reads, its figure and its cost. Wires number the records from 0.
use Rattle.std.specs.Prelude.{ℕ, ◌+◌, ◌*◌, ◌<◌, List, [], ◌∷◌, map, cond, length, get_or}
use Rattle.base.specs.Lists.{◌∈◌}
use Rattle.base.specs.Bits.{bit_of}
use Rattle.base.specs.Settings.{number_of}
use Rattle.base.specs.Sets.{has}
use Rattle.base.specs.Codes.{entry_of, choice_cost}
use Rattle.base.specs.declared.Kind.{Kind}
use Rattle.base.specs.declared.Operation.{Operation}
use Rattle.base.specs.Results.{is_one, result_on}

-- a pair of a pick, which is a one-hot multiplexer: the wire of the guard and the wire of the value
pub record Pair : Type 0 where
  pub guarding : ℕ
  pub value : ℕ

pub data Record : Type 0 where
  input : Kind → ℕ → Record  -- 00 variable (word input), 01 variable (bit input)
  word : ℕ → Record  -- 11
  bit : ℕ → Record  -- 12
  operation : Operation → List ℕ → Record  -- 20 to 27 and wires
  choice : ℕ → ℕ → ℕ → Record  -- 30 condition, first, second
  pick : List Pair → Record  -- 31 count, then pairs guard and value
  guard : List ℕ → ℕ → Record  -- 32 condition wires and table, bit 0 of the table the lowest

-- the wires of a list of pairs
abbrev pub pair_wires : List Pair → List ℕ
pair_wires [] = []
pair_wires (p ∷ l) = p.guarding ∷ p.value ∷ pair_wires l

-- "A record reads the wires that it names."
abbrev pub reads : Record → List ℕ
reads (input k x) = []
reads (word n) = []
reads (bit b) = []
reads (operation op l) = l
reads (choice c a b) = c ∷ a ∷ b ∷ []
reads (pick l) = pair_wires l
reads (guard cs t) = cs

-- the record of wire i; past the end a constant, which reads nothing
abbrev pub record_in : List Record → ℕ → Record
record_in R i = get_or R i (word 0)

-- every record reads only earlier wires
abbrev pub ReadsEarlier : List Record → Type 0
ReadsEarlier R = (i w : ℕ) → w ∈ reads (record_in R i) → w < i

-- the record is no input
abbrev pub NotInput : Record → Type 0
NotInput (input k x) = ⊥
NotInput (word n) = Unit {0}
NotInput (bit b) = Unit {0}
NotInput (operation op l) = Unit {0}
NotInput (choice c a b) = Unit {0}
NotInput (pick l) = Unit {0}
NotInput (guard cs t) = Unit {0}

-- "A pick (31) gives the value whose guard is 1, else 0", from the figures W of the wires; where several are, the first. (What it gives there in any file: `pick_sum`, WireFigures.)
abbrev pub pick_figure : (ℕ → ℕ) → List Pair → ℕ
pick_figure W [] = 0
pick_figure W (p ∷ l) = cond (is_one (W p.guarding)) (W p.value) (pick_figure W l)

-- "A guard (32) gives table bit j, where bit t of j is its wire t"
abbrev pub guard_figure : (ℕ → ℕ) → List ℕ → ℕ → ℕ
guard_figure W cs t = bit_of (has t (number_of cs (λ c. is_one (W c))))

-- the figure of a record, from the variables' inputs, what a pick gives, and the figures W of other wires
abbrev pub record_figure : List ℕ → ((ℕ → ℕ) → List Pair → ℕ) → (ℕ → ℕ) → Record → ℕ
record_figure inputs picked W (input k x) = get_or inputs x 0
record_figure inputs picked W (word n) = n
record_figure inputs picked W (bit b) = b
record_figure inputs picked W (operation op l) = result_on op (map W l)
record_figure inputs picked W (choice c a b) = cond (is_one (W c)) (W a) (W b)
record_figure inputs picked W (pick l) = picked W l
record_figure inputs picked W (guard cs t) = guard_figure W cs t

-- "Cost of a circuit: operations as above, choice 3, pick 2 a pair, guard 1, others 0."
abbrev pub record_cost : Record → ℕ
record_cost (input k x) = 0
record_cost (word n) = 0
record_cost (bit b) = 0
record_cost (operation op l) = (entry_of op).cost
record_cost (choice c a b) = choice_cost
record_cost (pick l) = 2 * length l
record_cost (guard cs t) = 1

unfoldable pub records_cost : List Record → ℕ
records_cost [] = 0
records_cost (r ∷ R) = record_cost r + records_cost R
