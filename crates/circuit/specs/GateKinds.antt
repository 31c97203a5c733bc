-- Inner, for document 01, "The plain circuit": the kind of each gate, worked out gate by gate as figures are.
use Rattle.std.specs.Prelude.{ℕ, ◌≡◌, length}
use Rattle.base.specs.Lists.{◌∈◌}
use Rattle.base.specs.Runs.{run_at}
use Rattle.base.specs.Codes.{entry_of, Fits}
use Rattle.base.specs.declared.Kind.{Kind}
use Rattle.base.specs.declared.Kind.TheVariants as kind
use Rattle.circuit.specs.Gates.{Gate, start, word, bit, operation, choice, Gates, gate_at}

-- the kind of a gate, from the variables' kinds and the kinds k of other gates; a choice is of its values' kind
abbrev pub gate_kind : (ℕ → Kind) → (ℕ → Kind) → Gate → Kind
gate_kind kinds k (start x) = kinds x
gate_kind kinds k (word n) = kind.Word
gate_kind kinds k (bit b) = kind.Bit
gate_kind kinds k (operation op l) = (entry_of op).gives
gate_kind kinds k (choice c a b) = k a

-- the kind of gate i
unfoldable pub kind_of_gate : (ℕ → Kind) → Gates → ℕ → Kind
kind_of_gate kinds C i = run_at kind.Word (gate_kind kinds) C i

-- a gate fits: constants are of their size, an operation has the arguments that it takes, a choice has a bit and two values of one kind
abbrev pub GateFits : (ℕ → Kind) → Gate → Type 0
GateFits k (start x) = Unit {0}
GateFits k (word n) = Fits kind.Word n
GateFits k (bit b) = Fits kind.Bit b
GateFits k (operation op l) = (length l ≡ (entry_of op).arity) × ((a : ℕ) → a ∈ l → k a ≡ (entry_of op).takes)
GateFits k (choice c a b) = (k c ≡ kind.Bit) × (k a ≡ k b)

-- every gate fits
abbrev pub GatesFit : (ℕ → Kind) → Gates → Type 0
GatesFit kinds C = (i : ℕ) → GateFits (kind_of_gate kinds C) (gate_at C i)
