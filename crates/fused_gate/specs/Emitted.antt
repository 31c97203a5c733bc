-- Inner, for document 01, "The fused circuit file": the record of a gate alone, from a rule's gates as they lie in lent arrays.
use Rattle.std.specs.Prelude.{ℕ, ◌≤◌, ◌<◌, ◌≡◌, List, map, length, get_or}
use Rattle.base.specs.Lists.{◌∈◌}
use Rattle.base.specs.Buffers.{over}
use Rattle.base.specs.Codes.{start_kind}
use Rattle.circuit.specs.Gates.{Gate, arguments}
use Rattle.circuit.specs.Gates as gate
use Rattle.circuit.specs.Limits.{most_gates}
use Rattle.circuit_needed.specs.Held.{code_at, gate_in}
use Rattle.fused_gate.specs.declared.Wiring.{Wiring}
use Rattle.file.specs.Versions.{written_version}
use Rattle.file.specs.CircuitFile.{record_bytes}
use Rattle.file.specs.Records.{Record, input, word, bit, operation, choice}

-- the wire that stands for gate a: that of its group; group: each gate's group, wires: the wire of each group written
abbrev pub wire_in : List ℕ → List ℕ → ℕ → ℕ
wire_in group wires a = get_or wires (get_or group a 0) 0

-- the same over the arrays in hand
abbrev pub wire_by : Wiring → ℕ → ℕ
wire_by w = wire_in w.group.now w.wires.now

-- a gate alone, by its code: of a starting value 00 says a word, 01 a bit
abbrev pub alone_of : ℕ → (ℕ → ℕ) → Gate → Record
alone_of code wire (gate.start x) = input (start_kind code) x
alone_of code wire (gate.word n) = word n
alone_of code wire (gate.bit b) = bit b
alone_of code wire (gate.operation op l) = operation op (map wire l)
alone_of code wire (gate.choice c a b) = choice (wire c) (wire a) (wire b)

-- the record of gate g of the quads, alone
abbrev pub alone_in : List ℕ → (ℕ → ℕ) → ℕ → Record
alone_in quads wire g = alone_of (code_at quads g) wire (gate_in quads g)

-- its bytes
abbrev pub alone_bytes : List ℕ → (ℕ → ℕ) → ℕ → List ℕ
alone_bytes quads wire g = record_bytes written_version (alone_in quads wire g)

-- the bytes b, n of them, are written at the start of the buffer d, which is e then
pub record Written (b : List ℕ) (n : ℕ) (d e : List ℕ) : Type 0 where
  pub counted : n ≡ length b
  pub written : e ≡ over b d

-- What the code asks of the arrays.

-- gate a and its group have numbers of gates
abbrev pub Grouped : List ℕ → ℕ → Type 0
Grouped group a = (a < most_gates) × (get_or group a 0 < most_gates)

-- a starting value has code 00 or 01, its variable is a byte, and so is a bit constant
abbrev pub FitsGate : ℕ → Gate → Type 0
FitsGate code (gate.start x) = (code ≤ 1) × (x < 256)
FitsGate code (gate.word n) = Unit {0}
FitsGate code (gate.bit b) = b < 256
FitsGate code (gate.operation op l) = Unit {0}
FitsGate code (gate.choice c a b) = Unit {0}

-- gate g can be measured
pub record Coded (quads : List ℕ) (g : ℕ) : Type 0 where
  pub inside : g < most_gates
  pub fits : FitsGate (code_at quads g) (gate_in quads g)

-- gate g can be written alone
pub record Writable (quads group : List ℕ) (g : ℕ) : Type 0 where
  pub coded : Coded quads g
  pub placed : (a : ℕ) → a ∈ arguments (gate_in quads g) → Grouped group a
