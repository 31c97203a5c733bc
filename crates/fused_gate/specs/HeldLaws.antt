-- The record of a gate alone, of quads that hold a circuit, is the circuit's; and what the writer asks holds of quads that hold a circuit whose variables and
-- bit constants are bytes, with at most 256 gates.
use Rattle.std.specs.Prelude.{ℕ, ◌*◌, ◌≤◌, ◌<◌, ◌≡◌, refl, List, length, get_or, take}
use Rattle.std.proofs.Common.{sym, ap, ap₂, ◌∙◌, add-zero, arith}
use Rattle.base.specs.Lists.{◌∈◌}
use Rattle.base.specs.Codes.{start_code}
use Rattle.base.specs.CodeLaws.{start_kind_lem}
use Rattle.base.specs.declared.Kind.{Kind}
use Rattle.base.specs.declared.Kind.TheVariants as kind
use Rattle.rule.specs.Header.{kind_at}
use Rattle.circuit.specs.Gates.{Gate, Gates, start, word, bit, operation, choice, gate_at, arguments, Earlier}
use Rattle.circuit.specs.Limits.{most_gates}
use Rattle.circuit.specs.Quads.{quad_of, quads_of}
use Rattle.circuit_needed.specs.Held.{code_at, gate_in, Shaped}
use Rattle.circuit_needed.specs.HeldQuads.{number_at_lem, gate_held}
use Rattle.file.specs.Records as records
use Rattle.fused.specs.Emission.{alone}
use Rattle.fused_gate.specs.Emitted.{alone_of, alone_in, Grouped, FitsGate, Coded, Writable}

-- Quads that hold a circuit.

alone_back : (s : List ℕ) (wire : ℕ → ℕ) (k : Gate) → alone_of (get_or (quad_of s k) 0 0) wire k ≡ alone s wire k
alone_back s wire (start x) = ap (λ (k : Kind). records.input k x) (start_kind_lem (kind_at s x))
alone_back s wire (word n) = refl
alone_back s wire (bit b) = refl
alone_back s wire (operation op l) = refl
alone_back s wire (choice c a b) = refl

module _ (s quads : List ℕ) (C : Gates) (shaped : Shaped C) (held : take (4 * length C) quads ≡ quads_of s C) where
  pub code_held : (i : ℕ) → i < length C → code_at quads i ≡ get_or (quad_of s (gate_at C i)) 0 0
  code_held i h = ap (λ (k : ℕ). get_or quads k 0) (sym (add-zero (4 * i))) ∙ number_at_lem s quads C shaped held i 0 h (omega arith)

  pub alone_held : (wire : ℕ → ℕ) (i : ℕ) → i < length C → alone_in quads wire i ≡ alone s wire (gate_at C i)
  alone_held wire i h = ap₂ (λ (code : ℕ) (k : Gate). alone_of code wire k) (code_held i h) (gate_held s quads C shaped held i h) ∙ alone_back s wire (gate_at C i)

-- What the writer asks.

-- a variable's number and a bit constant are bytes
abbrev pub SmallGate : Gate → Type 0
SmallGate (start x) = x < 256
SmallGate (word n) = Unit {0}
SmallGate (bit b) = b < 256
SmallGate (operation op l) = Unit {0}
SmallGate (choice c a b) = Unit {0}

start_low : (k : Kind) → start_code k ≤ 1
start_low kind.Word = omega arith
start_low kind.Bit = omega arith

fits_back : (s : List ℕ) (k : Gate) → SmallGate k → FitsGate (get_or (quad_of s k) 0 0) k
fits_back s (start x) h = (start_low (kind_at s x), h)
fits_back s (word n) h = tt
fits_back s (bit b) h = h
fits_back s (operation op l) h = tt
fits_back s (choice c a b) h = tt

module _ (s quads : List ℕ) (C : Gates) (shaped : Shaped C) (held : take (4 * length C) quads ≡ quads_of s C) (room : length C ≤ most_gates) where
  -- every gate can be measured
  pub coded_held : (g : ℕ) → g < length C → SmallGate (gate_at C g) → Coded quads g
  coded_held g h small =
      record { inside = omega (arith, h, room); fits = rw (code_held s quads C shaped held g h, gate_held s quads C shaped held g h) (fits_back s (gate_at C g) small) }

  module _ (earlier : Earlier C) (group : List ℕ) (named : (a : ℕ) → a < length C → get_or group a 0 < most_gates) where
    pub placed_below : (a : ℕ) → a < length C → Grouped group a
    placed_below a h = (omega (arith, h, room), named a h)

    pub placed_held : (g : ℕ) → g < length C → (a : ℕ) → a ∈ arguments (gate_in quads g) → Grouped group a
    placed_held g h a m =
        let e : a < g = earlier g a (rw (gate_held s quads C shaped held g h) at m) in
        placed_below a (omega (arith, e, h))

    -- and written alone
    pub writable_held : (g : ℕ) → g < length C → SmallGate (gate_at C g) → Writable quads group g
    writable_held g h small = record { coded = coded_held g h small; placed = placed_held g h }
