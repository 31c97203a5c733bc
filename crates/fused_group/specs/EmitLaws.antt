-- What the records of a group of the quads are of a rule: quads that hold a circuit emit what the circuit emits; a joined group has a record.
use Rattle.std.specs.Prelude.{ℕ, ◌*◌, ◌≤◌, ◌≡◌, refl, List, [], ◌∷◌, length, take}
use Rattle.std.proofs.Common.{ap, inl, arith}
use Rattle.base.specs.Lists.{Inside}
use Rattle.circuit.specs.Gates.{Gates}
use Rattle.circuit.specs.Quads.{quads_of}
use Rattle.circuit_needed.specs.Held.{Shaped, gates_in}
use Rattle.circuit_needed.specs.HeldQuads.{gates_held}
use Rattle.file.specs.Records.{Record}
use Rattle.fused.specs.Emission.{emit}
use Rattle.fused.specs.EmitLaws as emission
use Rattle.fused_gate.specs.HeldLaws.{alone_held}
use Rattle.fused_group.specs.Joined.{emit_in}

module _ (s quads : List ℕ) (C : Gates) (shaped : Shaped C) (held : take (4 * length C) quads ≡ quads_of s C) where
  -- what the quads emit is what the circuit emits
  pub emit_in_lem : (sets : List ℕ) (wire : ℕ → ℕ) (n : ℕ) (ms : List ℕ) → Inside (length C) ms → emit_in quads (length C) sets wire n ms ≡ emit s C sets wire n ms
  emit_in_lem sets wire n [] h = refl
  emit_in_lem sets wire n (m ∷ []) h = ap (λ (r : Record). r ∷ []) (alone_held s quads C shaped held wire m (h m (inl refl)))
  emit_in_lem sets wire n (m ∷ k ∷ l) h = ap (λ (D : Gates). emit s D sets wire n (m ∷ k ∷ l)) (gates_held s quads C shaped held)

-- a group of two or more has a record
pub emit_some : (quads : List ℕ) (count : ℕ) (sets : List ℕ) (wire : ℕ → ℕ) (n : ℕ) (ms : List ℕ) → 2 ≤ length ms → 1 ≤ length (emit_in quads count sets wire n ms)
emit_some quads count sets wire n [] h = absurd (omega arith)
emit_some quads count sets wire n (m ∷ []) h = absurd (omega arith)
emit_some quads count sets wire n (m ∷ k ∷ l) h = omega (arith, emission.emit_some [] (gates_in quads count) sets wire n (m ∷ k ∷ l) (omega arith))
