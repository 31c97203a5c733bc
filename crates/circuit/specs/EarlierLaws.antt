-- Gates made one after the other: what lies inside a circuit, and that arguments are made before their gates.
use Rattle.std.specs.Prelude.{ℕ, zero, suc, ◌<◌, ◌≡◌, refl, [], ◌∷◌, ◌++◌, ◌⊎◌, length, ltb}
use Rattle.std.proofs.Common.{ap, inl, inr, arith, ltb-true, ltb-false}
use Rattle.std.proofs.Math.ListN.{get_or-eq_default}
use Rattle.base.specs.Lists.{◌∈◌, Inside}
use Rattle.base.specs.TestLaws.{split}
use Rattle.circuit.specs.Gates.{Gate, Gates, gate_at, arguments, Earlier}
use Rattle.circuit.specs.Gates as gate

-- gate j of one gate more: as before, or the new one
pub gate_add : (C : Gates) (k : Gate) (j : ℕ) → (gate_at (C ++ (k ∷ [])) j ≡ gate_at C j) ⊎ ((j ≡ length C) × (gate_at (C ++ (k ∷ [])) j ≡ k))
gate_add [] k zero = inr (refl, refl)
gate_add [] k (suc j) = inl refl
gate_add (g ∷ C) k zero = inl refl
gate_add (g ∷ C) k (suc j) = go (gate_add C k j)
  where
    go : (gate_at (C ++ (k ∷ [])) j ≡ gate_at C j) ⊎ ((j ≡ length C) × (gate_at (C ++ (k ∷ [])) j ≡ k))
        → (gate_at (C ++ (k ∷ [])) j ≡ gate_at C j) ⊎ ((suc j ≡ suc (length C)) × (gate_at (C ++ (k ∷ [])) j ≡ k))
    go (inl e) = inl e
    go (inr (e, f)) = inr (ap suc e, f)

-- a gate whose arguments lie inside is made after them
pub earlier_add : (C : Gates) (k : Gate) → Earlier C → Inside (length C) (arguments k) → Earlier (C ++ (k ∷ []))
earlier_add C k e i j a m = go (gate_add C k j)
  where
    go : (gate_at (C ++ (k ∷ [])) j ≡ gate_at C j) ⊎ ((j ≡ length C) × (gate_at (C ++ (k ∷ [])) j ≡ k)) → a < j
    go (inl f) = e j a (rw f at m)
    go (inr (f, g)) = rw f (i a (rw g at m))

-- what a gate reads is a gate of the circuit
pub argument_inside : (C : Gates) → Earlier C → (j a : ℕ) → a ∈ arguments (gate_at C j) → a < length C
argument_inside C e j a m =
    split (ltb j (length C)) (λ t. omega (arith, ltb-true j (length C) t, e j a m))
    (λ t. absurd (rw (get_or-eq_default C (gate.word 0) {n = j} (ltb-false j (length C) t)) at m))
