-- Needed gates: what is asked for is an argument; what is needed is of the circuit, and follows what is wanted; settings that agree on the needed conditions need the same gates.
use Rattle.std.specs.Prelude.{ℕ, ◌<◌, ◌≡◌, refl, List, [], length}
use Rattle.std.proofs.Common.{inl, inr, arith}
use Rattle.base.specs.Lists.{◌∈◌}
use Rattle.base.specs.TestLaws.{split}
use Rattle.circuit.specs.Gates.{Gate, start, word, bit, operation, choice, Gates, gate_at, arguments, Earlier, Condition}
use Rattle.base.specs.Settings.{Setting}
use Rattle.circuit_needed.specs.Needed.{asks, Needed, from_start, asked}

pub asks_arguments : (σ : Setting) (k : Gate) (a : ℕ) → a ∈ asks σ k → a ∈ arguments k
asks_arguments σ (start x) a h = h
asks_arguments σ (word n) a h = h
asks_arguments σ (bit b) a h = h
asks_arguments σ (operation op l) a h = h
asks_arguments σ (choice c x y) a (inl e) = inl e
asks_arguments σ (choice c x y) a (inr (inl e)) = split (σ c) (λ s. inr (inl (rw s at e))) (λ s. inr (inr (inl (rw s at e))))
asks_arguments σ (choice c x y) a (inr (inr h)) = absurd h

-- what is needed is a gate of the circuit
pub needed_inside : (C : Gates) (wanted : List ℕ) (σ : Setting) → Earlier C → ((g : ℕ) → g ∈ wanted → g < length C)
    → (g : ℕ) → Needed C wanted σ g → g < length C
needed_inside C wanted σ e i g (from_start m) = i g m
needed_inside C wanted σ e i g (asked {h = h} n m) = omega (arith, needed_inside C wanted σ e i h n, e h g (asks_arguments σ (gate_at C h) g m))

-- where nothing is wanted nothing is needed, and where more is wanted what was needed still is
pub none_needed : (C : Gates) (σ : Setting) (g : ℕ) → Needed C [] σ g → ⊥
none_needed C σ g (from_start m) = m
none_needed C σ g (asked {h = h} n m) = none_needed C σ h n

pub more_wanted : (C : Gates) (less more : List ℕ) (σ : Setting) → ((g : ℕ) → g ∈ less → g ∈ more) → (g : ℕ) → Needed C less σ g → Needed C more σ g
more_wanted C less more σ i g (from_start m) = from_start (i g m)
more_wanted C less more σ i g (asked {h = h} n m) = asked (more_wanted C less more σ i h n) m

-- two settings that agree on the conditions needed under the first need the same gates: a choice consults only a condition that is thereby needed
module _ (C : Gates) (wanted : List ℕ) (σ τ : Setting) (agree : (c : ℕ) → Condition C c → Needed C wanted σ c → σ c ≡ τ c) where
  same_asks : (h : ℕ) → Needed C wanted σ h → asks σ (gate_at C h) ≡ asks τ (gate_at C h)
  same_asks h n = go (gate_at C h) refl
    where
      go : (k : Gate) → gate_at C h ≡ k → asks σ k ≡ asks τ k
      go (start x) e = refl
      go (word x) e = refl
      go (bit b) e = refl
      go (operation op l) e = refl
      go (choice c a b) e = rw (agree c (h, a, b, e) (asked n (rw e (inl refl))))

  pub needed_to : (g : ℕ) → Needed C wanted σ g → Needed C wanted τ g
  needed_to g (from_start m) = from_start m
  needed_to g (asked {h = h} n m) = asked (needed_to h n) (rw (same_asks h n) at m)

  pub needed_from : (g : ℕ) → Needed C wanted τ g → Needed C wanted σ g
  needed_from g (from_start m) = from_start m
  needed_from g (asked {h = h} n m) = asked (needed_from h n) (rw (← same_asks h (needed_from h n)) at m)
