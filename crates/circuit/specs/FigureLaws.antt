-- Figures, gate by gate: each reads only its gate's arguments, so each gate gives its value of those before it.
use Rattle.std.specs.Prelude.{ℕ, zero, suc, ◌<◌, ◌≡◌, refl, List, [], ◌∷◌, map, length, get_or}
use Rattle.std.proofs.Common.{ap, inl, inr, zero-add, arith}
use Rattle.base.specs.Lists.{◌∈◌}
use Rattle.base.specs.ListLaws.{map_same}
use Rattle.base.specs.Runs.{run_at}
use Rattle.base.specs.RunLaws.{run_right}
use Rattle.base.specs.Results.{result_on}
use Rattle.circuit.specs.Gates.{Gate, start, word, bit, operation, choice, Gates, gate_at, arguments, Earlier, figure, figure_at}

-- what gates give reads only their arguments
abbrev pub OnArguments : {A : Type 0} → ((ℕ → A) → Gate → A) → Type 0
OnArguments {A} value = (k : Gate) (v w : ℕ → A) → ((a : ℕ) → a ∈ arguments k → v a ≡ w a) → value v k ≡ value w k

pub figure_same : (inputs : List ℕ) → OnArguments (figure inputs)
figure_same inputs (start x) v w h = refl
figure_same inputs (word n) v w h = refl
figure_same inputs (bit b) v w h = refl
figure_same inputs (operation op l) v w h = ap (result_on op) (map_same v w l h)
figure_same inputs (choice c a b) v w h = rw (h c (inl refl), h a (inr (inl refl)), h b (inr (inr (inl refl))))

-- with arguments made before their gates, a run gives each gate its value
pub gates_right : {A : Type 0} (d : A) (value : (ℕ → A) → Gate → A) → OnArguments value → (C : Gates) → Earlier C
    → (i : ℕ) → i < length C → run_at d value C i ≡ value (run_at d value C) (gate_at C i)
gates_right d value o C e =
    run_right d value (word 0) C (λ j v w s. o (gate_at C j) v w (λ a m. s a (rw zero-add (e j a m))))

-- the figure of every gate is its figure of its arguments' figures
pub figures_right : (inputs : List ℕ) (C : Gates) → Earlier C
    → (i : ℕ) → i < length C → figure_at inputs C i ≡ figure inputs (figure_at inputs C) (gate_at C i)
unfolding figure_at
figures_right inputs C e = gates_right 0 (figure inputs) (figure_same inputs) C e

-- an element of a mapped list
pub map_at : (v : ℕ → ℕ) (l : List ℕ) (i : ℕ) → i < length l → get_or (map v l) i 0 ≡ v (get_or l i 0)
map_at v [] i h = absurd (omega arith)
map_at v (a ∷ l) zero h = refl
map_at v (a ∷ l) (suc i) h = map_at v l i (omega arith)
