-- One step of the backward pass, for any way to hold sets: handing a gate's set on changes only the sets of its arguments, and only by joins and parts.
use Rattle.std.specs.Prelude.{ℕ, ◌≤◌, ◌<◌, ◌≡◌, refl, List, [], ◌∷◌, Bool, ◌⊎◌, length, get_or}
use Rattle.std.proofs.Common.{◌∙◌, inl, inr, arith, length-set, get_or-set_same, get_or-set_other}
use Rattle.std.proofs.Math.Seq.{set_out}
use Rattle.base.specs.Lists.{◌∈◌}
use Rattle.base.specs.TestLaws.{same?}
use Rattle.base.specs.ListLaws.{inside_list}
use Rattle.circuit.specs.Gates.{Gate, start, word, bit, operation, choice, arguments}
use Rattle.base.specs.Settings.{Setting}
use Rattle.base.specs.Interface.{SetsOf}
use Rattle.circuit_needed.specs.Pass.{add, add_all, hand}

module _ {J : Type 0} {setting : J → Setting} {S : Type 0} {has : S → J → Bool} (𝓢 : SetsOf J setting S has) where
  open 𝓢 use {empty, join, given, without}

  pub add_all_length : (l : List ℕ) (s : S) (M : List S) → length (add_all 𝓢 l s M) ≡ length M
  add_all_length [] s M = refl
  add_all_length (a ∷ l) s M = add_all_length l s (add 𝓢 a s M) ∙ length-set M a _

  pub hand_length : (k : Gate) (s : S) (M : List S) → length (hand 𝓢 k s M) ≡ length M
  hand_length (start x) s M = refl
  hand_length (word n) s M = refl
  hand_length (bit b) s M = refl
  hand_length (operation op l) s M = add_all_length l s M
  hand_length (choice c a b) s M = rw (length-set, length-set, length-set)

  -- a set is changed only by what is handed to its own gate
  pub add_all_other : (l : List ℕ) (s : S) (M : List S) (g : ℕ) → ((a : ℕ) → a ∈ l → a < g) → get_or (add_all 𝓢 l s M) g empty ≡ get_or M g empty
  add_all_other [] s M g h = refl
  add_all_other (a ∷ l) s M g h =
      add_all_other l s (add 𝓢 a s M) g (λ b m. h b (inr m)) ∙ get_or-set_other M a g _ empty (λ e. omega (arith, h a (inl refl)))

  pub hand_other : (k : Gate) (s : S) (M : List S) (g : ℕ) → ((a : ℕ) → a ∈ arguments k → a < g) → get_or (hand 𝓢 k s M) g empty ≡ get_or M g empty
  hand_other (start x) s M g h = refl
  hand_other (word n) s M g h = refl
  hand_other (bit b) s M g h = refl
  hand_other (operation op l) s M g h = add_all_other l s M g h
  hand_other (choice c a b) s M g h =
      get_or-set_other (add 𝓢 a (given c s) (add 𝓢 c s M)) b g _ empty (λ e. omega (arith, h b (inr (inr (inl refl)))))
      ∙ get_or-set_other (add 𝓢 c s M) a g _ empty (λ e. omega (arith, h a (inr (inl refl))))
      ∙ get_or-set_other M c g _ empty (λ e. omega (arith, h c (inl refl)))

  -- what holds of every set, and of joins and parts of sets, holds after the step
  module _ (P : S → Type 0) (of-empty : P empty) (of-join : (s t : S) → P s → P t → P (join s t))
      (of-given : (c : ℕ) (s : S) → P (given c s)) (of-without : (c : ℕ) (s : S) → P (without c s)) where
    add_each : (a : ℕ) (s : S) (M : List S) → P s → ((g : ℕ) → P (get_or M g empty)) → (g : ℕ) → P (get_or (add 𝓢 a s M) g empty)
    add_each a s M p h g = go (same? g a) (inside_list M a)
      where
        go : (g ≡ a) ⊎ (g ≡ a → ⊥) → (a < length M) ⊎ (length M ≤ a) → P (get_or (add 𝓢 a s M) g empty)
        go (inr n) z = rw (get_or-set_other M a g (join (get_or M a empty) s) empty n) (h g)
        go (inl e) (inl l) = rw (e, get_or-set_same M a (join (get_or M a empty) s) empty l) (of-join (get_or M a empty) s (h a) p)
        go (inl e) (inr l) = rw (set_out M a (join (get_or M a empty) s) l) (h g)

    pub add_all_each : (l : List ℕ) (s : S) (M : List S) → P s → ((g : ℕ) → P (get_or M g empty)) → (g : ℕ) → P (get_or (add_all 𝓢 l s M) g empty)
    add_all_each [] s M p h g = h g
    add_all_each (a ∷ l) s M p h g = add_all_each l s (add 𝓢 a s M) p (add_each a s M p h) g

    pub hand_each : (k : Gate) (s : S) (M : List S) → P s → ((g : ℕ) → P (get_or M g empty)) → (g : ℕ) → P (get_or (hand 𝓢 k s M) g empty)
    hand_each (start x) s M p h g = h g
    hand_each (word n) s M p h g = h g
    hand_each (bit b) s M p h g = h g
    hand_each (operation op l) s M p h g = add_all_each l s M p h g
    hand_each (choice c a b) s M p h g =
        add_each b (without c s) (add 𝓢 a (given c s) (add 𝓢 c s M)) (of-without c s)
        (add_each a (given c s) (add 𝓢 c s M) (of-given c s) (add_each c s M p h)) g
