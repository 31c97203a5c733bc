-- The backward pass, for any way to hold sets: a gate's set is final when the pass reaches it, and the pass finds exactly the needed gates of each setting.
use Prim.Native.Nat.{ℕ, zero, suc, ◌≤◌, ◌<◌}
use Rattle.std.specs.Prelude.{◌≡◌, refl, Bool, true, false, ◌⊎◌, get_or, replicate}
use Rattle.std.proofs.Common.{sym, ap, ◌∙◌, inl, inr, arith}
use mathlib.Core.List.{List}
use Rattle.std.proofs.lemmas.Bool.{false≢true}
use Rattle.std.proofs.Math.ListN.{length, length-replicate}
use Rattle.base.specs.Lists.{◌∈◌}
use Rattle.base.specs.TestLaws.{same?, same_test}
use Rattle.circuit.specs.Gates.{Gates, gate_at, Earlier}
use Rattle.base.specs.Settings.{Setting}
use Rattle.base.specs.Interface.{SetsOf}
use Rattle.circuit_needed.specs.Needed.{asks, Needed, from_start, asked}
use Rattle.circuit_needed.specs.Pass.{add_all, hand, pass_sets, preconditions, alone, needed}
use Rattle.circuit_needed.specs.NeededLaws.{asks_arguments, needed_inside}
use Rattle.circuit_needed.specs.HandLaws.{add_all_length, hand_length, hand_other, add_all_each, hand_each}
use Rattle.circuit_needed.specs.MarkLaws.{marked, add_all_all, add_all_only, hand_grows, hand_all, hand_only}

module _ {J : Type 0} {setting : J → Setting} {S : Type 0} {has : S → J → Bool} (𝓢 : SetsOf J setting S has) where
  open 𝓢 use {empty, whole, join, given, without, has_empty, has_whole}

  pub pass_length : (C : Gates) (k : ℕ) (M : List S) → length (pass_sets 𝓢 C k M) ≡ length M
  pass_length C zero M = refl
  pass_length C (suc i) M = pass_length C i (hand 𝓢 (gate_at C i) (get_or M i empty) M) ∙ hand_length 𝓢 (gate_at C i) (get_or M i empty) M

  -- a gate's set is final when the pass reaches it
  pub pass_final : (C : Gates) → Earlier C → (k : ℕ) (M : List S) (g : ℕ) → k ≤ suc g → get_or (pass_sets 𝓢 C k M) g empty ≡ get_or M g empty
  pass_final C e zero M g h = refl
  pass_final C e (suc i) M g h =
      pass_final C e i (hand 𝓢 (gate_at C i) (get_or M i empty) M) g (omega arith)
      ∙ hand_other 𝓢 (gate_at C i) (get_or M i empty) M g (λ a m. omega (arith, e i a m))

  -- what holds of every set of settings that the pass makes: of the empty set and the whole, of joins, and of the parts that a choice hands on
  pub preconditions_each : (P : S → Type 0) → P empty → P whole → ((s t : S) → P s → P t → P (join s t))
      → ((c : ℕ) (s : S) → P (given c s)) → ((c : ℕ) (s : S) → P (without c s)) → (C : Gates) (wanted : List ℕ) (g : ℕ) → P (get_or (preconditions 𝓢 C wanted) g empty)
  unfolding preconditions
  preconditions_each P e w o f h C wanted =
      pass (length C) (add_all 𝓢 wanted whole (replicate (length C) empty)) (add_all_each 𝓢 P e o f h wanted whole (replicate (length C) empty) w (none (length C)))
    where
      pass : (k : ℕ) (M : List S) → ((g : ℕ) → P (get_or M g empty)) → (g : ℕ) → P (get_or (pass_sets 𝓢 C k M) g empty)
      pass zero M a g = a g
      pass (suc i) M a g = pass i (hand 𝓢 (gate_at C i) (get_or M i empty) M) (hand_each 𝓢 P e o f h (gate_at C i) (get_or M i empty) M (a i) a) g

      none : (n g : ℕ) → P (get_or (replicate n empty) g empty)
      none zero g = e
      none (suc n) zero = e
      none (suc n) (suc g) = none n g

  module _ (j : J) where
    -- a mark stays
    pass_grows : (C : Gates) (k : ℕ) (M : List S) (g : ℕ) → marked 𝓢 j M g ≡ true → marked 𝓢 j (pass_sets 𝓢 C k M) g ≡ true
    pass_grows C zero M g t = t
    pass_grows C (suc i) M g t = pass_grows C i (hand 𝓢 (gate_at C i) (get_or M i empty) M) g (hand_grows 𝓢 j (gate_at C i) (get_or M i empty) M g t)

    -- what holds of the marked gates, and of what a gate asks for with the gate, holds of all that the pass marks
    pass_sound : (C : Gates) (P : ℕ → Type 0) → ((h g : ℕ) → P h → g ∈ asks (setting j) (gate_at C h) → P g) → (k : ℕ) (M : List S)
        → ((g : ℕ) → marked 𝓢 j M g ≡ true → P g) → (g : ℕ) → marked 𝓢 j (pass_sets 𝓢 C k M) g ≡ true → P g
    pass_sound C P step zero M a g t = a g t
    pass_sound C P step (suc i) M a g t =
        pass_sound C P step i (hand 𝓢 (gate_at C i) (get_or M i empty) M) (λ b q. go b (hand_only 𝓢 j (gate_at C i) (get_or M i empty) M b q)) g t
      where
        go : (b : ℕ) → (marked 𝓢 j M b ≡ true) ⊎ ((marked 𝓢 j M i ≡ true) × (b ∈ asks (setting j) (gate_at C i))) → P b
        go b (inl q) = a b q
        go b (inr (q, m)) = step i b (a i q) m

    -- after the pass, what a marked gate asks for is marked
    pass_closed : (C : Gates) → Earlier C → (k : ℕ) (M : List S) (i a : ℕ) → i < k → i < length M → marked 𝓢 j (pass_sets 𝓢 C k M) i ≡ true
        → a ∈ asks (setting j) (gate_at C i) → marked 𝓢 j (pass_sets 𝓢 C k M) a ≡ true
    pass_closed C e zero M i a l s t m = absurd (omega arith)
    pass_closed C e (suc k) M i a l s t m = go (same? i k) (λ b r. pass_closed C e k (hand 𝓢 (gate_at C k) (get_or M k empty) M) i a b r t m)
      where
        go : (i ≡ k) ⊎ (i ≡ k → ⊥)
            → (i < k → i < length (hand 𝓢 (gate_at C k) (get_or M k empty) M) → marked 𝓢 j (pass_sets 𝓢 C (suc k) M) a ≡ true)
            → marked 𝓢 j (pass_sets 𝓢 C (suc k) M) a ≡ true
        go (inl z) ih =
            let t' : marked 𝓢 j (pass_sets 𝓢 C (suc i) M) i ≡ true = rw (← z) at t in
            let f : marked 𝓢 j M i ≡ true = ap (λ (s : S). has s j) (sym (pass_final C e (suc i) M i (omega arith))) ∙ t' in
            rw (← z) (pass_grows C i (hand 𝓢 (gate_at C i) (get_or M i empty) M) a
            (hand_all 𝓢 j (gate_at C i) (get_or M i empty) M a f m (omega (arith, e i a (asks_arguments (setting j) (gate_at C i) a m)))))
        go (inr n) ih = ih (omega arith) (rw (hand_length 𝓢 (gate_at C k) (get_or M k empty) M) s)

    none_marked : (n g : ℕ) → marked 𝓢 j (replicate n empty) g ≡ false
    none_marked zero g = has_empty j
    none_marked (suc n) zero = has_empty j
    none_marked (suc n) (suc g) = none_marked n g

    module _ (C : Gates) (wanted : List ℕ) where
      -- a gate whose set has the setting is needed under it
      pub pass_needed : (g : ℕ) → marked 𝓢 j (preconditions 𝓢 C wanted) g ≡ true → Needed C wanted (setting j) g
      unfolding preconditions
      pass_needed g t =
          pass_sound C (Needed C wanted (setting j)) (λ h g' n m. asked n m) (length C) (add_all 𝓢 wanted whole (replicate (length C) empty))
          (λ g' q. go g' (add_all_only 𝓢 j wanted whole (replicate (length C) empty) g' q)) g t
        where
          go : (g' : ℕ) → (marked 𝓢 j (replicate (length C) empty) g' ≡ true) ⊎ ((g' ∈ wanted) × (has whole j ≡ true)) → Needed C wanted (setting j) g'
          go g' (inl q) = absurd (false≢true (sym (none_marked (length C) g') ∙ q))
          go g' (inr (m, q)) = from_start m

      -- the set of a gate that is needed under the setting has it
      pub needed_pass : Earlier C → ((g : ℕ) → g ∈ wanted → g < length C)
          → (g : ℕ) → Needed C wanted (setting j) g → marked 𝓢 j (preconditions 𝓢 C wanted) g ≡ true
      unfolding preconditions
      needed_pass e i g (from_start m) =
          pass_grows C (length C) (add_all 𝓢 wanted whole (replicate (length C) empty)) g
          (add_all_all 𝓢 j wanted whole (replicate (length C) empty) g m (rw length-replicate (i g m)) (has_whole j))
      needed_pass e i g (asked {h = h} n m) =
          let l : h < length C = needed_inside C wanted (setting j) e i h n in
          pass_closed C e (length C) (add_all 𝓢 wanted whole (replicate (length C) empty)) h g l
          (rw (add_all_length 𝓢 wanted whole (replicate (length C) empty), length-replicate) l) (needed_pass e i h n) m

-- the test `needed` decides the relation
module _ (C : Gates) (wanted : List ℕ) (σ : Setting) where
  pub needed_sound : (g : ℕ) → needed C wanted g σ ≡ true → Needed C wanted σ g
  unfolding needed
  needed_sound g t = pass_needed (alone σ) tt C wanted g t

  pub needed_complete : Earlier C → ((g : ℕ) → g ∈ wanted → g < length C) → (g : ℕ) → Needed C wanted σ g → needed C wanted g σ ≡ true
  unfolding needed
  needed_complete e i g n = needed_pass (alone σ) tt C wanted e i g n

-- each gate's set, as the pass leaves it, has exactly the settings under which the gate is needed
pub preconditions_right : {J : Type 0} {setting : J → Setting} {S : Type 0} {has : S → J → Bool} (𝓢 : SetsOf J setting S has)
    (C : Gates) (wanted : List ℕ) → Earlier C → ((g : ℕ) → g ∈ wanted → g < length C) → (j : J) (g : ℕ)
    → marked 𝓢 j (preconditions 𝓢 C wanted) g ≡ needed C wanted g (setting j)
preconditions_right {setting = setting} 𝓢 C wanted e i j g =
    same_test _ _
    (λ t. needed_complete C wanted (setting j) e i g (pass_needed 𝓢 j C wanted g t))
    (λ t. needed_pass 𝓢 j C wanted e i g (needed_sound C wanted (setting j) g t))
