-- One step of the backward pass at one setting: handing a gate's set on gives the setting exactly to what the gate asks for.
use Rattle.std.specs.Prelude.{ℕ, ◌≤◌, ◌<◌, ◌≡◌, List, [], ◌∷◌, Bool, true, false, not, ◌⊎◌, length, get_or}
use Rattle.std.proofs.Common.{inl, inr, length-set, get_or-set_same, get_or-set_other}
use Rattle.std.proofs.Math.Seq.{set_out}
use Rattle.std.proofs.lemmas.Bool.{not-true}
use Rattle.base.specs.Lists.{◌∈◌}
use Rattle.base.specs.TestLaws.{split, same?, both, either, or_left, or_right}
use Rattle.base.specs.ListLaws.{inside_list}
use Rattle.circuit.specs.Gates.{Gate, start, word, bit, operation, choice}
use Rattle.base.specs.Settings.{Setting}
use Rattle.base.specs.Interface.{SetsOf}
use Rattle.circuit_needed.specs.Needed.{asks}
use Rattle.circuit_needed.specs.Pass.{add, add_all, hand}

module _ {J : Type 0} {setting : J → Setting} {S : Type 0} {has : S → J → Bool} (𝓢 : SetsOf J setting S has) where
  open 𝓢 use {empty, join, given, without, has_join, has_given, has_without}

  module _ (j : J) where
    -- the setting, and whether it is in gate g's set
    abbrev σ : Setting
    σ = setting j

    abbrev pub marked : List S → ℕ → Bool
    marked M g = has (get_or M g empty) j

    add_all_lem : (a : ℕ) (s : S) (M : List S) → a < length M → has s j ≡ true → marked (add 𝓢 a s M) a ≡ true
    add_all_lem a s M h t = rw (get_or-set_same M a (join (get_or M a empty) s) empty h, has_join) (or_right (has (get_or M a empty) j) (has s j) t)

    add_grows : (a : ℕ) (s : S) (M : List S) (g : ℕ) → marked M g ≡ true → marked (add 𝓢 a s M) g ≡ true
    add_grows a s M g t = go (same? g a) (inside_list M a)
      where
        go : (g ≡ a) ⊎ (g ≡ a → ⊥) → (a < length M) ⊎ (length M ≤ a) → marked (add 𝓢 a s M) g ≡ true
        go (inr n) z = rw (get_or-set_other M a g (join (get_or M a empty) s) empty n) t
        go (inl e) (inl h) = rw (e, get_or-set_same M a (join (get_or M a empty) s) empty h, has_join) (or_left (has (get_or M a empty) j) (has s j) (rw e at t))
        go (inl e) (inr h) = rw (set_out M a (join (get_or M a empty) s) h) t

    add_only : (a : ℕ) (s : S) (M : List S) (g : ℕ) → marked (add 𝓢 a s M) g ≡ true → (marked M g ≡ true) ⊎ ((g ≡ a) × (has s j ≡ true))
    add_only a s M g t = go (same? g a) (inside_list M a)
      where
        go : (g ≡ a) ⊎ (g ≡ a → ⊥) → (a < length M) ⊎ (length M ≤ a) → (marked M g ≡ true) ⊎ ((g ≡ a) × (has s j ≡ true))
        go (inr n) z = inl (rw (get_or-set_other M a g (join (get_or M a empty) s) empty n) at t)
        go (inl e) (inr h) = inl (rw (set_out M a (join (get_or M a empty) s) h) at t)
        go (inl e) (inl h) =
            one_of (either (has (get_or M a empty) j) (has s j) (rw (e, get_or-set_same M a (join (get_or M a empty) s) empty h, has_join) at t))
          where
            one_of : (has (get_or M a empty) j ≡ true) ⊎ (has s j ≡ true) → (marked M g ≡ true) ⊎ ((g ≡ a) × (has s j ≡ true))
            one_of (inl k) = inl (rw e k)
            one_of (inr k) = inr (e, k)

    pub add_all_grows : (l : List ℕ) (s : S) (M : List S) (g : ℕ) → marked M g ≡ true → marked (add_all 𝓢 l s M) g ≡ true
    add_all_grows [] s M g t = t
    add_all_grows (a ∷ l) s M g t = add_all_grows l s (add 𝓢 a s M) g (add_grows a s M g t)

    pub add_all_all : (l : List ℕ) (s : S) (M : List S) (g : ℕ) → g ∈ l → g < length M → has s j ≡ true → marked (add_all 𝓢 l s M) g ≡ true
    add_all_all [] s M g m h t = absurd m
    add_all_all (a ∷ l) s M g (inl e) h t = add_all_grows l s (add 𝓢 a s M) g (rw e (add_all_lem a s M (rw e at h) t))
    add_all_all (a ∷ l) s M g (inr m) h t = add_all_all l s (add 𝓢 a s M) g m (rw length-set h) t

    pub add_all_only : (l : List ℕ) (s : S) (M : List S) (g : ℕ) → marked (add_all 𝓢 l s M) g ≡ true → (marked M g ≡ true) ⊎ ((g ∈ l) × (has s j ≡ true))
    add_all_only [] s M g t = inl t
    add_all_only (a ∷ l) s M g t = go (add_all_only l s (add 𝓢 a s M) g t)
      where
        then_one : (marked M g ≡ true) ⊎ ((g ≡ a) × (has s j ≡ true)) → (marked M g ≡ true) ⊎ ((g ∈ (a ∷ l)) × (has s j ≡ true))
        then_one (inl k) = inl k
        then_one (inr (e, k)) = inr (inl e, k)

        go : (marked (add 𝓢 a s M) g ≡ true) ⊎ ((g ∈ l) × (has s j ≡ true)) → (marked M g ≡ true) ⊎ ((g ∈ (a ∷ l)) × (has s j ≡ true))
        go (inl k) = then_one (add_only a s M g k)
        go (inr (m, k)) = inr (inr m, k)

    -- a set hands a choice's values on by what the setting picks
    picked : (c : ℕ) (s : S) → has s j ≡ true → σ c ≡ true → has (given c s) j ≡ true
    picked c s h t = rw (has_given, h, t)

    unpicked : (c : ℕ) (s : S) → has s j ≡ true → σ c ≡ false → has (without c s) j ≡ true
    unpicked c s h t = rw (has_without, h, t)

    pub hand_grows : (k : Gate) (s : S) (M : List S) (g : ℕ) → marked M g ≡ true → marked (hand 𝓢 k s M) g ≡ true
    hand_grows (start x) s M g t = t
    hand_grows (word n) s M g t = t
    hand_grows (bit b) s M g t = t
    hand_grows (operation op l) s M g t = add_all_grows l s M g t
    hand_grows (choice c a b) s M g t =
        add_grows b (without c s) (add 𝓢 a (given c s) (add 𝓢 c s M)) g (add_grows a (given c s) (add 𝓢 c s M) g (add_grows c s M g t))

    -- what a gate in the set asks for gets the setting
    pub hand_all : (k : Gate) (s : S) (M : List S) (g : ℕ) → has s j ≡ true → g ∈ asks σ k → g < length M → marked (hand 𝓢 k s M) g ≡ true
    hand_all (start x) s M g t m h = absurd m
    hand_all (word n) s M g t m h = absurd m
    hand_all (bit b) s M g t m h = absurd m
    hand_all (operation op l) s M g t m h = add_all_all l s M g m h t
    hand_all (choice c a b) s M g t (inl e) h =
        add_grows b (without c s) (add 𝓢 a (given c s) (add 𝓢 c s M)) g (add_grows a (given c s) (add 𝓢 c s M) g (rw e (add_all_lem c s M (rw e at h) t)))
    hand_all (choice c a b) s M g t (inr (inl e)) h =
        split (σ c)
        (λ q. let f : g ≡ a = rw q at e in
        add_grows b (without c s) (add 𝓢 a (given c s) (add 𝓢 c s M)) g (rw f (add_all_lem a (given c s) (add 𝓢 c s M) (rw length-set (rw f at h)) (picked c s t q))))
        (λ q. let f : g ≡ b = rw q at e in
        rw f (add_all_lem b (without c s) (add 𝓢 a (given c s) (add 𝓢 c s M)) (rw (length-set, length-set) (rw f at h)) (unpicked c s t q)))
    hand_all (choice c a b) s M g t (inr (inr m)) h = absurd m

    -- and nothing else does
    pub hand_only : (k : Gate) (s : S) (M : List S) (g : ℕ) → marked (hand 𝓢 k s M) g ≡ true → (marked M g ≡ true) ⊎ ((has s j ≡ true) × (g ∈ asks σ k))
    hand_only (start x) s M g t = inl t
    hand_only (word n) s M g t = inl t
    hand_only (bit b) s M g t = inl t
    hand_only (operation op l) s M g t = go (add_all_only l s M g t)
      where
        go : (marked M g ≡ true) ⊎ ((g ∈ l) × (has s j ≡ true)) → (marked M g ≡ true) ⊎ ((has s j ≡ true) × (g ∈ l))
        go (inl k) = inl k
        go (inr (m, k)) = inr (k, m)
    hand_only (choice c a b) s M g t = third (add_only b (without c s) (add 𝓢 a (given c s) (add 𝓢 c s M)) g t)
      where
        first : (marked M g ≡ true) ⊎ ((g ≡ c) × (has s j ≡ true)) → (marked M g ≡ true) ⊎ ((has s j ≡ true) × (g ∈ asks σ (choice c a b)))
        first (inl k) = inl k
        first (inr (e, k)) = inr (k, inl e)

        second : (marked (add 𝓢 c s M) g ≡ true) ⊎ ((g ≡ a) × (has (given c s) j ≡ true)) → (marked M g ≡ true) ⊎ ((has s j ≡ true) × (g ∈ asks σ (choice c a b)))
        second (inl k) = first (add_only c s M g k)
        second (inr (e, k)) = let r = both (has s j) (σ c) (rw has_given at k) in inr (r.0, inr (inl (rw r.1 e)))

        third : (marked (add 𝓢 a (given c s) (add 𝓢 c s M)) g ≡ true) ⊎ ((g ≡ b) × (has (without c s) j ≡ true))
            → (marked M g ≡ true) ⊎ ((has s j ≡ true) × (g ∈ asks σ (choice c a b)))
        third (inl k) = second (add_only a (given c s) (add 𝓢 c s M) g k)
        third (inr (e, k)) = let r = both (has s j) (not (σ c)) (rw has_without at k) in inr (r.0, inr (inl (rw (not-true (σ c) r.1) e)))
