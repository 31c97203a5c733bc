-- Laws that proofs of code cite: the steps of the pass over numbers, by gate, a choice by its condition's place; and that room past the gates changes nothing.
use Rattle.std.specs.Prelude.{ℕ, zero, suc, ◌+◌, ◌≤◌, ◌<◌, ◌≡◌, refl, List, [], ◌∷◌, ◌++◌, Bool, length, get_or, replicate}
use Rattle.std.proofs.Common.{sym, ap, ◌∙◌, inl, inr, arith, length-set}
use Rattle.std.proofs.lemmas.List.{length-replicate, replicate-append-replicate, set-append_left}
use Rattle.std.proofs.Math.ListN.{get_or-append}
use Rattle.base.specs.Lists.{◌∈◌}
use Rattle.circuit.specs.Gates.{Gate, start, word, bit, operation, choice, Gates, gate_at, arguments, Earlier}
use Rattle.base.specs.Settings.{Setting, Once}
use Rattle.base.specs.Sets as sets
use Rattle.base.specs.Interface.{SetsOf}
use Rattle.base.specs.SettingNumbers.{numbers, given_place, without_place}
use Rattle.circuit_needed.specs.Pass.{add, add_all, hand, pass_sets, preconditions}
use Rattle.circuit_needed.specs.HandLaws.{add_all_length, hand_length}
use Rattle.circuit_needed.specs.Passing.{add_number}

module _ (N : ℕ) (cs : List ℕ) where
  -- a choice on the condition at place t
  pub hand_choice : Once cs → (t : ℕ) → t < length cs → (a b s : ℕ) (M : List ℕ)
      → hand (numbers N cs) (choice (get_or cs t 0) a b) s M ≡ add_number b (sets.without N t s) (add_number a (sets.given N t s) (add_number (get_or cs t 0) s M))
  unfolding numbers
  hand_choice o t h a b s M = rw (← given_place N cs o t s h, ← without_place N cs o t s h)

-- Room: sets past the gates stay as they are.

module _ {J : Type 0} {setting : J → Setting} {S : Type 0} {has : S → J → Bool} (𝓢 : SetsOf J setting S has) (Z : List S) where
  open 𝓢 use {empty, whole, join, given, without}

  add_room : (a : ℕ) (s : S) (M : List S) → a < length M → add 𝓢 a s (M ++ Z) ≡ add 𝓢 a s M ++ Z
  add_room a s M h = set-append_left M Z a _ h ∙ rw (get_or-append M Z empty a h)

  add_all_room : (l : List ℕ) (s : S) (M : List S) → ((a : ℕ) → a ∈ l → a < length M) → add_all 𝓢 l s (M ++ Z) ≡ add_all 𝓢 l s M ++ Z
  add_all_room [] s M h = refl
  add_all_room (a ∷ l) s M h =
      ap (add_all 𝓢 l s) (add_room a s M (h a (inl refl))) ∙ add_all_room l s (add 𝓢 a s M) (λ b m. rw length-set (h b (inr m)))

  hand_room : (k : Gate) (s : S) (M : List S) → ((a : ℕ) → a ∈ arguments k → a < length M) → hand 𝓢 k s (M ++ Z) ≡ hand 𝓢 k s M ++ Z
  hand_room (start x) s M h = refl
  hand_room (word n) s M h = refl
  hand_room (bit b) s M h = refl
  hand_room (operation op l) s M h = add_all_room l s M h
  hand_room (choice c a b) s M h =
      ap (λ (L : List S). add 𝓢 b (without c s) (add 𝓢 a (given c s) L)) (add_room c s M (h c (inl refl)))
      ∙ ap (add 𝓢 b (without c s)) (add_room a (given c s) (add 𝓢 c s M) (rw length-set (h a (inr (inl refl)))))
      ∙ add_room b (without c s) (add 𝓢 a (given c s) (add 𝓢 c s M)) (rw (length-set, length-set) (h b (inr (inr (inl refl)))))

  pub pass_room : (C : Gates) → Earlier C → (k : ℕ) (M : List S) → k ≤ length M → pass_sets 𝓢 C k (M ++ Z) ≡ pass_sets 𝓢 C k M ++ Z
  pass_room C e zero M h = refl
  pass_room C e (suc i) M h =
      rw (get_or-append M Z empty i h)
      (ap (pass_sets 𝓢 C i) (hand_room (gate_at C i) (get_or M i empty) M (λ a m. omega (arith, e i a m)))
      ∙ pass_room C e i (hand 𝓢 (gate_at C i) (get_or M i empty) M) (rw (hand_length 𝓢 (gate_at C i) (get_or M i empty) M) (omega arith)))

-- a pass over more places than gates leaves the preconditions, and empty sets after them
pub preconditions_room : {J : Type 0} {setting : J → Setting} {S : Type 0} {has : S → J → Bool} (𝓢 : SetsOf J setting S has)
    (C : Gates) (wanted : List ℕ) → Earlier C → ((g : ℕ) → g ∈ wanted → g < length C) → (r : ℕ)
    → pass_sets 𝓢 C (length C) (add_all 𝓢 wanted 𝓢.whole (replicate (length C + r) 𝓢.empty)) ≡ preconditions 𝓢 C wanted ++ replicate r 𝓢.empty
unfolding preconditions
preconditions_room 𝓢 C wanted e i r =
    let Z = replicate r 𝓢.empty in
    let M = replicate (length C) 𝓢.empty in
    ap (λ (L : List _). pass_sets 𝓢 C (length C) (add_all 𝓢 wanted 𝓢.whole L)) (sym (replicate-append-replicate (length C) r 𝓢.empty))
    ∙ ap (pass_sets 𝓢 C (length C)) (add_all_room 𝓢 Z wanted 𝓢.whole M (λ g m. rw length-replicate (i g m)))
    ∙ pass_room 𝓢 Z C e (length C) (add_all 𝓢 wanted 𝓢.whole M) (rw (add_all_length 𝓢 wanted 𝓢.whole M, length-replicate) (omega arith))
