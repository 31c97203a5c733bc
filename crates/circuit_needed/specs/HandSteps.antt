-- One gate's turn in the pass, by its code: a choice, whose condition has its number, an operation of one or two arguments, or neither.
use Rattle.std.specs.Prelude.{ℕ, suc, ◌-◌, ◌≤◌, ◌<◌, ◌≡◌, refl, List, [], ◌∷◌}
use Rattle.std.proofs.Common.{sym, ◌∙◌, inl, inr}
use Rattle.std.proofs.Math.Path.{ap}
use native.Mathlib.Omega.{arith}
use Rattle.std.proofs.Math.ListN.{get_or}
use Rattle.base.specs.Lists.{Inside}
use Rattle.base.specs.Codes.{entry_of, operation_of}
use Rattle.base.specs.CodeLaws.{two_arguments, one_argument}
use Rattle.base.specs.Sets.{given, without}
use Rattle.circuit.specs.Gates.{operation, choice, gate_at, conditions}
use Rattle.circuit.specs.ConditionLaws.{condition_in}
use Rattle.circuit_needed.specs.PreconditionLaws.{conditions_once}
use Rattle.circuit_needed.specs.StepLaws.{hand_choice}
use Rattle.circuit_needed.specs.Held.{choice_code, Applies, arguments_of, code_at, first_at, second_at, third_at, gates_in}
use Rattle.circuit_needed.specs.HeldLaws.{gates_at}
use Rattle.circuit_needed.specs.RankLaws.{Found, rank_found, rank_at}
use Rattle.circuit_needed.specs.Passing.{add_number, add_numbers, hand_gate, Passable}
use Rattle.circuit_needed.specs.PassingLaws.{add_all_lem}
use Rattle.circuit_needed.specs.QuadLaws.{KindIn, chooses, is_word, is_bit_lem, applies, starts, choice_in, word_in, bit_in_lem, applied_in, kind_in_lem}
use Rattle.circuit.specs.Limits.{most_conditions, most_settings}

-- A choice.

module _ (quads ranks : List ℕ) (count i : ℕ) (p : Passable quads ranks count) (l : i < count) (h : code_at quads i ≡ choice_code) where
  choice_at : gate_at (gates_in quads count) i ≡ choice (first_at quads i) (second_at quads i) (third_at quads i)
  choice_at = gates_at quads count i l ∙ choice_in quads i h

  choice_inside : Inside 256 (first_at quads i ∷ second_at quads i ∷ third_at quads i ∷ [])
  choice_inside x m = let k : x < i = p.earlier i x (rw choice_at m) in omega (arith, p.room)

  -- its condition's number
  condition_found : Found (conditions (gates_in quads count)) (first_at quads i)
  condition_found = rank_found _ (first_at quads i) (condition_in (gates_in quads count) p.earlier (first_at quads i) (i, second_at quads i, third_at quads i, choice_at))

  condition_place : get_or ranks (first_at quads i) 0 ≡ suc condition_found.at
  condition_place =
      ap (λ (k : List ℕ). get_or k (first_at quads i) 0) p.placed ∙ rank_at (gates_in quads count) 256 (first_at quads i) (choice_inside (first_at quads i) (inl refl))
      ∙ condition_found.rank

  pub choice_known : ((first_at quads i < 256) × ((0 < get_or ranks (first_at quads i) 0) × (get_or ranks (first_at quads i) 0 ≤ most_conditions)))
      × ((second_at quads i < 256) × (third_at quads i < 256))
  choice_known = (
    (choice_inside _ (inl refl), (rw condition_place (omega arith), rw condition_place (omega (arith, condition_found.inside, p.few)))),
    (choice_inside _ (inr (inl refl)), choice_inside _ (inr (inr (inl refl)))),
  )

  pub choice_hands : (M N : List ℕ)
      → N ≡ add_number (third_at quads i) (without most_settings (get_or ranks (first_at quads i) 0 - 1) (get_or M i 0))
      (add_number (second_at quads i) (given most_settings (get_or ranks (first_at quads i) 0 - 1) (get_or M i 0)) (add_number (first_at quads i) (get_or M i 0) M))
      → N ≡ hand_gate (gates_in quads count) i M
  unfolding hand_gate
  choice_hands M N n =
      let k : get_or ranks (first_at quads i) 0 - 1 ≡ condition_found.at = omega (arith, condition_place) in
      let u = hand_choice most_settings (conditions (gates_in quads count)) (conditions_once (gates_in quads count)) condition_found.at condition_found.inside
      (second_at quads i) (third_at quads i) (get_or M i 0) M in
      n ∙ rw (choice_at, k) (sym (rw condition_found.same at u))

-- An operation: its arguments are gates, and each gets its set: not has one, every other two.

abbrev arguments : List ℕ → ℕ → List ℕ
arguments quads i = arguments_of (entry_of (operation_of (code_at quads i))) (first_at quads i) (second_at quads i)

module _ (quads ranks : List ℕ) (count i : ℕ) (p : Passable quads ranks count) (l : i < count) where
  module _ (h : Applies (code_at quads i)) where
    operation_at : gate_at (gates_in quads count) i ≡ operation (operation_of (code_at quads i)) (arguments quads i)
    operation_at = gates_at quads count i l ∙ applied_in quads i h

    operation_inside : Inside 256 (arguments quads i)
    operation_inside x m = let k : x < i = p.earlier i x (rw operation_at m) in omega (arith, p.room)

    operation_hands : (M : List ℕ) → add_numbers (arguments quads i) (get_or M i 0) M ≡ hand_gate (gates_in quads count) i M
    unfolding hand_gate
    operation_hands M = rw operation_at (sym (add_all_lem most_settings (conditions (gates_in quads count)) _ (get_or M i 0) M))

  module _ (k : 0x20 ≤ code_at quads i) (t : code_at quads i < 0x27) where
    both : arguments quads i ≡ first_at quads i ∷ second_at quads i ∷ []
    both = rw (two_arguments (code_at quads i) k t)

    pub two_inside : (first_at quads i < 256) × (second_at quads i < 256)
    two_inside = let j = rw both at (operation_inside (k, omega arith)) in (j _ (inl refl), j _ (inr (inl refl)))

    pub two_hands : (M N O : List ℕ) → N ≡ add_number (first_at quads i) (get_or M i 0) M → O ≡ add_number (second_at quads i) (get_or M i 0) N
        → O ≡ hand_gate (gates_in quads count) i M
    unfolding add_numbers
    two_hands M N O n o = o ∙ ap (add_number (second_at quads i) (get_or M i 0)) n ∙ rw both at (operation_hands (k, omega arith) M)

  module _ (t : code_at quads i ≡ 0x27) where
    only : arguments quads i ≡ first_at quads i ∷ []
    only = rw (one_argument (code_at quads i) t)

    pub one_inside : first_at quads i < 256
    one_inside = (rw only at (operation_inside (omega arith, omega arith))) _ (inl refl)

    pub one_hands : (M N : List ℕ) → N ≡ add_number (first_at quads i) (get_or M i 0) M → N ≡ hand_gate (gates_in quads count) i M
    unfolding add_numbers
    one_hands M N n = n ∙ rw only at (operation_hands (omega arith, omega arith) M)

-- Neither: a starting value or a constant.
pub none_hands : (quads : List ℕ) (count i : ℕ) → i < count → (code_at quads i ≡ choice_code → ⊥) → (Applies (code_at quads i) → ⊥) → (M : List ℕ)
    → M ≡ hand_gate (gates_in quads count) i M
unfolding hand_gate
none_hands quads count i l c a M = go (kind_in_lem quads i)
  where
    go : KindIn quads i → M ≡ hand_gate (gates_in quads count) i M
    go (chooses e) = absurd (c e)
    go (is_word e) = rw (gates_at quads count i l, word_in quads i e)
    go (is_bit_lem e) = rw (gates_at quads count i l, bit_in_lem quads i e)
    go (applies h) = absurd (a h)
    go (starts h e) = rw (gates_at quads count i l, e)
