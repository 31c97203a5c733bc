-- The pass as the code goes: what is handed to one or two arguments and to a choice's, and the turns of the two loops, over the wanted gates and downwards over all.
use Rattle.std.specs.Prelude.{ℕ, zero, suc, ◌+◌, ◌-◌, ◌^◌, ◌≤◌, ◌<◌, ◌≡◌, refl, List, [], ◌∷◌, ◌++◌, length, get_or, take, replicate}
use Rattle.std.proofs.Common.{sym, ap, ◌∙◌, arith, take-suc}
use Rattle.std.proofs.lemmas.List.{length-replicate}
use Rattle.std.proofs.Math.Seq.{take-length}
use Rattle.base.specs.MemberLaws.{get_or_in}
use Rattle.base.specs.Lists.{Inside}
use Rattle.base.specs.Sets.{whole, given, without}
use Rattle.base.specs.SettingNumbers.{numbers}
use Rattle.circuit.specs.Gates.{Gates, gate_at, conditions}
use Rattle.circuit_needed.specs.Pass.{add_all, hand, pass_sets, preconditions, precondition_sets}
use Rattle.circuit_needed.specs.HandLaws.{add_all_length}
use Rattle.circuit_needed.specs.PassLaws.{pass_length}
use Rattle.circuit_needed.specs.Reaching.{begun, handed, hand_from}
use Rattle.circuit_needed.specs.ReachingLaws.{reached_end, reached_final}
use Rattle.circuit_needed.specs.StepLaws.{preconditions_room}
use Rattle.circuit_needed.specs.Held.{gates_in}
use Rattle.circuit_needed.specs.HeldLaws.{gates_length}
use Rattle.circuit_needed.specs.Passing.{add_number, add_numbers, hand_gate, pass_gates, ReachingGates, hand_gates_from, Passable}
use Rattle.circuit.specs.Limits.{most_conditions, most_settings}

-- Unions, one after the other.

pub add_all_lem : (N : ℕ) (cs l : List ℕ) (s : ℕ) (M : List ℕ) → add_all (numbers N cs) l s M ≡ add_numbers l s M
unfolding numbers add_numbers
add_all_lem N cs [] s M = refl
add_all_lem N cs (a ∷ l) s M = add_all_lem N cs l s (add_number a s M)

add_more : (l : List ℕ) (a s : ℕ) (M : List ℕ) → add_numbers (l ++ (a ∷ [])) s M ≡ add_number a s (add_numbers l s M)
unfolding add_numbers
add_more [] a s M = refl
add_more (b ∷ l) a s M = add_more l a s (add_number b s M)

-- the same of a choice's three, the last two of which get the parts of its set
pub choice_sets : (t c a b s g w : ℕ) (M M₁ M₂ M₃ : List ℕ) → M₁ ≡ add_number c s M → g ≡ given most_settings t s → M₂ ≡ add_number a g M₁ → w ≡ without most_settings t s
    → M₃ ≡ add_number b w M₂ → M₃ ≡ add_number b (without most_settings t s) (add_number a (given most_settings t s) (add_number c s M))
choice_sets t c a b s g w M M₁ M₂ M₃ e₁ eg e₂ ew e₃ =
    e₃ ∙ ap (add_number b w) (e₂ ∙ ap (add_number a g) e₁) ∙ ap (λ (k : ℕ). add_number b w (add_number a k (add_number c s M))) eg
    ∙ ap (λ (k : ℕ). add_number b k (add_number a (given most_settings t s) (add_number c s M))) ew

-- The loop over the wanted gates, and its invariant.

pub record Wanting (wanted M₀ M : List ℕ) (x : ℕ) : Type 0 where
  pub low : x ≤ length wanted
  pub inside : Inside 256 wanted
  pub done : M ≡ add_numbers (take x wanted) (whole most_settings) M₀

pub wanting_start : (wanted M : List ℕ) → Inside 256 wanted → Wanting wanted M M 0
unfolding add_numbers
wanting_start wanted M i = record { low = omega arith; inside = i; done = refl }

pub wanting_inside : (wanted M₀ M : List ℕ) (x g : ℕ) → Wanting wanted M₀ M x → x < length wanted → g ≡ get_or wanted x 0 → g < 256
wanting_inside wanted M₀ M x g w l e = rw e (w.inside (get_or wanted x 0) (get_or_in wanted x l))

pub wanting_step : (wanted M₀ M N : List ℕ) (x g : ℕ) → Wanting wanted M₀ M x → x < length wanted → g ≡ get_or wanted x 0 → N ≡ add_number g (whole most_settings) M
    → Wanting wanted M₀ N (x + 1)
wanting_step wanted M₀ M N x g w l e q =
    record {
      low = omega arith;
      inside = w.inside;
      done = let m : x + 1 ≡ suc x = omega arith in
          q ∙ rw (e, m, take-suc wanted x 0 l, add_more (take x wanted) (get_or wanted x 0) (whole most_settings) M₀) (ap (add_number (get_or wanted x 0) (whole most_settings)) w.done);
    }

pub wanting_end : (wanted M₀ M : List ℕ) (x : ℕ) → Wanting wanted M₀ M x → length wanted ≤ x → M ≡ add_numbers wanted (whole most_settings) M₀
wanting_end wanted M₀ M x w l =
    let e : x ≡ length wanted = omega (arith, w.low) in
    w.done ∙ ap (λ (k : List ℕ). add_numbers k (whole most_settings) M₀) (rw e (take-length wanted))

-- The loop downwards over the gates, and its invariant, the lent list being M: where the pass is, and the gates gone over handed on the sets that they end with.

pub record WalkingBack (quads ranks M₀ M : List ℕ) (count i : ℕ) : Type 0 where
  pub low : i ≤ count
  pub passable : Passable quads ranks count
  pub reached : ReachingGates (gates_in quads count) count M₀ i M
  pub gone : hand_gates_from (gates_in quads count) (pass_gates (gates_in quads count) count M₀) i M
      ≡ hand_gates_from (gates_in quads count) (pass_gates (gates_in quads count) count M₀) count M₀

pub walking_start : (quads ranks M : List ℕ) (count : ℕ) → Passable quads ranks count → WalkingBack quads ranks M M count count
walking_start quads ranks M count p = record { low = omega arith; passable = p; reached = begun; gone = refl }

-- each gate's set in the lent list is final when the loop reaches the gate
pub walking_final : (quads ranks M₀ M : List ℕ) (count i : ℕ) → WalkingBack quads ranks M₀ M count i → (g : ℕ) → i ≤ suc g
    → get_or M g 0 ≡ get_or (pass_gates (gates_in quads count) count M₀) g 0
unfolding pass_gates numbers
walking_final quads ranks M₀ M count i w = reached_final (numbers most_settings (conditions (gates_in quads count))) _ _ _ w.passable.earlier w.reached

pub walking_step : (quads ranks M₀ M N : List ℕ) (count i : ℕ) → WalkingBack quads ranks M₀ M count i → 0 < i
    → get_or M (i - 1) 0 ≡ get_or (pass_gates (gates_in quads count) count M₀) (i - 1) 0 → N ≡ hand_gate (gates_in quads count) (i - 1) M
    → WalkingBack quads ranks M₀ N count (i - 1)
unfolding hand_gate hand_gates_from numbers
walking_step quads ranks M₀ M N count zero w l f q = absurd (omega arith)
walking_step quads ranks M₀ M N count (suc i) w l f q =
    let C = gates_in quads count in
    let S = numbers most_settings (conditions C) in
    let e : suc i - 1 ≡ i = omega arith in
    record {
      low = omega (arith, w.low);
      passable = w.passable;
      reached = rw (q, e) (handed w.reached);
      gone = rw (q, e) (ap (λ (s : ℕ). hand_from S C (pass_gates C count M₀) i (hand S (gate_at C i) s M)) (rw e at f) ∙ w.gone);
    }

pub walking_end : (quads ranks M₀ M : List ℕ) (count i : ℕ) → WalkingBack quads ranks M₀ M count i → i ≤ 0
    → (M ≡ pass_gates (gates_in quads count) count M₀) × (M ≡ hand_gates_from (gates_in quads count) M count M₀)
unfolding pass_gates hand_gates_from
walking_end quads ranks M₀ M count zero w l =
    let f = reached_end (numbers most_settings (conditions (gates_in quads count))) _ _ _ w.reached in
    (f, w.gone ∙ ap (λ (F : List ℕ). hand_gates_from (gates_in quads count) F count M₀) (sym f))
walking_end quads ranks M₀ M count (suc i) w l = absurd (omega arith)

-- Both: the sets that are wanted, then the pass, give the preconditions, and empty sets past the gates.

pub found_needed : (quads ranks wanted M₁ M₂ M₃ : List ℕ) (count : ℕ) → Passable quads ranks count → Inside count wanted
    → M₁ ≡ replicate 256 0 → M₂ ≡ add_numbers wanted (whole most_settings) M₁ → M₃ ≡ pass_gates (gates_in quads count) count M₂
    → M₃ ≡ precondition_sets most_conditions (gates_in quads count) wanted ++ replicate (256 - count) 0
unfolding pass_gates precondition_sets numbers
found_needed quads ranks wanted M₁ M₂ M₃ count p i e₁ e₂ e₃ =
    let C = gates_in quads count in
    let S = numbers most_settings (conditions C) in
    let n : length C ≡ count = gates_length quads count in
    let r : length C + (256 - count) ≡ 256 = omega (arith, p.room) in
    e₃ ∙ ap (pass_sets S C count)
    (e₂ ∙ sym (add_all_lem most_settings (conditions C) wanted (whole most_settings) M₁) ∙ ap (add_all S wanted (whole most_settings)) (e₁ ∙ ap (λ (k : ℕ). replicate k 0) (sym r)))
    ∙ ap (λ (k : ℕ). pass_sets S C k (add_all S wanted (whole most_settings) (replicate (length C + (256 - count)) 0))) (sym n)
    ∙ preconditions_room S C wanted p.earlier (λ g m. rw n (i g m)) (256 - count)

pub wanted_room : (quads ranks wanted : List ℕ) (count : ℕ) → Passable quads ranks count → Inside count wanted → Inside 256 wanted
wanted_room quads ranks wanted count p i a m = omega (arith, i a m, p.room)

-- Reading the sets: the first are the preconditions, and so is the set of each gate.

pub sets_length : (n : ℕ) (C : Gates) (wanted : List ℕ) → length (precondition_sets n C wanted) ≡ length C
unfolding precondition_sets preconditions
sets_length n C wanted =
    let S = numbers (2 ^ n) (conditions C) in
    let M = replicate (length C) S.empty in
    pass_length S C (length C) (add_all S wanted S.whole M) ∙ add_all_length S wanted S.whole M ∙ length-replicate (length C) S.empty
