-- The condition gates listed for a gate: few, gates of the circuit, and just those that it rests on.
use Rattle.std.specs.Prelude.{◌≡◌, refl, true, false, not, List, map, ◌⊎◌, ◌↔◌, ℕ, ◌^◌, ◌≤◌, ◌<◌, length}
use Rattle.std.proofs.Math.Path.{sym}
use Rattle.std.proofs.Common.{ap, ◌∙◌, true≢false, inl, inr, arith}
use Rattle.std.proofs.Math.Bool.{Bool}
use Rattle.std.proofs.Math.ListN.{get_or, length-map, get_or-eq_default}
use Rattle.base.specs.Lists.{◌∈◌, upto}
use Rattle.base.specs.ListLaws.{length_from, map_same, inside_list, length_keep}
use Rattle.base.specs.MemberLaws.{keep_in, keep_from, from_below, map_in, get_or_in}
use Rattle.base.specs.TestLaws.{split, same?}
use Rattle.base.specs.Bits.{unlike}
use Rattle.base.specs.Settings.{Setting, setting_of, flip, moves, pre_rests_on, pre_rests}
use Rattle.base.specs.Sets.{rests_on, rests}
use Rattle.base.specs.SettingListLaws.{any_below_some}
use Rattle.base.specs.SettingLaws.{put_same, put_other}
use Rattle.base.specs.RestLaws.{unmoved}
use Rattle.base.specs.HoldLaws.{rests_places}
use Rattle.circuit.specs.Gates.{Gates, Earlier, conditions}
use Rattle.circuit.specs.ConditionLaws.{condition_below}
use Rattle.circuit.specs.Limits.{most_conditions}
use Rattle.circuit_needed.specs.Needed.{Needed}
use Rattle.circuit_needed.specs.Pass.{needed, precondition_sets, precondition_of}
use Rattle.circuit_needed.specs.PassLaws.{needed_sound, needed_complete}
use Rattle.circuit_needed.specs.PreconditionLaws.{needed_over, precondition_holds}
use Rattle.plan.specs.Groups.{RestsOn, rests_of}

-- for any sets of settings
module _ (C : Gates) (sets : List ℕ) where
  -- a condition by its place, in a circuit that has a gate
  place_inside : (t : ℕ) → 0 < length C → get_or (conditions C) t 0 < length C
  place_inside t h = go (inside_list (conditions C) t)
    where
      go : (t < length (conditions C)) ⊎ (length (conditions C) ≤ t) → get_or (conditions C) t 0 < length C
      go (inl l) = condition_below C (get_or (conditions C) t 0) (get_or_in (conditions C) t l)
      go (inr l) = rw (get_or-eq_default (conditions C) 0 {n = t} l) h

  pub rests_inside : (m c : ℕ) → 0 < length C → c ∈ rests_of C sets m → c < length C
  unfolding rests_of
  rests_inside m c h k = let r = map_in (λ t. get_or (conditions C) t 0) c (rests most_conditions (get_or sets m 0)) k in rw r.2 (place_inside r.0 h)

  -- as many as the set rests on
  pub rests_count : (m : ℕ) → length (rests_of C sets m) ≡ length (rests most_conditions (get_or sets m 0))
  unfolding rests_of
  rests_count m = length-map (rests most_conditions (get_or sets m 0)) (λ t. get_or (conditions C) t 0)

  pub rests_few : (m : ℕ) → length (rests_of C sets m) ≤ most_conditions
  unfolding rests_of rests
  rests_few m = rw length-map (rw (length_from 0 most_conditions) at (length_keep (rests_on most_conditions (get_or sets m 0)) (upto most_conditions)))

  -- the list as one reads it in an array that gives condition t's gate at place t
  pub rests_held : (conds : List ℕ) → ((t : ℕ) → t < most_conditions → get_or conds t 0 ≡ get_or (conditions C) t 0) → (m : ℕ)
      → rests_of C sets m ≡ map (λ t. get_or conds t 0) (rests most_conditions (get_or sets m 0))
  unfolding rests_of rests
  rests_held conds held m =
      map_same (λ t. get_or (conditions C) t 0) (λ t. get_or conds t 0) (rests most_conditions (get_or sets m 0))
      (λ t k. sym (held t (omega (arith, from_below 0 most_conditions t (keep_from (rests_on most_conditions (get_or sets m 0)) (upto most_conditions) t k).0))))

-- a condition changed twice is as it was
flip_flip : (σ : Setting) (c d : ℕ) → flip (flip σ c) c d ≡ σ d
flip_flip σ c d = go (same? d c)
  where
    twice : (b : Bool) → not (not b) ≡ b
    twice true = refl
    twice false = refl

    go : (d ≡ c) ⊎ (d ≡ c → ⊥) → flip (flip σ c) c d ≡ σ d
    go (inl e) = put_same (flip σ c) c _ d e ∙ ap not (put_same σ c (not (σ c)) c refl) ∙ twice (σ c) ∙ ap σ (sym e)
    go (inr n) = put_other (flip σ c) c _ d n ∙ put_other σ c (not (σ c)) d n

unlike_true : (b : Bool) → unlike true b ≡ true → b ≡ false
unlike_true true h = sym h
unlike_true false h = refl

unlike_false : (b : Bool) → unlike false b ≡ true → b ≡ true
unlike_false true h = refl
unlike_false false h = h

module _ (C : Gates) (wanted : List ℕ) (earlier : Earlier C) (inside : (g : ℕ) → g ∈ wanted → g < length C) (few : length (conditions C) ≤ most_conditions) where
  -- the condition gates listed for m are those that its being needed rests on
  pub rests_list : (m : ℕ) → rests_of C (precondition_sets most_conditions C wanted) m ≡ pre_rests (needed C wanted m) (conditions C)
  unfolding rests_of
  rests_list m = sym (rests_places most_conditions (precondition_of most_conditions C wanted m) (conditions C) (needed C wanted m)
      (precondition_holds C wanted earlier inside most_conditions few m))

  unneeded : (σ : Setting) (m : ℕ) → needed C wanted m σ ≡ false → Needed C wanted σ m → ⊥
  unneeded σ m f n = true≢false (sym (needed_complete C wanted σ earlier inside m n) ∙ f)

  -- the condition gates listed for m are those that it rests on
  pub rests_right : (m c : ℕ) → (c ∈ rests_of C (precondition_sets most_conditions C wanted) m) ↔ RestsOn C wanted m c
  unfolding pre_rests_on
  rests_right m c = (λ k. to (keep_from (pre_rests_on (needed C wanted m) (conditions C)) (conditions C) c (rw (rests_list m) at k)), back)
    where
      P : Setting → Bool
      P = needed C wanted m

      to : (c ∈ conditions C) × (pre_rests_on P (conditions C) c ≡ true) → RestsOn C wanted m c
      to (k, t) =
          let r = any_below_some (moves P (conditions C) c) (2 ^ length (conditions C)) t in
          let σ : Setting = setting_of (conditions C) r.0 in
          split (P σ)
          (λ y. (k, σ, needed_sound C wanted σ m y, unneeded (flip σ c) m (unlike_true (P (flip σ c)) (ap (λ (b : Bool). unlike b (P (flip σ c))) (sym y) ∙ r.2))))
          (λ y. (
            k,
            flip σ c,
            needed_sound C wanted (flip σ c) m (unlike_false (P (flip σ c)) (ap (λ (b : Bool). unlike b (P (flip σ c))) (sym y) ∙ r.2)),
            unneeded (flip (flip σ c) c) m (needed_over C wanted earlier inside m (flip (flip σ c) c) σ (λ d _. flip_flip σ c d) ∙ y),
          ))

      back : RestsOn C wanted m c → c ∈ rests_of C (precondition_sets most_conditions C wanted) m
      back (k, σ, n, x) =
          rw (rests_list m)
          (keep_in (pre_rests_on P (conditions C)) (conditions C) c k
          (split (pre_rests_on P (conditions C) c) (λ t. t)
          (λ f. absurd (x (needed_sound C wanted (flip σ c) m
          (unmoved P (conditions C) (needed_over C wanted earlier inside m) c f σ (not (σ c)) ∙ needed_complete C wanted σ earlier inside m n))))))
