-- The loop that lists the gates that a rule wants: at variable x, k gates are listed.
use Rattle.std.specs.Prelude.{ℕ, suc, ◌+◌, ◌≤◌, ◌<◌, ◌≡◌, refl, List, [], ◌∷◌, ◌++◌, map, Bool, true, false, not, length, get_or, set, take}
use Rattle.std.proofs.Common.{arith, sym, ap, ◌∙◌, length-set, take-suc-set}
use Rattle.std.proofs.lemmas.List.{map-append, take-set-le}
use Rattle.base.specs.Lists.{keep, upto}
use Rattle.base.specs.ListLaws.{keep_yes, keep_no}
use Rattle.rule.specs.Limits.{most_variables}
use Rattle.rule.specs.Header.{variables, working_at}
use Rattle.circuit_needed.specs.Needed.{wanted_among}

-- those of the first x variables
abbrev pub wanted_below : List ℕ → List ℕ → ℕ → List ℕ
wanted_below s outputs x = map (λ y. get_or outputs y 0) (keep (λ y. not (working_at s y)) (upto x))

-- loop invariant
pub record Listing (s outputs wanted : List ℕ) (x k : ℕ) : Type 0 where
  pub low : x ≤ variables s
  pub few : variables s ≤ most_variables
  pub room : length wanted ≡ most_variables
  pub so_far : k ≤ x
  pub listed : take k wanted ≡ wanted_below s outputs x

pub listing_start : (s outputs wanted : List ℕ) → variables s ≤ most_variables → length wanted ≡ most_variables → Listing s outputs wanted 0 0
listing_start s outputs wanted f r = record { low = omega arith; few = f; room = r; so_far = omega arith; listed = refl }

-- one variable more: its gate is put down behind those listed, and stays if it is a result
module _ (s outputs wanted : List ℕ) (x k : ℕ) (b : Bool) (i : Listing s outputs wanted x k) (l : x < variables s) (e : b ≡ working_at s x) where
  pub listing_result : b ≡ false → Listing s outputs (set wanted k (get_or outputs x 0)) (x + 1) (k + 1)
  listing_result f =
      let n : k + 1 ≡ suc k = omega arith in
      let r : k < length wanted = omega (arith, i.room, i.so_far, i.few) in
      record {
        low = omega arith;
        few = i.few;
        room = length-set wanted k _ ∙ i.room;
        so_far = omega (arith, i.so_far);
        listed = rw n (take-suc-set wanted k (get_or outputs x 0) r)
            ∙ ap (λ (z : List ℕ). z ++ (get_or outputs x 0 ∷ [])) i.listed
            ∙ sym (map-append (λ y. get_or outputs y 0) (keep (λ y. not (working_at s y)) (upto x)) (x ∷ []))
            ∙ ap (map (λ y. get_or outputs y 0)) (sym (keep_yes (λ y. not (working_at s y)) x (ap not (sym e ∙ f))));
      }

  pub listing_working : b ≡ true → Listing s outputs (set wanted k (get_or outputs x 0)) (x + 1) k
  listing_working t =
      record {
        low = omega arith;
        few = i.few;
        room = length-set wanted k _ ∙ i.room;
        so_far = omega (arith, i.so_far);
        listed = take-set-le k wanted k _ (omega arith) ∙ i.listed
            ∙ ap (map (λ y. get_or outputs y 0)) (sym (keep_no (λ y. not (working_at s y)) x (ap not (sym e ∙ t))));
      }

pub listing_end : (s outputs wanted : List ℕ) (x k : ℕ) → Listing s outputs wanted x k → variables s ≤ x
    → (take k wanted ≡ wanted_among s outputs) × (k ≤ length wanted)
listing_end s outputs wanted x k i l =
    let e : x ≡ variables s = omega (arith, i.low) in
    (i.listed ∙ ap (wanted_below s outputs) e, omega (arith, i.few, i.low, i.so_far, i.room))
