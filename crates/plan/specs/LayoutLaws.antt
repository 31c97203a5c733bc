-- Layout: a plan that is laid out is, byte for byte, its gate count and its groups put together.
use Rattle.std.specs.Prelude.{◌≡◌, refl, ℕ, zero, suc, ◌+◌, ◌*◌, ◌≤◌, length, drop, get_or}
use Rattle.std.proofs.Math.Path.{sym, ap₂}
use Rattle.std.proofs.Common.{ap, ◌∙◌, arith, add-one, take-append-drop, drop-cons}
use mathlib.Core.List.{List, ◌∷◌, ◌++◌, append_assoc}
use Rattle.std.proofs.Math.Seq.{drop-length}
use Rattle.base.specs.Lists.{flat}
use Rattle.base.specs.Numbers.{bytes_of, number_at, Bytes}
use Rattle.base.specs.NumberLaws.{number_back}
use Rattle.circuit.specs.PlainCircuit.{gate_count}
use Rattle.plan.specs.PlanFile.{groups_counted, numbers_at, group_at, after, groups_from, groups_in, Ends}
use Rattle.plan.specs.Limits.{least_plan_bytes}
use Rattle.plan.specs.Accepted.{LaidOut}
use Rattle.plan.specs.Layout.{groups_bytes, plan_bytes}

-- as many as were asked for
pub length_numbers : (n : ℕ) (p : List ℕ) (at : ℕ) → length (numbers_at n p at) ≡ n
length_numbers zero p at = refl
length_numbers (suc n) p at = ap suc (length_numbers n p (at + 2))

length_groups : (n : ℕ) (p : List ℕ) (at : ℕ) → length (groups_from n p at) ≡ n
length_groups zero p at = refl
length_groups (suc n) p at = ap suc (length_groups n p (after p at))

module _ (p : List ℕ) (bytes : Bytes p) where
  -- two bytes, read and written again
  two_bytes : (at : ℕ) → at + 2 ≤ length p → drop at p ≡ bytes_of 2 (number_at 2 p at) ++ drop (at + 2) p
  two_bytes at h = number_back 2 p at bytes h

  numbers_bytes : (n at : ℕ) → at + 2 * n ≤ length p → drop at p ≡ flat (bytes_of 2) (numbers_at n p at) ++ drop (at + 2 * n) p
  numbers_bytes zero at h = let e : at ≡ at + 2 * 0 = omega arith in ap (λ (k : ℕ). drop k p) e
  numbers_bytes (suc n) at h =
      let e : at + 2 + 2 * n ≡ at + 2 * suc n = omega arith in
      two_bytes at (omega arith)
      ∙ ap (λ (r : List ℕ). bytes_of 2 (number_at 2 p at) ++ r)
      (numbers_bytes n (at + 2) (omega arith) ∙ ap (λ (k : ℕ). flat (bytes_of 2) (numbers_at n p (at + 2)) ++ drop k p) e)
      ∙ sym (append_assoc (bytes_of 2 (number_at 2 p at)) (flat (bytes_of 2) (numbers_at n p (at + 2))) (drop (at + 2 * suc n) p))

  groups_bytes_lem : (n at : ℕ) → Ends n p at → drop at p ≡ groups_bytes (groups_from n p at)
  groups_bytes_lem zero at e = ap (λ (k : ℕ). drop k p) e ∙ drop-length p
  groups_bytes_lem (suc n) at (l, e) =
      drop-cons p at 0 (omega arith)
      ∙ ap₂ (λ (a : ℕ) (r : List ℕ). a ∷ r) (sym (length_numbers (get_or p at 0) p (at + 1)))
      (ap (λ (k : ℕ). drop k p) (sym (add-one at))
      ∙ numbers_bytes (get_or p at 0) (at + 1) l
      ∙ ap (λ (r : List ℕ). flat (bytes_of 2) (group_at p at) ++ r) (groups_bytes_lem n (after p at) e))

  -- the bytes of a laid out plan
  pub laid_bytes : (s : List ℕ) → LaidOut s p → p ≡ plan_bytes (gate_count s) (groups_in p)
  unfolding groups_in
  laid_bytes s l =
      sym (take-append-drop 5 p)
      ∙ ap₂ (λ (a b : List ℕ). a ++ b) l.marked
      (two_bytes 5 (omega (arith, l.least))
      ∙ ap₂ (λ (a b : List ℕ). a ++ b) (ap (bytes_of 2) l.counted)
      (two_bytes 7 (omega (arith, l.least))
      ∙ ap₂ (λ (a b : List ℕ). a ++ b) (ap (bytes_of 2) (sym (length_groups (groups_counted p) p least_plan_bytes)))
      (groups_bytes_lem (groups_counted p) least_plan_bytes l.ended)))
