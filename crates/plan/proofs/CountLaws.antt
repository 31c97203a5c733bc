-- No group stands twice, and there are at most as many as gates; the order of writing is no longer than that, and as long as their list where it places every group.
use Rattle.std.specs.Prelude.{ℕ, suc, ◌≤◌, ◌≡◌, refl, true, cond, List, [], ◌∷◌, eqb, length}
use Rattle.std.proofs.Common.{sym, ap, ◌∙◌, inl, inr, eq-eqb, eqb-true}
use native.Mathlib.Omega.{arith}
use Rattle.base.specs.Lists.{◌∈◌, upto}
use Rattle.base.specs.ListLaws.{length_from, length_keep}
use Rattle.base.specs.TestLaws.{split}
use Rattle.base.specs.Settings.{Once}
use Rattle.base.specs.SettingListLaws.{keep_once, from_once}
use Rattle.circuit.specs.Gates.{Gates}
use Rattle.plan.specs.Groups.{groups}
use Rattle.plan.specs.Order.{order}
use Rattle.plan.specs.Rows.{placed}
use Rattle.plan.specs.CircleLaws.{all_in_each}
use Rattle.plan.proofs.WaitLaws.{order_from, order_once}

-- Lists without repetition: one that lies in another is no longer.

-- the list without the first place where a stands
abbrev remove : ℕ → List ℕ → List ℕ
remove a [] = []
remove a (x ∷ l) = cond (eqb a x) l (x ∷ remove a l)

remove_length : (a : ℕ) (l : List ℕ) → a ∈ l → length l ≡ suc (length (remove a l))
remove_length a [] m = absurd m
remove_length a (x ∷ l) (inl e) = rw (eq-eqb a x e)
remove_length a (x ∷ l) (inr m) = split (eqb a x) (λ e. rw e) (λ e. rw e (ap suc (remove_length a l m)))

remove_keeps : (a b : ℕ) (l : List ℕ) → (b ≡ a → ⊥) → b ∈ l → b ∈ remove a l
remove_keeps a b [] n m = m
remove_keeps a b (x ∷ l) n (inl e) = split (eqb a x) (λ f. absurd (n (e ∙ sym (eqb-true a x f)))) (λ f. rw f (inl e))
remove_keeps a b (x ∷ l) n (inr m) = split (eqb a x) (λ f. rw f m) (λ f. rw f (inr (remove_keeps a b l n m)))

pub once_length : (l m : List ℕ) → Once l → ((a : ℕ) → a ∈ l → a ∈ m) → length l ≤ length m
once_length [] m o h = omega arith
once_length (x ∷ l) m (new, o) h =
    let k : length l ≤ length (remove x m) = once_length l (remove x m) o (λ a i. remove_keeps x a m (λ e. new (rw e at i)) (h a (inr i))) in
    omega (arith, remove_length x m (h x (inl refl)))

-- The groups.

pub groups_once : (n : ℕ) (group : ℕ → ℕ) → Once (groups n group)
unfolding groups
groups_once n group = keep_once (λ p. eqb (group p) p) (upto n) (from_once 0 n)

pub groups_most : (n : ℕ) (group : ℕ → ℕ) → length (groups n group) ≤ n
unfolding groups
groups_most n group = omega (arith, length_keep (λ p. eqb (group p) p) (upto n), length_from 0 n)

-- The order.

module _ (C : Gates) (sets : List ℕ) (group : ℕ → ℕ) where
  order_most : length (order C sets group) ≤ length (groups (length C) group)
  order_most = once_length (order C sets group) (groups (length C) group) (order_once C sets group) (order_from C sets group)

  pub order_length : length (order C sets group) ≤ length C
  order_length = omega (arith, order_most, groups_most (length C) group)

  -- an order that places every group has as many
  pub placed_count : placed C sets group ≡ true → length (order C sets group) ≡ length (groups (length C) group)
  unfolding placed
  placed_count t =
      omega (
        arith,
        order_most,
        once_length (groups (length C) group) (order C sets group) (groups_once (length C) group) (all_in_each (groups (length C) group) (order C sets group) t),
      )
