-- Waits: the groups listed for a group are those that it waits for;
-- so the order of writing places every group exactly when no group waits for itself by a chain.
use Rattle.std.specs.Prelude.{◌≡◌, true, false, cond, ◌⊎◌, ◌↔◌, leb, length}
use Rattle.std.proofs.Common.{sym, ◌∙◌, true≢false, inl, inr, leb-true}
use mathlib.Core.List.{List, [], map}
use Prim.Native.Nat.{ℕ, ◌≤◌, ◌<◌}
use Rattle.base.specs.Lists.{◌∈◌, elem, flat}
use Rattle.base.specs.MemberLaws.{∈→elem, flat_in, map_in, append_in}
use Rattle.base.specs.TestLaws.{split}
use Rattle.base.specs.Settings.{Once}
use Rattle.circuit.specs.Gates.{Gates, gate_at, arguments, Earlier, conditions}
use Rattle.circuit.specs.Limits.{most_conditions}
use Rattle.circuit_needed.specs.Pass.{precondition_sets}
use Rattle.plan.specs.Groups.{Named, groups, members, RestsOn, Waits, Chain, one, more, rests_of, reads_of, waits_for}
use Rattle.plan.specs.Order.{order, Ordered}
use Rattle.plan.specs.Rows.{placed}
use Rattle.plan.specs.Accepted.{NoCircle}
use Rattle.plan.specs.CircleLaws.{all_in_each, all_in_back, missing}
use Rattle.plan.specs.OrderLaws.{schedule_or, schedule_all, schedule_ordered, schedule_from, schedule_once}
use Rattle.plan.specs.GroupLaws.{group_in, of_member}
use Rattle.plan.specs.RestLaws.{rests_right}
use Rattle.plan.specs.ReadsLaws.{waits_argument, waits_rests, waits_closed}

-- a chain of one relation is one of a wider relation
pub chain_map : {R S : ℕ → ℕ → Type 0} → ((p q : ℕ) → R p q → S p q) → {p q : ℕ} → Chain R p q → Chain S p q
chain_map f (one r) = one (f _ _ r)
chain_map f (more r c) = more (f _ _ r) (chain_map f c)

module _ (C : Gates) (wanted : List ℕ) (earlier : Earlier C) (inside : (g : ℕ) → g ∈ wanted → g < length C) (few : length (conditions C) ≤ most_conditions)
    (group : ℕ → ℕ) where
  abbrev sets : List ℕ
  sets = precondition_sets most_conditions C wanted

  -- the groups listed for p are those that it waits for
  pub waits_right : (p q : ℕ) → (q ∈ waits_for C (precondition_sets most_conditions C wanted) group p) ↔ Waits C wanted group p q
  unfolding waits_for
  waits_right p q = (to, back)
    where
      ms : List ℕ
      ms = members (length C) group p

      of : (m a : ℕ) → (a ∈ arguments (gate_at C m)) ⊎ (a ∈ cond (leb 2 (length ms)) (rests_of C sets m) [])
          → (a ∈ arguments (gate_at C m)) ⊎ ((2 ≤ length ms) × RestsOn C wanted m a)
      of m a (inl k) = inl k
      of m a (inr k) = split (leb 2 (length ms)) (λ t. inr (leb-true 2 (length ms) t, (rests_right C wanted earlier inside few m a).0 (rw t at k)))
          (λ t. absurd (rw t at k))

      to : q ∈ map group (flat (reads_of C sets ms) ms) → Waits C wanted group p q
      to h =
          let r = map_in group q (flat (reads_of C sets ms) ms) h in
          let s = flat_in (reads_of C sets ms) r.0 ms r.1 in
          (s.0, s.1, r.0, r.2, of s.0 r.0 (append_in r.0 (arguments (gate_at C s.0)) (cond (leb 2 (length ms)) (rests_of C sets s.0) []) s.2))

      back : Waits C wanted group p q → q ∈ map group (flat (reads_of C sets ms) ms)
      back (m, h, a, e, inl k) = rw e (waits_argument C sets group p m a h k)
      back (m, h, a, e, inr (l, k)) = rw e (waits_rests C sets group p m a h l ((rests_right C wanted earlier inside few m a).1 k))

  -- what waits is a group
  pub waiting_group : Named group → (p q : ℕ) → Waits C wanted group p q → p ∈ groups (length C) group
  waiting_group named p q (m, h, _, _, _) =
      let s = of_member (length C) group m p h in
      rw s.1 at (group_in (length C) group named m s.0)

  -- the order of writing places every group exactly when no group waits for itself by a chain of one or more waits
  pub order_places : Named group
      → ((p : ℕ) → p ∈ groups (length C) group → p ∈ order C (precondition_sets most_conditions C wanted) group) ↔ NoCircle C wanted group
  unfolding order
  order_places named = (to, back)
    where
      all : ((p : ℕ) → p ∈ groups (length C) group → Chain (λ x y. y ∈ waits_for C sets group x) p p → ⊥)
          ↔ ((p : ℕ) → p ∈ groups (length C) group → p ∈ order C sets group)
      all = schedule_all (waits_for C sets group) (groups (length C) group) (λ p q _ h. waits_closed C earlier sets group (λ x _. named x) p q h)

      begins : (p q : ℕ) → Chain (Waits C wanted group) p q → p ∈ groups (length C) group
      begins p q (one w) = waiting_group named p q w
      begins p q (more {q = r} w _) = waiting_group named p r w

      to : ((p : ℕ) → p ∈ groups (length C) group → p ∈ order C sets group) → NoCircle C wanted group
      to places p c = all.1 places p (begins p p c) (chain_map (λ x y w. (waits_right x y).1 w) c)

      back : NoCircle C wanted group → (p : ℕ) → p ∈ groups (length C) group → p ∈ order C sets group
      back free = all.0 (λ p _ c. free p (chain_map (λ x y h. (waits_right x y).0 h) c))

  -- 30
  pub placed_right : Named group → (placed C (precondition_sets most_conditions C wanted) group ≡ true) ↔ NoCircle C wanted group
  unfolding placed
  placed_right named = (
    λ t. (order_places named).0 (all_in_each (groups (length C) group) (order C sets group) t),
    λ free. all_in_back (groups (length C) group) (order C sets group) ((order_places named).1 free),
  )

  -- so where 30 is answered there is such a group
  pub circle_found : Named group → placed C (precondition_sets most_conditions C wanted) group ≡ false → (p : ℕ) × Chain (Waits C wanted group) p p
  unfolding order placed
  circle_found named t = let (q, m, f) = missing gs (order C sets group) t in go q f (all q m)
    where
      gs : List ℕ
      gs = groups (length C) group

      all : (q : ℕ) → q ∈ gs → (q ∈ order C sets group) ⊎ ((u : ℕ) × (u ∈ gs) × Chain (λ x y. y ∈ waits_for C sets group x) u u)
      all = schedule_or (waits_for C sets group) gs (λ p q _ h. waits_closed C earlier sets group (λ x _. named x) p q h)

      go : (q : ℕ) → elem q (order C sets group) ≡ false → (q ∈ order C sets group) ⊎ ((u : ℕ) × (u ∈ gs) × Chain (λ x y. y ∈ waits_for C sets group x) u u)
          → (p : ℕ) × Chain (Waits C wanted group) p p
      go q f (inl m) = absurd (true≢false (sym (∈→elem q (order C sets group) m) ∙ f))
      go q f (inr (u, _, c)) = (u, chain_map (λ x y h. (waits_right x y).0 h) c)

-- what the order of writing places: each group after those that it waits for, groups only, each once
module _ (C : Gates) (sets : List ℕ) (group : ℕ → ℕ) where
  pub order_ordered : Ordered (waits_for C sets group) (order C sets group)
  unfolding order
  order_ordered = schedule_ordered (waits_for C sets group) (groups (length C) group) (length (groups (length C) group)) [] tt

  pub order_from : (p : ℕ) → p ∈ order C sets group → p ∈ groups (length C) group
  unfolding order
  order_from = schedule_from (waits_for C sets group) (groups (length C) group) (length (groups (length C) group)) [] (λ q z. absurd z)

  pub order_once : Once (order C sets group)
  unfolding order
  order_once = schedule_once (waits_for C sets group) (groups (length C) group) (length (groups (length C) group)) [] tt
