-- Groups: they are named by their smallest member, and every gate's group is one of the groups.
use Rattle.std.specs.Prelude.{◌≡◌, false, List, [], ◌∷◌, ◌⊎◌, ℕ, ◌+◌, ◌≤◌, ◌<◌, length}
use Rattle.std.proofs.Math.Path.{refl}
use Rattle.std.proofs.Common.{inl, inr}
use native.Mathlib.Omega.{arith}
use Rattle.std.proofs.Math.Dec.{eqb}
use borrow.Author.Tests.{eqb-true, eq-eqb}
use Rattle.base.specs.Lists.{◌∈◌, elem, keep, upto}
use Rattle.base.specs.MemberLaws.{elem→∈, ∈→elem, keep_in, keep_from, from_in, from_below}
use Rattle.base.specs.TestLaws.{split}
use Rattle.plan.specs.PlanFile.{Plan, EachGroup, Above, Rising, Listed, Apart}
use Rattle.plan.specs.Groups.{smallest, group_of, Named, groups, members}

-- rising numbers: the first is the smallest
pub rising_first : (m : ℕ) (l : List ℕ) → Above m l → Rising l → (k : ℕ) → k ∈ l → m < k
rising_first m [] a r k h = absurd h
rising_first m (x ∷ l) a r k (inl e) = omega arith
rising_first m (x ∷ l) a (b, r) k (inr h) = omega (arith, rising_first x l b r k h)

pub smallest_in : (G : List ℕ) → 2 ≤ length G → smallest G ∈ G
smallest_in [] h = omega arith
smallest_in (m ∷ l) h = inl refl

smallest_le : (G : List ℕ) → Rising G → (g : ℕ) → g ∈ G → smallest G ≤ g
smallest_le [] r g m = absurd m
smallest_le (k ∷ l) r g (inl e) = omega arith
smallest_le (k ∷ l) (a, r) g (inr m) = omega (arith, rising_first k l a r g m)

-- a gate's group is its own number or a listed gate
pub group_of_kind : (Gs : Plan) → EachGroup (λ G. 2 ≤ length G) Gs → (g : ℕ) → (group_of Gs g ≡ g) ⊎ Listed Gs (group_of Gs g)
group_of_kind [] o g = inl refl
group_of_kind (G ∷ Gs) (s, o) g =
    split (elem g G) (λ t. rw t (inr (inl (smallest_in G s)))) (λ t. rw t (go (group_of_kind Gs o g)))
  where
    go : (group_of Gs g ≡ g) ⊎ Listed Gs (group_of Gs g) → (group_of Gs g ≡ g) ⊎ ((group_of Gs g ∈ G) ⊎ Listed Gs (group_of Gs g))
    go (inl e) = inl e
    go (inr h) = inr (inr h)

pub group_of_named : (Gs : Plan) → EachGroup (λ G. 2 ≤ length G) Gs → EachGroup Rising Gs → Apart Gs → Named (group_of Gs)
group_of_named [] o u a g = (omega arith, refl)
group_of_named (G ∷ Gs) (s, o) (r, u) (d, a) g =
    let ih : (group_of Gs g ≤ g) × (group_of Gs (group_of Gs g) ≡ group_of Gs g) = group_of_named Gs o u a g in
    split (elem g G)
    (λ t. rw t (smallest_le G r g (elem→∈ g G t), rw (∈→elem (smallest G) G (smallest_in G s))))
    (λ t. rw t (ih.0, rw (out t (group_of_kind Gs o g)) ih.1))
  where
    out : elem g G ≡ false → (group_of Gs g ≡ g) ⊎ Listed Gs (group_of Gs g) → elem (group_of Gs g) G ≡ false
    out t (inl e) = rw e t
    out t (inr h) = split (elem (group_of Gs g) G) (λ q. absurd (d (group_of Gs g) (elem→∈ (group_of Gs g) G q) h)) (λ q. q)

module _ (n : ℕ) (group : ℕ → ℕ) where
  -- of the gates those that name their own group
  pub groups_kept : groups n group ≡ keep (λ p. eqb (group p) p) (upto n)
  unfolding groups
  groups_kept = refl

  pub group_of_lem : (p : ℕ) → p ∈ groups n group → (p < n) × (group p ≡ p)
  unfolding groups
  group_of_lem p m =
      let r = keep_from (λ q. eqb (group q) q) (upto n) p m in
      let s : (0 ≤ p) × (p < 0 + n) = from_below 0 n p r.0 in
      (omega arith, eqb-true (group p) p r.1)

  pub group_in : Named group → (a : ℕ) → a < n → group a ∈ groups n group
  unfolding groups
  group_in named a l =
      let r : (group a ≤ a) × (group (group a) ≡ group a) = named a in
      keep_in (λ p. eqb (group p) p) (upto n) (group a) (from_in 0 n (group a) (omega arith) (omega (arith, r.0))) (eq-eqb (group (group a)) (group a) r.1)

  pub member_of : (m p : ℕ) → m < n → group m ≡ p → m ∈ members n group p
  member_of m p l e = keep_in (λ g. eqb (group g) p) (upto n) m (from_in 0 n m (omega arith) (omega arith)) (eq-eqb (group m) p e)

  pub of_member : (m p : ℕ) → m ∈ members n group p → (m < n) × (group m ≡ p)
  of_member m p h =
      let r = keep_from (λ g. eqb (group g) p) (upto n) m h in
      let s : (0 ≤ m) × (m < 0 + n) = from_below 0 n m r.0 in
      (omega arith, eqb-true (group m) p r.1)
