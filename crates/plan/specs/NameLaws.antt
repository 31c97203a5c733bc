-- Joined gates and the names of their groups: a plan joins two gates exactly when they have one group; plans that form the same groups, in whatever
-- order, name the gates alike (document 02, C-15).
use Rattle.std.specs.Prelude.{◌≡◌, List, [], ◌∷◌, ◌⊎◌, ◌↔◌, ℕ, ◌≤◌, length}
use Rattle.std.proofs.Common.{sym, inl, inr, arith}
use Rattle.base.specs.Lists.{elem}
use Rattle.base.specs.MemberLaws.{elem→∈, ∈→elem}
use Rattle.base.specs.TestLaws.{split, same?}
use Rattle.plan.specs.PlanFile.{Plan, groups_in, EachGroup, Listed, Apart}
use Rattle.plan.specs.Groups.{group_of, Named}
use Rattle.plan.specs.Accepted.{LaidOut}
use Rattle.plan.specs.SameGroups.{Joined, SameGroups}
use Rattle.plan.specs.GroupLaws.{group_of_named}
use Rattle.plan.specs.JoinedLaws.{foreign}

-- joined gates are listed
joined_listed : (Gs : Plan) (g h : ℕ) → Joined Gs g h → Listed Gs g × Listed Gs h
joined_listed [] g h j = absurd j
joined_listed (G ∷ Gs) g h (inl (m, k)) = (inl m, inl k)
joined_listed (G ∷ Gs) g h (inr j) = let r = joined_listed Gs g h j in (inr r.0, inr r.1)

-- a plan joins two gates exactly when they have one group
pub joined_groups : (Gs : Plan) → EachGroup (λ G. 2 ≤ length G) Gs → Apart Gs → (g h : ℕ) → (g ≡ h → ⊥) → Joined Gs g h ↔ (group_of Gs g ≡ group_of Gs h)
joined_groups Gs o a g h n = (to Gs a, back Gs o a)
  where
    to : (Gs : Plan) → Apart Gs → Joined Gs g h → group_of Gs g ≡ group_of Gs h
    to [] a j = absurd j
    to (G ∷ Gs) (d, a) (inl (m, k)) = rw (∈→elem g G m, ∈→elem h G k)
    to (G ∷ Gs) (d, a) (inr j) =
        split (elem g G) (λ t. absurd (d g (elem→∈ g G t) (joined_listed Gs g h j).0))
        (λ t. split (elem h G) (λ u. absurd (d h (elem→∈ h G u) (joined_listed Gs g h j).1)) (λ u. rw (t, u) (to Gs a j)))

    back : (Gs : Plan) → EachGroup (λ G. 2 ≤ length G) Gs → Apart Gs → group_of Gs g ≡ group_of Gs h → Joined Gs g h
    back [] o a e = absurd (n e)
    back (G ∷ Gs) (o, u) (d, a) e =
        split (elem g G)
        (λ t. split (elem h G) (λ w. inl (elem→∈ g G t, elem→∈ h G w)) (λ w. absurd (foreign G Gs o d u h w (sym (rw (t, w) at e)))))
        (λ t. split (elem h G) (λ w. absurd (foreign G Gs o d u g t (rw (t, w) at e))) (λ w. inr (back Gs u a (rw (t, w) at e))))

-- what P joins, Q joins
abbrev JoinsAll : Plan → Plan → Type 0
JoinsAll P Q = (g h : ℕ) → (g ≡ h → ⊥) → Joined P g h → Joined Q g h

names_above : (s p q : List ℕ) → LaidOut s p → LaidOut s q → Apart (groups_in p) → Apart (groups_in q) → JoinsAll (groups_in p) (groups_in q)
    → (g : ℕ) → group_of (groups_in q) g ≤ group_of (groups_in p) g
names_above s p q l m a b to g = go (same? name g)
  where
    name : ℕ
    name = group_of (groups_in p) g

    named : Named (group_of (groups_in q))
    named = group_of_named (groups_in q) m.joins m.rising b

    go : (name ≡ g) ⊎ (name ≡ g → ⊥) → group_of (groups_in q) g ≤ name
    go (inl e) = omega (arith, (named g).0)
    go (inr n) =
        let j = (joined_groups (groups_in p) l.joins a name g n).1 (group_of_named (groups_in p) l.joins l.rising a g).1 in
        let e = (joined_groups (groups_in q) m.joins b name g n).0 (to name g n j) in
        omega (arith, (named name).0)

-- two plans that are laid out, name gates once and form the same groups, in whatever order, have one map from gates to groups
pub same_names : (s p q : List ℕ) → LaidOut s p → LaidOut s q → Apart (groups_in p) → Apart (groups_in q) → SameGroups (groups_in p) (groups_in q)
    → (g : ℕ) → group_of (groups_in p) g ≡ group_of (groups_in q) g
same_names s p q l m a b same g =
    omega (arith, names_above s p q l m a b (λ x y n. (same x y n).0) g, names_above s q p m l b a (λ x y n. (same x y n).1) g)
