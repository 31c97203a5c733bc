-- The rows 20 to 29 and 32: their tests reflect what the rows say of a plan's groups. Facts alike for all costly operations are proved over the operation.
use Rattle.std.specs.Prelude.{◌≡◌, refl, Bool, true, false, not, List, [], ◌∷◌, ◌↔◌, ℕ, zero, suc, ◌≤◌, leb, ltb, length}
use Rattle.std.proofs.lemmas.Bool.{false≢true}
use Rattle.std.proofs.Common.{inl, inr, eqb-true, eq-eqb, leb-true, le-leb, ltb-true, lt-ltb}
use Rattle.base.specs.Lists.{elem, every}
use Rattle.base.specs.MemberLaws.{elem→∈, ∈→elem, every_right, inside_right}
use Rattle.base.specs.TestLaws.{split, both, and}
use Rattle.plan.specs.PlanFile.{Plan, after, EachGroup, Above, Rising, Listed, Apart, Ends, ends}
use Rattle.plan.specs.Rows.{every_group, above, rises, listed, apart}
use Rattle.plan.specs.Accepted.{Exist}

-- of all groups
pub each_right : (t : List ℕ → Bool) (P : List ℕ → Type 0) → ((G : List ℕ) → (t G ≡ true) ↔ P G) → (Gs : Plan) → (every_group t Gs ≡ true) ↔ EachGroup P Gs
each_right t P f Gs = (to Gs, back Gs)
  where
    to : (Gs : Plan) → every_group t Gs ≡ true → EachGroup P Gs
    to [] h = tt
    to (G ∷ Gs) h = let r = both (t G) _ h in ((f G).0 r.0, to Gs r.1)

    back : (Gs : Plan) → EachGroup P Gs → every_group t Gs ≡ true
    back [] h = refl
    back (G ∷ Gs) (p, h) = and ((f G).1 p) (back Gs h)

-- 23
pub ends_right : (n : ℕ) (p : List ℕ) (at : ℕ) → (ends n p at ≡ true) ↔ Ends n p at
ends_right n p at = (to n at, back n at)
  where
    to : (n at : ℕ) → ends n p at ≡ true → Ends n p at
    to zero at h = eqb-true at (length p) h
    to (suc n) at h = let r = both (leb (after p at) (length p)) _ h in (leb-true (after p at) (length p) r.0, to n (after p at) r.1)

    back : (n at : ℕ) → Ends n p at → ends n p at ≡ true
    back zero at h = eq-eqb at (length p) h
    back (suc n) at (l, h) = and (le-leb (after p at) (length p) l) (back n (after p at) h)

-- 24
pub joins_right : (G : List ℕ) → (leb 2 (length G) ≡ true) ↔ (2 ≤ length G)
joins_right G = (leb-true 2 (length G), le-leb 2 (length G))

-- 25 and 32
pub rises_right : (G : List ℕ) → (rises G ≡ true) ↔ Rising G
rises_right G = (to G, back G)
  where
    to_above : (m : ℕ) (l : List ℕ) → above m l ≡ true → Above m l
    to_above m [] h = tt
    to_above m (k ∷ l) h = ltb-true m k h

    to : (G : List ℕ) → rises G ≡ true → Rising G
    to [] h = tt
    to (m ∷ l) h = let r = both (above m l) _ h in (to_above m l r.0, to l r.1)

    back_above : (m : ℕ) (l : List ℕ) → Above m l → above m l ≡ true
    back_above m [] h = refl
    back_above m (k ∷ l) h = lt-ltb m k h

    back : (G : List ℕ) → Rising G → rises G ≡ true
    back [] h = refl
    back (m ∷ l) (a, h) = and (back_above m l a) (back l h)

pub exist_right : (n : ℕ) (G : List ℕ) → (every (λ g. ltb g n) G ≡ true) ↔ Exist n G
exist_right = inside_right

-- 26
listed_right : (Gs : Plan) (g : ℕ) → (listed Gs g ≡ true) ↔ Listed Gs g
listed_right Gs g = (to Gs, back Gs)
  where
    to : (Gs : Plan) → listed Gs g ≡ true → Listed Gs g
    to [] h = false≢true h
    to (G ∷ Gs) h = split (elem g G) (λ t. inl (elem→∈ g G t)) (λ t. inr (to Gs (rw t at h)))

    back : (Gs : Plan) → Listed Gs g → listed Gs g ≡ true
    back [] h = absurd h
    back (G ∷ Gs) (inl m) = rw (∈→elem g G m)
    back (G ∷ Gs) (inr h) = split (elem g G) (λ t. rw t) (λ t. rw t (back Gs h))

pub apart_right : (Gs : Plan) → (apart Gs ≡ true) ↔ Apart Gs
apart_right Gs = (to Gs, back Gs)
  where
    no : (b : Bool) → not b ≡ true → b ≡ true → ⊥
    no true h e = false≢true h
    no false h e = false≢true e

    yes : (b : Bool) → (b ≡ true → ⊥) → not b ≡ true
    yes true f = absurd (f refl)
    yes false f = refl

    to : (Gs : Plan) → apart Gs ≡ true → Apart Gs
    to [] h = tt
    to (G ∷ Gs) h =
        let r = both (every (λ g. not (listed Gs g)) G) _ h in
        (λ g m l. no (listed Gs g) ((every_right (λ k. not (listed Gs k)) G).0 r.0 g m) ((listed_right Gs g).1 l), to Gs r.1)

    back : (Gs : Plan) → Apart Gs → apart Gs ≡ true
    back [] h = refl
    back (G ∷ Gs) (d, h) = and ((every_right (λ k. not (listed Gs k)) G).1 (λ g m. yes (listed Gs g) (λ t. d g m ((listed_right Gs g).0 t)))) (back Gs h)
