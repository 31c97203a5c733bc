-- Membership, as a type and as a test, which reflects it: in what passes a test, in runs, in joined and mapped lists; numbers that all lie below a bound.
use Rattle.std.specs.Prelude.{◌≡◌, refl, Bool, true, cond, List, [], ◌∷◌, ◌++◌, map, ◌⊎◌, ◌↔◌, ℕ, zero, suc, ◌+◌, ◌≤◌, ◌<◌, eqb, ltb, length, get_or, set}
use Rattle.std.proofs.Common.{sym, ap, ◌∙◌, inl, inr, arith, eqb-true, eq-eqb, ltb-true, lt-ltb}
use Rattle.std.proofs.lemmas.Bool.{false≢true}
use Rattle.base.specs.Lists.{◌∈◌, elem, Inside, keep, from, flat, every, same}
use Rattle.base.specs.TestLaws.{split, same?, both, and}

-- the test says what the type says
pub elem→∈ : (a : ℕ) (l : List ℕ) → elem a l ≡ true → a ∈ l
elem→∈ a [] h = false≢true h
elem→∈ a (x ∷ l) h = split (eqb a x) (λ e. inl (eqb-true a x e)) (λ e. inr (elem→∈ a l (rw e at h)))

pub ∈→elem : (a : ℕ) (l : List ℕ) → a ∈ l → elem a l ≡ true
∈→elem a [] h = absurd h
∈→elem a (x ∷ l) (inl e) = rw (eq-eqb a x e)
∈→elem a (x ∷ l) (inr h) = split (eqb a x) (λ e. rw e) (λ e. rw e (∈→elem a l h))

-- one more
pub elem_more : (a : ℕ) (l : List ℕ) (x : ℕ) → elem a (l ++ (x ∷ [])) ≡ cond (eqb a x) true (elem a l)
elem_more a [] x = refl
elem_more a (y ∷ l) x = split (eqb a y) (λ t. rw t (split (eqb a x) (λ u. rw u) (λ u. rw u))) (λ t. rw t (elem_more a l x))

-- a number is kept exactly when it is in the list and passes
pub keep_in : (p : ℕ → Bool) (l : List ℕ) (a : ℕ) → a ∈ l → p a ≡ true → a ∈ keep p l
keep_in p [] a m h = m
keep_in p (b ∷ l) a (inl e) h = rw (ap p (sym e) ∙ h) (inl e)
keep_in p (b ∷ l) a (inr m) h = split (p b) (λ t. rw t (inr (keep_in p l a m h))) (λ t. rw t (keep_in p l a m h))

pub keep_from : (p : ℕ → Bool) (l : List ℕ) (a : ℕ) → a ∈ keep p l → (a ∈ l) × (p a ≡ true)
keep_from p [] a m = absurd m
keep_from p (b ∷ l) a m = split (p b) (λ t. yes_b t (λ k. keep_from p l a k) (rw t at m)) (λ t. later (keep_from p l a (rw t at m)))
  where
    later : (a ∈ l) × (p a ≡ true) → (a ∈ (b ∷ l)) × (p a ≡ true)
    later r = (inr r.0, r.1)

    yes_b : p b ≡ true → (a ∈ keep p l → (a ∈ l) × (p a ≡ true)) → a ∈ (b ∷ keep p l) → (a ∈ (b ∷ l)) × (p a ≡ true)
    yes_b t ih (inl e) = (inl e, ap p e ∙ t)
    yes_b t ih (inr k) = later (ih k)

-- a run holds exactly the numbers between its ends
pub from_in : (i n a : ℕ) → i ≤ a → a < i + n → a ∈ from i n
from_in i zero a h l = absurd (omega arith)
from_in i (suc n) a h l = go (same? a i) (λ k. from_in (suc i) n a k (omega arith))
  where
    go : (a ≡ i) ⊎ (a ≡ i → ⊥) → (suc i ≤ a → a ∈ from (suc i) n) → a ∈ from i (suc n)
    go (inl e) ih = inl e
    go (inr m) ih = inr (ih (omega arith))

pub from_below : (i n a : ℕ) → a ∈ from i n → (i ≤ a) × (a < i + n)
from_below i zero a m = absurd m
from_below i (suc n) a (inl e) = omega arith
from_below i (suc n) a (inr m) = let r : (suc i ≤ a) × (a < suc i + n) = from_below (suc i) n a m in omega arith

-- a member of two joined lists is one of either
pub in_append : (a : ℕ) (l m : List ℕ) → (a ∈ l) ⊎ (a ∈ m) → a ∈ (l ++ m)
in_append a [] m (inl h) = absurd h
in_append a [] m (inr h) = h
in_append a (x ∷ l) m (inl (inl e)) = inl e
in_append a (x ∷ l) m (inl (inr h)) = inr (in_append a l m (inl h))
in_append a (x ∷ l) m (inr h) = inr (in_append a l m (inr h))

pub append_in : (a : ℕ) (l m : List ℕ) → a ∈ (l ++ m) → (a ∈ l) ⊎ (a ∈ m)
append_in a [] m h = inr h
append_in a (x ∷ l) m (inl e) = inl (inl e)
append_in a (x ∷ l) m (inr h) = go (append_in a l m h)
  where
    go : (a ∈ l) ⊎ (a ∈ m) → (a ∈ (x ∷ l)) ⊎ (a ∈ m)
    go (inl k) = inl (inr k)
    go (inr k) = inr k

-- a member of a mapped list is the image of a member
pub in_map : (f : ℕ → ℕ) (a : ℕ) (l : List ℕ) → a ∈ l → f a ∈ map f l
in_map f a [] h = h
in_map f a (x ∷ l) (inl e) = inl (ap f e)
in_map f a (x ∷ l) (inr h) = inr (in_map f a l h)

pub map_in : (f : ℕ → ℕ) (b : ℕ) (l : List ℕ) → b ∈ map f l → (a : ℕ) × (a ∈ l) × (b ≡ f a)
map_in f b [] h = absurd h
map_in f b (x ∷ l) (inl e) = (x, inl refl, e)
map_in f b (x ∷ l) (inr h) = let r = map_in f b l h in (r.0, inr r.1, r.2)

-- a member of the joined lists is one of some list
pub in_flat : (f : ℕ → List ℕ) (b a : ℕ) (l : List ℕ) → a ∈ l → b ∈ f a → b ∈ flat f l
in_flat f b a [] m h = absurd m
in_flat f b a (x ∷ l) (inl e) h = in_append b (f x) (flat f l) (inl (rw e at h))
in_flat f b a (x ∷ l) (inr m) h = in_append b (f x) (flat f l) (inr (in_flat f b a l m h))

pub flat_in : (f : ℕ → List ℕ) (b : ℕ) (l : List ℕ) → b ∈ flat f l → (a : ℕ) × (a ∈ l) × (b ∈ f a)
flat_in f b [] h = absurd h
flat_in f b (x ∷ l) h = go (append_in b (f x) (flat f l) h) (λ k. flat_in f b l k)
  where
    go : (b ∈ f x) ⊎ (b ∈ flat f l) → (b ∈ flat f l → (a : ℕ) × (a ∈ l) × (b ∈ f a)) → (a : ℕ) × (a ∈ (x ∷ l)) × (b ∈ f a)
    go (inl k) ih = (x, inl refl, k)
    go (inr k) ih = let r = ih k in (r.0, inr r.1, r.2)

-- an element that is read at a place is a member
pub get_or_in : (l : List ℕ) (k : ℕ) → k < length l → get_or l k 0 ∈ l
get_or_in [] k h = absurd (omega arith)
get_or_in (a ∷ l) zero h = inl refl
get_or_in (a ∷ l) (suc k) h = inr (get_or_in l k (omega arith))

-- of numbers that all lie below n: one of them changed, a larger bound, one that is read at a place
set_in : (l : List ℕ) (i b a : ℕ) → a ∈ set l i b → (a ≡ b) ⊎ (a ∈ l)
set_in [] i b a h = absurd h
set_in (y ∷ l) zero b a (inl e) = inl e
set_in (y ∷ l) zero b a (inr m) = inr (inr m)
set_in (y ∷ l) (suc i) b a (inl e) = inr (inl e)
set_in (y ∷ l) (suc i) b a (inr m) = go (set_in l i b a m)
  where
    go : (a ≡ b) ⊎ (a ∈ l) → (a ≡ b) ⊎ (a ∈ (y ∷ l))
    go (inl e) = inl e
    go (inr k) = inr (inr k)

pub inside_set : (n : ℕ) (l : List ℕ) (i b : ℕ) → Inside n l → b < n → Inside n (set l i b)
inside_set n l i b h k a m = go (set_in l i b a m)
  where
    go : (a ≡ b) ⊎ (a ∈ l) → a < n
    go (inl e) = rw e k
    go (inr r) = h a r

pub inside_more : {n k : ℕ} (l : List ℕ) → n ≤ k → Inside n l → Inside k l
inside_more l h i a m = omega (arith, i a m)

pub inside_at : (n : ℕ) (l : List ℕ) (x : ℕ) → Inside n l → x < length l → get_or l x 0 < n
inside_at n l x i h = i _ (get_or_in l x h)

-- A law `..-right` is reflection: a boolean test is true exactly when the relation that it tests holds.
-- a test of all members, and of two lists
pub every_right : (t : ℕ → Bool) (l : List ℕ) → (every t l ≡ true) ↔ ((a : ℕ) → a ∈ l → t a ≡ true)
every_right t l = (to l, back l)
  where
    to : (l : List ℕ) → every t l ≡ true → (a : ℕ) → a ∈ l → t a ≡ true
    to [] h a m = absurd m
    to (b ∷ l) h a (inl e) = rw e (both (t b) _ h).0
    to (b ∷ l) h a (inr m) = to l (both (t b) _ h).1 a m

    back : (l : List ℕ) → ((a : ℕ) → a ∈ l → t a ≡ true) → every t l ≡ true
    back [] h = refl
    back (b ∷ l) h = and (h b (inl refl)) (back l (λ a m. h a (inr m)))

pub same_right : (l m : List ℕ) → (same l m ≡ true) ↔ (l ≡ m)
same_right l m = (to l m, λ e. rw e (itself m))
  where
    to : (l m : List ℕ) → same l m ≡ true → l ≡ m
    to [] [] h = refl
    to [] (b ∷ m) h = absurd (false≢true h)
    to (a ∷ l) [] h = absurd (false≢true h)
    to (a ∷ l) (b ∷ m) h = let r = both (eqb a b) _ h in let e : a ≡ b = eqb-true a b r.0 in let f : l ≡ m = to l m r.1 in cc

    itself : (m : List ℕ) → same m m ≡ true
    itself [] = refl
    itself (a ∷ m) = and (eq-eqb a a refl) (itself m)

pub inside_right : (n : ℕ) (l : List ℕ) → (every (λ a. ltb a n) l ≡ true) ↔ Inside n l
inside_right n l = (
  λ h a m. ltb-true a n ((every_right (λ k. ltb k n) l).0 h a m),
  λ x. (every_right (λ k. ltb k n) l).1 (λ a m. lt-ltb a n (x a m)),
)

pub every_same : (s t : ℕ → Bool) (l : List ℕ) → ((g : ℕ) → g ∈ l → s g ≡ t g) → every s l ≡ every t l
every_same s t [] h = refl
every_same s t (a ∷ l) h = rw (h a (inl refl), every_same s t l (λ g m. h g (inr m)))
