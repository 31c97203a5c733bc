-- Document 01, throughout: lists of numbers, membership as a type and as a test, numbers below a bound, the members that pass a test, tests of all members, runs of numbers, joined lists.
use Rattle.std.specs.Prelude.{◌≡◌, Bool, true, false, cond, ◌&&◌, List, [], ◌∷◌, ◌++◌, ◌⊎◌, ℕ, zero, suc, ◌<◌, eqb}

infix 40 ◌∈◌
-- a stands in the list
abbrev pub ◌∈◌ : ℕ → List ℕ → Type 0
a ∈ [] = ⊥
a ∈ (x ∷ l) = (a ≡ x) ⊎ (a ∈ l)

-- the same as a test
abbrev pub elem : ℕ → List ℕ → Bool
elem a [] = false
elem a (x ∷ l) = cond (eqb a x) true (elem a l)

-- each of these lies below n
abbrev pub Inside : ℕ → List ℕ → Type 0
Inside n l = (a : ℕ) → a ∈ l → a < n

-- the members of a list that pass a test, in order
abbrev pub keep : (ℕ → Bool) → List ℕ → List ℕ
keep p [] = []
keep p (a ∷ l) = cond (p a) (a ∷ keep p l) (keep p l)

-- i, i + 1, .., n of them
abbrev pub from : ℕ → ℕ → List ℕ
from i zero = []
from i (suc n) = i ∷ from (suc i) n

-- 0, 1, .., n of them
abbrev pub upto : ℕ → List ℕ
upto n = from 0 n

-- the lists f a for a in l, joined
abbrev pub flat : (ℕ → List ℕ) → List ℕ → List ℕ
flat f [] = []
flat f (a ∷ l) = f a ++ flat f l

-- every number of a list passes the test
abbrev pub every : (ℕ → Bool) → List ℕ → Bool
every t [] = true
every t (a ∷ l) = t a && every t l

-- the same numbers in the same order
abbrev pub same : List ℕ → List ℕ → Bool
same [] [] = true
same [] (b ∷ m) = false
same (a ∷ l) [] = false
same (a ∷ l) (b ∷ m) = eqb a b && same l m
