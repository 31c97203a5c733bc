-- The first failing row of any list of rows: none fails exactly when each holds; a row is answered exactly when those before it hold and it fails; of two lists the first decides, then the second.
use Rattle.std.specs.Prelude.{◌≡◌, refl, Bool, true, false, not, List, [], ◌∷◌, ◌++◌, map, ◌⊎◌, ◌↔◌, ℕ, eqb, ltb}
use Rattle.std.proofs.Common.{inl, inr, arith, ltb-true}
use Rattle.std.proofs.lemmas.Bool.{eqb-false, not-true}
use Rattle.base.specs.Lists.{every}
use Rattle.base.specs.TestLaws.{split, both}
use Rattle.plan.specs.Rows.{Row, first_failing}

-- the numbers of the rows of a list; every row of a list holds
abbrev pub numbers_of : List Row → List ℕ
numbers_of = map (λ (r : Row). r.refuses)

abbrev pub Hold : List Row → Type 0
Hold [] = Unit {0}
Hold (r ∷ l) = (r.holds ≡ true) × Hold l

-- what every number of a list passes, the answer passes
pub failing_passes : (t : ℕ → Bool) (l : List Row) → every t (numbers_of l) ≡ true → (first_failing l ≡ 0) ⊎ (t (first_failing l) ≡ true)
failing_passes t [] h = inl refl
failing_passes t (r ∷ l) h =
    let b = both (t r.refuses) _ h in
    split r.holds (λ e. rw e (failing_passes t l b.1)) (λ e. rw e (inr b.0))

-- no row fails exactly when each holds, whatever the list
pub none_fails : (l : List Row) → every (ltb 0) (numbers_of l) ≡ true → (first_failing l ≡ 0) ↔ Hold l
none_fails l n = (to l n, back l)
  where
    to : (l : List Row) → every (ltb 0) (numbers_of l) ≡ true → first_failing l ≡ 0 → Hold l
    to [] n h = tt
    to (r ∷ l) n h =
        let b = both (ltb 0 r.refuses) _ n in
        split r.holds
        (λ t. (t, to l b.1 (rw t at h)))
        (λ t. let z : r.refuses ≡ 0 = rw t at h in absurd (omega (arith, ltb-true 0 r.refuses b.0)))

    back : (l : List Row) → Hold l → first_failing l ≡ 0
    back [] h = refl
    back (r ∷ l) (t, h) = rw t (back l h)

-- of two lists of rows: the first decides when a row of it fails, else the second
pub failing_second : (l m : List Row) → every (ltb 0) (numbers_of l) ≡ true → first_failing l ≡ 0 → first_failing (l ++ m) ≡ first_failing m
failing_second l m n e = go l ((none_fails l n).0 e)
  where
    go : (l : List Row) → Hold l → first_failing (l ++ m) ≡ first_failing m
    go [] h = refl
    go (r ∷ l) (t, h) = rw t (go l h)

pub failing_first : (l m : List Row) → (first_failing l ≡ 0 → ⊥) → first_failing (l ++ m) ≡ first_failing l
failing_first [] m f = absurd (f refl)
failing_first (r ∷ l) m f = split r.holds (λ t. rw t (failing_first l m (rw t at f))) (λ t. rw t)

-- of two lists of rows all hold exactly when all of both do
pub hold_both : (l m : List Row) → Hold (l ++ m) ↔ (Hold l × Hold m)
hold_both l m = (to l, λ h. back l h.0 h.1)
  where
    to : (l : List Row) → Hold (l ++ m) → Hold l × Hold m
    to [] h = (tt, h)
    to (r ∷ l) (t, h) = let u = to l h in ((t, u.0), u.1)

    back : (l : List Row) → Hold l → Hold m → Hold (l ++ m)
    back [] h k = k
    back (r ∷ l) (t, h) k = (t, back l h k)

-- no number of a list is n: nor is the answer
abbrev pub without : ℕ → List Row → Type 0
without n l = every (λ k. not (eqb k n)) (numbers_of l) ≡ true

never : (n : ℕ) (l : List Row) → ltb 0 n ≡ true → without n l → first_failing l ≡ n → ⊥
never n l z w e = go (failing_passes (λ k. not (eqb k n)) l w)
  where
    go : (first_failing l ≡ 0) ⊎ (not (eqb (first_failing l) n) ≡ true) → ⊥
    go (inl q) = omega (arith, ltb-true 0 n z)
    go (inr q) = eqb-false (first_failing l) n (not-true _ q) e

-- a row is answered exactly when those before it hold and it fails, where no other has its number
pub fails_at : (l : List Row) (r : Row) (m : List Row) → ltb 0 r.refuses ≡ true → without r.refuses l → without r.refuses m
    → (first_failing (l ++ (r ∷ m)) ≡ r.refuses) ↔ (Hold l × (r.holds ≡ false))
fails_at l r m z w v = (to l w, λ h. back l h.0 h.1)
  where
    to : (l : List Row) → without r.refuses l → first_failing (l ++ (r ∷ m)) ≡ r.refuses → Hold l × (r.holds ≡ false)
    to [] w e = split r.holds (λ t. absurd (never r.refuses m z v (rw t at e))) (λ t. (tt, t))
    to (x ∷ l) w e =
        let b = both (not (eqb x.refuses r.refuses)) _ w in
        split x.holds
        (λ t. let u = to l b.1 (rw t at e) in ((t, u.0), u.1))
        (λ t. absurd (eqb-false x.refuses r.refuses (not-true _ b.0) (rw t at e)))

    back : (l : List Row) → Hold l → r.holds ≡ false → first_failing (l ++ (r ∷ m)) ≡ r.refuses
    back [] h f = rw f
    back (x ∷ l) (t, h) f = rw t (back l h f)
