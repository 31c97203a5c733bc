-- Laws for the order of writing: a step from each member of a finite list to a member of it returns somewhere;
-- and what a list that has, or lacks, every number of another means.
use Rattle.std.specs.Prelude.{◌≡◌, refl, true, false, List, [], ◌∷◌, ℕ}
use Rattle.std.proofs.lemmas.Bool.{false≢true}
use Rattle.std.proofs.Common.{true≢false, inl, inr}
use Rattle.base.specs.Lists.{◌∈◌, elem}
use Rattle.base.specs.MemberLaws.{elem→∈, ∈→elem}
use Rattle.base.specs.TestLaws.{split}
use Rattle.plan.specs.Order.{all_in}

-- a transitive relation that leads from each member of a finite list to a member of it has a circle
pub circle : (R : ℕ → ℕ → Type 0) → ((a b c : ℕ) → R a b → R b c → R a c)
    → (L : List ℕ) → ((z : ℕ) → z ∈ L → (q : ℕ) × (q ∈ L) × R z q) → (z : ℕ) → z ∈ L → (u : ℕ) × (u ∈ L) × R u u
circle R trans [] next z m = absurd m
circle R trans (x ∷ L) next z m = go (next x (inl refl)) (circle R trans L)
  where
    past : (y : ℕ) → y ∈ L → R x y → (z' : ℕ) → (q : ℕ) × (q ∈ (x ∷ L)) × R z' q → (q : ℕ) × (q ∈ L) × R z' q
    past y k r z' (q, inl e, s) = (y, k, trans z' x y (rw e at s) r)
    past y k r z' (q, inr j, s) = (q, j, s)

    go : (q : ℕ) × (q ∈ (x ∷ L)) × R x q → (((z' : ℕ) → z' ∈ L → (q : ℕ) × (q ∈ L) × R z' q) → (z' : ℕ) → z' ∈ L → (u : ℕ) × (u ∈ L) × R u u)
        → (u : ℕ) × (u ∈ (x ∷ L)) × R u u
    go (y, inl e, r) ih = (x, inl refl, rw e at r)
    go (y, inr k, r) ih = let c = ih (λ z' m'. past y k r z' (next z' (inr m'))) y k in (c.0, inr c.1, c.2)

pub all_in_each : (l done : List ℕ) → all_in l done ≡ true → (q : ℕ) → q ∈ l → q ∈ done
all_in_each [] done h q m = absurd m
all_in_each (x ∷ l) done h q m = split (elem x done) (λ t. go (rw t at h) t (λ k. all_in_each l done k q) m) (λ t. absurd (false≢true (rw t at h)))
  where
    go : all_in l done ≡ true → elem x done ≡ true → (all_in l done ≡ true → q ∈ l → q ∈ done) → q ∈ (x ∷ l) → q ∈ done
    go a t ih (inl e) = rw e (elem→∈ x done t)
    go a t ih (inr k) = ih a k

pub missing : (l done : List ℕ) → all_in l done ≡ false → (q : ℕ) × (q ∈ l) × (elem q done ≡ false)
missing [] done h = absurd (true≢false h)
missing (x ∷ l) done h =
    split (elem x done) (λ t. let r = missing l done (rw t at h) in (r.0, inr r.1, r.2)) (λ t. (x, inl refl, t))

pub all_in_back : (l done : List ℕ) → ((q : ℕ) → q ∈ l → q ∈ done) → all_in l done ≡ true
all_in_back [] done h = refl
all_in_back (x ∷ l) done h = rw (∈→elem x done (h x (inl refl))) (all_in_back l done (λ q m. h q (inr m)))
