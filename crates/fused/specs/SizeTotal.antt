-- Counting the numbers of a list group by group: over distinct groups each number is counted at most once.
use Rattle.std.specs.Prelude.{◌≡◌, refl, List, [], ◌∷◌, ℕ, suc, ◌+◌, ◌≤◌, eqb, length}
use Rattle.std.proofs.Common.{inl, inr, arith, eqb-true, ne_eqb}
use Rattle.base.specs.Lists.{◌∈◌, keep}
use Rattle.base.specs.TestLaws.{split}
use Rattle.base.specs.Settings.{Once}

module _ (group : ℕ → ℕ) where
  -- the numbers of l in the groups of done, group by group
  abbrev pub total : List ℕ → List ℕ → ℕ
  total l [] = 0
  total l (p ∷ done) = length (keep (λ g. eqb (group g) p) l) + total l done

  total_nil : (done : List ℕ) → total [] done ≡ 0
  total_nil [] = refl
  total_nil (p ∷ done) = rw (total_nil done)

  total_none : (g : ℕ) (l done : List ℕ) → (group g ∈ done → ⊥) → total (g ∷ l) done ≡ total l done
  total_none g l [] h = refl
  total_none g l (p ∷ done) h = rw (ne_eqb (group g) p (λ e. h (inl e)), total_none g l done (λ m. h (inr m)))

  total_cons : (g : ℕ) (l done : List ℕ) → Once done → total (g ∷ l) done ≤ suc (total l done)
  total_cons g l [] o = omega arith
  total_cons g l (p ∷ done) (new, o) =
      split (eqb (group g) p)
      (λ e. rw (e, total_none g l done (λ m. new (rw (eqb-true (group g) p e) at m))) (omega arith))
      (λ e. rw e (omega (arith, total_cons g l done o)))

  pub total_le : (l done : List ℕ) → Once done → total l done ≤ length l
  total_le [] done o = rw total_nil (omega arith)
  total_le (g ∷ l) done o = omega (arith, total_cons g l done o, total_le l done o)
