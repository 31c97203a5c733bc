-- Picks as sums: with at most one guard at 1, a pick is the sum of the values whose guards are 1.
use Rattle.std.specs.Prelude.{ℕ, zero, suc, ◌+◌, ◌≤◌, ◌<◌, ◌≡◌, refl, List, [], ◌∷◌, length}
use Rattle.std.proofs.Common.{zero-add, add-zero, arith}
use Rattle.base.specs.TestLaws.{split}
use Rattle.base.specs.Results.{is_one}
use Rattle.file.specs.Records.{Pair, Record, input, word, bit, operation, choice, pick, guard, record_in, pick_figure, guard_figure}
use Rattle.file.specs.Sums.{guards_at_one}
use Rattle.file.specs.WireFigures.{sum_figure}

-- a pick and a guard are records, not past the end
pub pick_inside : (R : List Record) (i : ℕ) (l : List Pair) → record_in R i ≡ pick l → i < length R
pick_inside [] i l e = let z : ◌≡◌ {A = ℕ} 0 1 = cc in absurd (omega arith)
pick_inside (r ∷ R) zero l e = omega arith
pick_inside (r ∷ R) (suc i) l e = omega (arith, pick_inside R i l e)

pub guard_inside : (R : List Record) (i : ℕ) (cs : List ℕ) (t : ℕ) → record_in R i ≡ guard cs t → i < length R
guard_inside [] i cs t e = let z : ◌≡◌ {A = ℕ} 0 1 = cc in absurd (omega arith)
guard_inside (r ∷ R) zero cs t e = omega arith
guard_inside (r ∷ R) (suc i) cs t e = omega (arith, guard_inside R i cs t e)

module _ (W : ℕ → ℕ) where
  sum_none : (l : List Pair) → guards_at_one W l ≡ 0 → sum_figure W l ≡ 0
  sum_none [] h = refl
  sum_none (p ∷ l) h =
      split (is_one (W p.guarding))
      (λ t. let z : 1 + guards_at_one W l ≡ 0 = rw t at h in absurd (omega arith))
      (λ t. let z : 0 + guards_at_one W l ≡ 0 = rw t at h in rw (t, zero-add) (sum_none l (omega arith)))

  -- with at most one guard at 1 the sum is the pick
  pub sum_pick : (l : List Pair) → guards_at_one W l ≤ 1 → sum_figure W l ≡ pick_figure W l
  sum_pick [] h = refl
  sum_pick (p ∷ l) h =
      split (is_one (W p.guarding))
      (λ t. let z : 1 + guards_at_one W l ≤ 1 = rw t at h in rw (t, sum_none l (omega arith)) (add-zero _))
      (λ t. let z : 0 + guards_at_one W l ≤ 1 = rw t at h in rw (t, zero-add) (sum_pick l (omega arith)))

  -- if record i is a guard, its wire holds its figure
  abbrev pub GivesGuard : ℕ → Record → Type 0
  GivesGuard i r = (cs : List ℕ) (t : ℕ) → r ≡ guard cs t → W i ≡ guard_figure W cs t

  -- if it is a pick, one guard at most is 1
  abbrev pub OneGuard : ℕ → Record → Type 0
  OneGuard i (input k x) = Unit {0}
  OneGuard i (word n) = Unit {0}
  OneGuard i (bit b) = Unit {0}
  OneGuard i (operation op l) = Unit {0}
  OneGuard i (choice c a b) = Unit {0}
  OneGuard i (pick l) = guards_at_one W l ≤ 1
  OneGuard i (guard cs t) = Unit {0}
