-- The search over tables that hold the waits and what is left: it finds the first ready group.
use Prim.Native.Nat.{ℕ, zero, suc, ◌+◌, ◌-◌, ◌*◌, ◌/◌, ◌%◌, ◌^◌, ◌≤◌, ◌<◌}
use Rattle.std.specs.Prelude.{◌≡◌, true, false, cond, List, length, get_or}
use Rattle.std.proofs.Math.Path.{refl}
use Rattle.std.proofs.Common.{sym, ◌∙◌, zero-add, eqb-true}
use Rattle.std.proofs.lemmas.Bool.{false≢true, eqb-false}
use native.Mathlib.Omega.{arith}
use Rattle.std.proofs.Math.Dec.{eqb}
use Rattle.base.specs.Lists.{◌∈◌, elem, keep, from, upto}
use Rattle.base.specs.MemberLaws.{elem→∈, ∈→elem, keep_in, keep_from, from_in}
use Rattle.base.specs.TestLaws.{split, same_test}
use Rattle.base.specs.Bits.{bit}
use Rattle.base.specs.Sets.{excludes}
use Rattle.base.specs.SetLaws.{excludes_right}
use Rattle.plan.specs.Groups.{groups}
use Rattle.plan.specs.GroupLaws.{group_of_lem}
use Rattle.plan.specs.Order.{all_in, ready, first_ready}
use Rattle.plan.specs.CircleLaws.{all_in_each, all_in_back}
use Rattle.base.specs.BitWords.{HasWords, bit_in}
use Rattle.base.specs.BitWordLaws.{bit_at}
use Rattle.plan_order.specs.Search.{free_from, ready_in, search_from, next_ready, as_next}

-- the tables hold the waits W of the groups of n gates, and which of them are left after those of done
pub record Tabled (W : ℕ → List ℕ) (group : ℕ → ℕ) (n : ℕ) (waits left done : List ℕ) : Type 0 where
  pub room : n ≤ 256
  pub wide : 4 * n ≤ length waits
  pub fits : (i : ℕ) → get_or waits i 0 < 2 ^ 64
  pub lefts : HasWords 4 left
  pub holds : (p q : ℕ) → p < 256 → q < 256 → bit_in (4 * p) waits q ≡ elem q (W p)
  pub remains : (q : ℕ) → q < 256 → bit_in 0 left q ≡ cond (elem q done) false (elem q (groups n group))
  pub closed : (p q : ℕ) → q ∈ W p → q ∈ groups n group

-- a group's bit by its word and place
left_bit : (left : List ℕ) (q : ℕ) → bit_in 0 left q ≡ bit (get_or left (q / 64) 0) (q % 64)
left_bit left q = bit_at 0 left q ∙ rw zero-add

-- a run of words is free of what is left when each is
free_word : (waits left : List ℕ) (p w k : ℕ) → free_from waits left p w k ≡ true → (v : ℕ) → w ≤ v → v < w + k → excludes (get_or waits (4 * p + v) 0)
    (get_or left v 0) ≡ true
unfolding free_from
free_word waits left p w zero h v a b = absurd (omega arith)
free_word waits left p w (suc k) h v a b =
    split (excludes (get_or waits (4 * p + w) 0) (get_or left w 0))
    (λ t. split (eqb v w) (λ e. rw (eqb-true v w e) t) (λ e. free_word waits left p (w + 1) k (rw t at h) v (omega (arith, eqb-false v w e)) (omega arith)))
    (λ t. absurd (false≢true (rw t at h)))

free_back : (waits left : List ℕ) (p w k : ℕ) → ((v : ℕ) → w ≤ v → v < w + k → excludes (get_or waits (4 * p + v) 0) (get_or left v 0) ≡ true)
    → free_from waits left p w k ≡ true
unfolding free_from
free_back waits left p w zero h = refl
free_back waits left p w (suc k) h = rw (h w (omega arith) (omega arith)) (free_back waits left p (w + 1) k (λ v a b. h v (omega arith) (omega arith)))

module _ (W : ℕ → List ℕ) (group : ℕ → ℕ) (n : ℕ) (waits left done : List ℕ) (t : Tabled W group n waits left done) where
  free_right : (p : ℕ) → p < 256 → free_from waits left p 0 4 ≡ all_in (W p) done
  free_right p l = same_test (free_from waits left p 0 4) (all_in (W p) done) to back
    where
      to : free_from waits left p 0 4 ≡ true → all_in (W p) done ≡ true
      to f = all_in_back (W p) done each
        where
          each : (q : ℕ) → q ∈ W p → q ∈ done
          each q m =
              split (elem q done) (elem→∈ q done)
              (λ e.
              let g = t.closed p q m in
              let k : q < 256 = omega (arith, (group_of_lem n group q g).0, t.room) in
              let a : bit (get_or waits (4 * p + q / 64) 0) (q % 64) ≡ true = sym (bit_at (4 * p) waits q) ∙ t.holds p q l k ∙ ∈→elem q (W p) m in
              let z : bit_in 0 left q ≡ true = t.remains q k ∙ rw (e, ∈→elem q (groups n group) g) in
              let b : bit (get_or left (q / 64) 0) (q % 64) ≡ true = sym (left_bit left q) ∙ z in
              let x = free_word waits left p 0 4 f (q / 64) (omega arith) (omega arith) in
              absurd ((excludes_right 64 (get_or waits (4 * p + q / 64) 0) (get_or left (q / 64) 0) (t.fits (4 * p + q / 64))).0 x (q % 64) (omega arith) a b))

      back : all_in (W p) done ≡ true → free_from waits left p 0 4 ≡ true
      back h = free_back waits left p 0 4 each
        where
          each : (v : ℕ) → 0 ≤ v → v < 0 + 4 → excludes (get_or waits (4 * p + v) 0) (get_or left v 0) ≡ true
          each v a b =
              (excludes_right 64 (get_or waits (4 * p + v) 0) (get_or left v 0) (t.fits (4 * p + v))).1
              (λ j k x y.
              let d : (64 * v + j) / 64 ≡ v = omega arith in
              let r : (64 * v + j) % 64 ≡ j = omega arith in
              let i : elem (64 * v + j) (W p) ≡ true = sym (t.holds p (64 * v + j) l (omega arith)) ∙ bit_at (4 * p) waits (64 * v + j) ∙ rw (d, r) x in
              let o : elem (64 * v + j) done ≡ true = ∈→elem (64 * v + j) done (all_in_each (W p) done h (64 * v + j) (elem→∈ (64 * v + j) (W p) i)) in
              let z : bit_in 0 left (64 * v + j) ≡ true = left_bit left (64 * v + j) ∙ rw (d, r) y in
              false≢true (sym (t.remains (64 * v + j) (omega arith) ∙ rw o) ∙ z))

  -- a gate names a group or not
  named_test : (p : ℕ) → p < n → elem p (groups n group) ≡ eqb (group p) p
  unfolding groups
  named_test p l =
      same_test (elem p (groups n group)) (eqb (group p) p)
      (λ e. (keep_from (λ q. eqb (group q) q) (upto n) p (elem→∈ p (groups n group) e)).1)
      (λ e. ∈→elem p (groups n group) (keep_in (λ q. eqb (group q) q) (upto n) p (from_in 0 n p (omega arith) (omega arith)) e))

  ready_right : (p : ℕ) → p < n → ready_in waits left p ≡ cond (eqb (group p) p) (ready W done p) false
  unfolding ready_in
  ready_right p l =
      let k : p < 256 = omega (arith, t.room) in
      rw (t.remains p k, free_right p k, named_test p l)
      (split (elem p done)
      (λ e. rw e (split (eqb (group p) p) (λ f. rw f) (λ f. rw f)))
      (λ e. rw e (split (eqb (group p) p) (λ f. rw f) (λ f. rw f))))

  -- the search over k gates from i on is that over the groups that they name
  search_list : (i k : ℕ) → i + k ≤ n → search_from waits left i k ≡ as_next (first_ready W done (keep (λ q. eqb (group q) q) (from i k)))
  unfolding search_from
  search_list i zero h = refl
  search_list i (suc k) h =
      let e : i + 1 ≡ suc i = omega arith in
      rw (ready_right i (omega arith), e, search_list (suc i) k (omega arith))
      (split (eqb (group i) i)
      (λ f. rw f (split (ready W done i) (λ g. rw g) (λ g. rw g)))
      (λ f. rw f))

  -- so the search over all gates gives the first ready group of all
  pub next_right : next_ready waits left 0 n ≡ as_next (first_ready W done (groups n group))
  unfolding next_ready groups
  next_right = let z : n - 0 ≡ n = omega arith in rw z (search_list 0 n (omega arith))
