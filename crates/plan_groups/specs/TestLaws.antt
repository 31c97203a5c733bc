-- The rows 25 and 29 number by number: what the code tests of each member is what the row tests of the group.
use Rattle.std.specs.Prelude.{ℕ, zero, suc, ◌+◌, ◌^◌, ◌<◌, ◌≡◌, refl, List, [], ◌∷◌, Bool, true, false, cond, ◌&&◌, ◌⊎◌, eqb, leb, ltb, get_or}
use Rattle.std.proofs.Common.{sym, ap, ◌∙◌, inl, inr, arith, ne_eqb, ltb-true, ltb-false, lt-ltb, leb-true, le-leb}
use Rattle.std.proofs.lemmas.Bool.{false≢true, eqb-false}
use Rattle.std.specs.Int.Bits.{or_add_and, and_zero_l}
use Rattle.std.proofs.lemmas.Nat.{and_comm}
use Rattle.base.specs.MemberLaws.{every_right}
use Rattle.base.specs.Lists.{◌∈◌, every}
use Rattle.base.specs.TestLaws.{split, same_test, both, either, or_left, or_right, and}
use Rattle.base.specs.Sets.{has, union, Disjoint, excludes}
use Rattle.base.specs.SetLaws.{has_union, excludes_right}
use Rattle.plan.specs.PlanFile.{Rising}
use Rattle.plan.specs.Rows.{above, rises, parted}
use Rattle.plan.specs.GroupLaws.{rising_first}
use Rattle.plan_groups.specs.Tests.{rising_from, parted_from}

-- 25: rising from number to number
abbrev at_least : ℕ → List ℕ → Bool
at_least least [] = true
at_least least (g ∷ l) = leb least g

above_is : (m : ℕ) (l : List ℕ) → at_least (m + 1) l ≡ above m l
above_is m [] = refl
above_is m (k ∷ l) = same_test (leb (m + 1) k) (ltb m k) (λ e. let h = leb-true (m + 1) k e in lt-ltb m k (omega arith))
    (λ e. let h = ltb-true m k e in le-leb (m + 1) k (omega arith))

three : (a b c : Bool) → (a && (b && c)) ≡ ((a && b) && c)
three true b c = refl
three false b c = refl

none : (a : Bool) → false ≡ (a && false)
none true = refl
none false = refl

rising_is : (n least : ℕ) (G : List ℕ) → rising_from n least G ≡ (at_least least G && (rises G && every (λ g. ltb g n) G))
rising_is n least [] = refl
rising_is n least (g ∷ l) =
    split (leb least g)
    (λ a. split (ltb g n)
    (λ b. rw (a, b, rising_is n (g + 1) l, above_is g l) (three (above g l) (rises l) (every (λ h. ltb h n) l)))
    (λ b. rw (a, b) (none (above g l && rises l))))
    (λ a. rw a)

pub rising_right : (n : ℕ) (G : List ℕ) → rising_from n 0 G ≡ (rises G && every (λ g. ltb g n) G)
rising_right n [] = refl
rising_right n (g ∷ l) = rising_is n 0 (g ∷ l) ∙ rw (le-leb 0 g (omega arith))

-- a set excludes a union exactly when it excludes both
below_power : (n : ℕ) → n < 2 ^ n
below_power zero = omega arith
below_power (suc n) = let h : n < 2 ^ n = below_power n in omega arith

pub excludes_union : (s t u : ℕ) → excludes (union s t) u ≡ (excludes s u && excludes t u)
excludes_union s t u = same_test (excludes (union s t) u) (excludes s u && excludes t u) to back
  where
    whole : s + t < 2 ^ (s + t)
    whole = below_power (s + t)

    places : union s t < 2 ^ (s + t)
    places = omega (arith, or_add_and s t, whole)

    to : excludes (union s t) u ≡ true → (excludes s u && excludes t u) ≡ true
    to e =
        let x : Disjoint (s + t) (union s t) u = (excludes_right (s + t) (union s t) u places).0 e in
        and
        ((excludes_right (s + t) s u (omega (arith, whole))).1 (λ j l p q. x j l (has_union s t j ∙ or_left (has s j) (has t j) p) q))
        ((excludes_right (s + t) t u (omega (arith, whole))).1 (λ j l p q. x j l (has_union s t j ∙ or_right (has s j) (has t j) p) q))

    back : (excludes s u && excludes t u) ≡ true → excludes (union s t) u ≡ true
    back e =
        let b = both (excludes s u) (excludes t u) e in
        (excludes_right (s + t) (union s t) u places).1 (λ j l p q. go j l q (either (has s j) (has t j) (sym (has_union s t j) ∙ p)))
      where
        go : (j : ℕ) → j < s + t → has u j ≡ true → (has s j ≡ true) ⊎ (has t j ≡ true) → ⊥
        go j l q (inl p) = (excludes_right (s + t) s u (omega (arith, whole))).0 (both (excludes s u) (excludes t u) e).0 j l p q
        go j l q (inr p) = (excludes_right (s + t) t u (omega (arith, whole))).0 (both (excludes s u) (excludes t u) e).1 j l p q

excludes_turned : (s t : ℕ) → excludes s t ≡ excludes t s
excludes_turned s t = ap (λ (x : ℕ). eqb x 0) (and_comm s t)

-- 29: of rising numbers, each apart from those seen before is each apart from each other
abbrev Pairs : List ℕ → List ℕ → Type 0
Pairs sets G = (m k : ℕ) → m ∈ G → k ∈ G → m < k → excludes (get_or sets m 0) (get_or sets k 0) ≡ true

parts_to : (sets : List ℕ) (seen : ℕ) (G : List ℕ) → Rising G → parted_from sets seen G ≡ true → ((g : ℕ) → g ∈ G → excludes seen (get_or sets g 0) ≡ true) × Pairs sets G
parts_to sets seen [] r h = (λ g m. absurd m, λ m k i. absurd i)
parts_to sets seen (g ∷ l) (a, r) h =
    split (excludes seen (get_or sets g 0))
    (λ t.
    let ih = parts_to sets (union seen (get_or sets g 0)) l r (rw t at h) in
    let f : (k : ℕ) → k ∈ l → (excludes seen (get_or sets k 0) ≡ true) × (excludes (get_or sets g 0) (get_or sets k 0) ≡ true) =
    λ k i. both _ _ (sym (excludes_union seen (get_or sets g 0) (get_or sets k 0)) ∙ ih.0 k i) in
    (one t (λ k i. (f k i).0), two (λ k i. (f k i).1) ih.1))
    (λ t. absurd (false≢true (rw t at h)))
  where
    one : excludes seen (get_or sets g 0) ≡ true → ((k : ℕ) → k ∈ l → excludes seen (get_or sets k 0) ≡ true) → (k : ℕ) → k ∈ (g ∷ l) → excludes seen (get_or sets k 0) ≡ true
    one t f k (inl e) = rw e t
    one t f k (inr i) = f k i

    two : ((k : ℕ) → k ∈ l → excludes (get_or sets g 0) (get_or sets k 0) ≡ true) → Pairs sets l → Pairs sets (g ∷ l)
    two f ih m k (inl d) (inl e) h = absurd (omega arith)
    two f ih m k (inl d) (inr j) h = rw d (f k j)
    two f ih m k (inr i) (inl e) h = absurd (omega (arith, rising_first g l a r m i))
    two f ih m k (inr i) (inr j) h = ih m k i j h

parts_back : (sets : List ℕ) (seen : ℕ) (G : List ℕ) → Rising G → ((g : ℕ) → g ∈ G → excludes seen (get_or sets g 0) ≡ true) → Pairs sets G → parted_from sets seen G ≡ true
parts_back sets seen [] r f h = refl
parts_back sets seen (g ∷ l) (a, r) f h =
    rw (f g (inl refl)) (parts_back sets (union seen (get_or sets g 0)) l r
    (λ k i. excludes_union seen (get_or sets g 0) (get_or sets k 0) ∙ and (f k (inr i)) (h g k (inl refl) (inr i) (rising_first g l a r k i)))
    (λ m k i j. h m k (inr i) (inr j)))

pub parted_is : (sets G : List ℕ) → Rising G → parted_from sets 0 G ≡ parted sets G
parted_is sets G r = same_test (parted_from sets 0 G) (parted sets G) to back
  where
    pair : Pairs sets G → (m k : ℕ) → m ∈ G → k ∈ G → cond (eqb m k) true (excludes (get_or sets m 0) (get_or sets k 0)) ≡ true
    pair f m k i j =
        split (eqb m k) (λ e. rw e)
        (λ e. rw e (split (ltb m k) (λ l. f m k i j (ltb-true m k l))
        (λ l. excludes_turned (get_or sets m 0) (get_or sets k 0) ∙ f k m j i (turned e l))))
      where
        turned : eqb m k ≡ false → ltb m k ≡ false → k < m
        turned e l = let n = eqb-false m k e in let o = ltb-false m k l in omega arith

    to : parted_from sets 0 G ≡ true → parted sets G ≡ true
    to h =
        let f = (parts_to sets 0 G r h).1 in
        (every_right (λ m. every (λ k. cond (eqb m k) true (excludes (get_or sets m 0) (get_or sets k 0))) G) G).1
        (λ m i. (every_right (λ k. cond (eqb m k) true (excludes (get_or sets m 0) (get_or sets k 0))) G).1 (λ k j. pair f m k i j))

    back : parted sets G ≡ true → parted_from sets 0 G ≡ true
    back h =
        parts_back sets 0 G r (λ g m. ap (λ (x : ℕ). eqb x 0) (and_zero_l (get_or sets g 0)))
        (λ m k i j l. rw (ne_eqb m k (λ e. omega arith)) at
        ((every_right (λ b. cond (eqb m b) true (excludes (get_or sets m 0) (get_or sets b 0))) G).0
        ((every_right (λ a. every (λ b. cond (eqb a b) true (excludes (get_or sets a 0) (get_or sets b 0))) G) G).0 h m i) k j))
