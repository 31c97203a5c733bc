-- Listed groups: the members of a group are those that the plan lists for it; an unlisted gate is a group alone.
use Rattle.std.specs.Prelude.{◌≡◌, refl, Bool, false, List, [], ◌∷◌, ◌⊎◌, ℕ, zero, suc, ◌≤◌, ◌<◌, length, get_or}
use Rattle.std.proofs.Common.{sym, ap, ◌∙◌, true≢false, inl, inr, arith}
use Rattle.base.specs.Lists.{◌∈◌, elem, keep, from, upto}
use Rattle.base.specs.MemberLaws.{elem→∈, ∈→elem, keep_from, from_below}
use Rattle.base.specs.TestLaws.{split}
use Rattle.plan.specs.PlanFile.{Plan, EachGroup, Above, Rising, Listed, Apart}
use Rattle.plan.specs.Groups.{smallest, group_of, members}
use Rattle.plan.specs.Accepted.{Exist}
use Rattle.plan.specs.GroupLaws.{rising_first, smallest_in, member_of, of_member}
use Rattle.plan.specs.JoinedLaws.{foreign}

-- rising lists of the same numbers are the same
above_all : (m : ℕ) (l : List ℕ) → ((k : ℕ) → k ∈ l → m < k) → Above m l
above_all m [] f = tt
above_all m (k ∷ l) f = f k (inl refl)

pub rising_same : (l m : List ℕ) → Rising l → Rising m → ((a : ℕ) → a ∈ l → a ∈ m) → ((a : ℕ) → a ∈ m → a ∈ l) → l ≡ m
rising_same [] [] r t f g = refl
rising_same [] (b ∷ m) r t f g = absurd (g b (inl refl))
rising_same (a ∷ l) [] r t f g = absurd (f a (inl refl))
rising_same (a ∷ l) (b ∷ m) (u, r) (v, t) f g = cc (e, rising_same l m r t (λ x h. go x h (f x (inr h))) (λ x h. back x h (g x (inr h))))
  where
    first : (a ≡ b) ⊎ (a ∈ m) → (b ≡ a) ⊎ (b ∈ l) → a ≡ b
    first (inl q) k = q
    first (inr h) (inl q) = sym q
    first (inr h) (inr k) = absurd (omega (arith, rising_first b m v t a h, rising_first a l u r b k))

    e : a ≡ b
    e = first (f a (inl refl)) (g b (inl refl))

    go : (x : ℕ) → x ∈ l → (x ≡ b) ⊎ (x ∈ m) → x ∈ m
    go x h (inl q) = absurd (omega (arith, rising_first a l u r x h, e))
    go x h (inr k) = k

    back : (x : ℕ) → x ∈ m → (x ≡ a) ⊎ (x ∈ l) → x ∈ l
    back x h (inl q) = absurd (omega (arith, rising_first b m v t x h, e))
    back x h (inr k) = k

-- what is kept of rising numbers rises
pub rising_keep : (p : ℕ → Bool) (l : List ℕ) → Rising l → Rising (keep p l)
rising_keep p [] h = tt
rising_keep p (m ∷ l) h =
    split (p m)
    (λ t. rw t (above_all m (keep p l) (λ k i. rising_first m l h.0 h.1 k (keep_from p l k i).0), rising_keep p l h.1))
    (λ t. rw t (rising_keep p l h.1))

rising_from_lem : (i n : ℕ) → Rising (from i n)
rising_from_lem i zero = tt
rising_from_lem i (suc n) = (above_all i (from (suc i) n) (λ k m. let b = from_below (suc i) n k m in omega (arith, b.0)), rising_from_lem (suc i) n)

-- and so do the members of a group
pub members_rise : (n : ℕ) (group : ℕ → ℕ) (p : ℕ) → Rising (members n group p)
members_rise n group p = rising_keep _ (upto n) (rising_from_lem 0 n)

-- numbers that rise place by place
pub rising_places : (l : List ℕ) → ((t u : ℕ) → t < u → u < length l → get_or l t 0 < get_or l u 0) → Rising l
rising_places [] h = tt
rising_places (m ∷ []) h = (tt, tt)
rising_places (m ∷ k ∷ l) h = (h 0 1 (omega arith) (omega arith), rising_places (k ∷ l) (λ t u i j. h (suc t) (suc u) (omega arith) (omega arith)))

-- the group G stands in the plan
abbrev pub StandsIn : Plan → List ℕ → Type 0
StandsIn [] G = ⊥
StandsIn (H ∷ Gs) G = (H ≡ G) ⊎ StandsIn Gs G

pub stands_each : (P : List ℕ → Type 0) (Gs : Plan) (G : List ℕ) → StandsIn Gs G → EachGroup P Gs → P G
stands_each P [] G x'' _ = elim x'' [ ]
stands_each P (H ∷ Gs) G (inl e) (h, f) = rw e at h
stands_each P (H ∷ Gs) G (inr s) (h, f) = stands_each P Gs G s f

pub stands_listed : (Gs : Plan) (G : List ℕ) (g : ℕ) → StandsIn Gs G → g ∈ G → Listed Gs g
stands_listed [] G g x'' m = elim x'' [ ]
stands_listed (H ∷ Gs) G g (inl e) m = inl (rw e m)
stands_listed (H ∷ Gs) G g (inr s) m = inr (stands_listed Gs G g s m)

-- and back
pub each_stands : (P : List ℕ → Type 0) (Gs : Plan) → ((G : List ℕ) → StandsIn Gs G → P G) → EachGroup P Gs
each_stands P [] f = tt
each_stands P (G ∷ Gs) f = (f G (inl refl), each_stands P Gs (λ H s. f H (inr s)))

pub listed_stands : (Gs : Plan) (g : ℕ) → Listed Gs g → (H : List ℕ) × StandsIn Gs H × (g ∈ H)
listed_stands [] g h = absurd h
listed_stands (G ∷ Gs) g (inl m) = (G, inl refl, m)
listed_stands (G ∷ Gs) g (inr h) = let (H, s, m) = listed_stands Gs g h in (H, inr s, m)

-- a listed group's gates have its name, and no others
pub name_to : (Gs : Plan) (G : List ℕ) (g : ℕ) → Apart Gs → StandsIn Gs G → g ∈ G → group_of Gs g ≡ smallest G
name_to [] G g _ x4 m = elim x4 [ ]
name_to (H ∷ Gs) G g (d, a) (inl e) m = rw (e, ∈→elem g G m)
name_to (H ∷ Gs) G g (d, a) (inr s) m =
    split (elem g H) (λ t. absurd (d g (elem→∈ g H t) (stands_listed Gs G g s m))) (λ t. rw t (name_to Gs G g a s m))

pub name_back : (Gs : Plan) (G : List ℕ) (g : ℕ) → EachGroup (λ H. 2 ≤ length H) Gs → Apart Gs → StandsIn Gs G → group_of Gs g ≡ smallest G → g ∈ G
name_back [] G g _ _ x6 h = elim x6 [ ]
name_back (H ∷ Gs) G g (o, u) (d, a) (inl e) h =
    split (elem g H) (λ t. rw e at (elem→∈ g H t)) (λ t. absurd (foreign H Gs o d u g t (rw t at h ∙ ap smallest (sym e))))
name_back (H ∷ Gs) G g (o, u) (d, a) (inr s) h =
    split (elem g H)
    (λ t. let q : smallest H ≡ smallest G = rw t at h in
    absurd (d (smallest H) (smallest_in H o) (stands_listed Gs G (smallest H) s (rw q (smallest_in G (stands_each (λ K. 2 ≤ length K) Gs G s u))))))
    (λ t. name_back Gs G g u a s (rw t at h))

-- a gate outside all of them names itself; the name of a gate inside is inside
pub unlisted_name : (Gs : Plan) (g : ℕ) → (Listed Gs g → ⊥) → group_of Gs g ≡ g
unlisted_name [] g n = refl
unlisted_name (H ∷ Gs) g n = split (elem g H) (λ t. absurd (n (inl (elem→∈ g H t)))) (λ t. rw t (unlisted_name Gs g (λ h. n (inr h))))

listed_name : (Gs : Plan) (g : ℕ) → EachGroup (λ H. 2 ≤ length H) Gs → Listed Gs g → Listed Gs (group_of Gs g)
listed_name [] g _ h = elim h [ ]
listed_name (H ∷ Gs) g (o, u) h =
    split (elem g H) (λ t. rw t (inl (smallest_in H o))) (λ t. rw t (inr (listed_name Gs g u (later t h))))
  where
    later : elem g H ≡ false → (g ∈ H) ⊎ Listed Gs g → Listed Gs g
    later t (inl m) = absurd (true≢false (sym (∈→elem g H m) ∙ t))
    later t (inr k) = k

-- listed or not
pub listed? : (Gs : Plan) (g : ℕ) → Listed Gs g ⊎ (Listed Gs g → ⊥)
listed? [] g = inr (λ z. z)
listed? (H ∷ Gs) g = split (elem g H) (λ t. inl (inl (elem→∈ g H t))) (λ t. go t (listed? Gs g))
  where
    none : elem g H ≡ false → (Listed Gs g → ⊥) → (g ∈ H) ⊎ Listed Gs g → ⊥
    none t n (inl m) = true≢false (sym (∈→elem g H m) ∙ t)
    none t n (inr k) = n k

    go : elem g H ≡ false → Listed Gs g ⊎ (Listed Gs g → ⊥) → Listed (H ∷ Gs) g ⊎ (Listed (H ∷ Gs) g → ⊥)
    go t (inl h) = inl (inr h)
    go t (inr n) = inr (none t n)

module _ (n : ℕ) (Gs : Plan) (two : EachGroup (λ G. 2 ≤ length G) Gs) (rising : EachGroup Rising Gs) (once : Apart Gs) where
  -- the members of a listed group, named by its smallest, are those listed
  pub members_listed : EachGroup (Exist n) Gs → (G : List ℕ) → StandsIn Gs G → members n (group_of Gs) (smallest G) ≡ G
  members_listed exist G s =
      rising_same (members n (group_of Gs) (smallest G)) G (members_rise n (group_of Gs) (smallest G)) (stands_each Rising Gs G s rising)
      (λ a m. name_back Gs G a two once s (of_member n (group_of Gs) a (smallest G) m).1)
      (λ a m. member_of n (group_of Gs) a (smallest G) (stands_each (Exist n) Gs G s exist a m) (name_to Gs G a once s m))

  -- a gate that no group lists is its group's only member
  pub members_alone : (g : ℕ) → g < n → (Listed Gs g → ⊥) → members n (group_of Gs) g ≡ g ∷ []
  members_alone g l u =
      rising_same (members n (group_of Gs) g) (g ∷ []) (members_rise n (group_of Gs) g) (tt, tt)
      (λ a m. inl (only a (of_member n (group_of Gs) a g m).1 (listed? Gs a)))
      (λ a m. alone a m)
    where
      only : (a : ℕ) → group_of Gs a ≡ g → Listed Gs a ⊎ (Listed Gs a → ⊥) → a ≡ g
      only a e (inl h) = absurd (u (rw e at (listed_name Gs a two h)))
      only a e (inr k) = sym (unlisted_name Gs a k) ∙ e

      alone : (a : ℕ) → (a ≡ g) ⊎ ⊥ → a ∈ members n (group_of Gs) g
      alone a (inl e) = rw e (member_of n (group_of Gs) g g l (unlisted_name Gs g u))
      alone a (inr z) = absurd z
