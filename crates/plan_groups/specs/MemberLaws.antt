-- A walk over the members of a group: what is left of them, and which they are.
use Rattle.std.specs.Prelude.{ℕ, suc, ◌+◌, ◌-◌, ◌*◌, ◌≤◌, ◌<◌, ◌≡◌, refl, Bool, ◌&&◌, List, [], ◌∷◌, length, get_or}
use Rattle.std.specs.List.{list_all, range_with_len}
use Rattle.std.proofs.Common.{sym, ap, ap₂, ◌∙◌, inl, inr, arith, add-zero, zero-add}
use Rattle.base.specs.Lists.{◌∈◌, every}
use Rattle.base.specs.MemberLaws.{get_or_in}
use Rattle.plan.specs.LayoutLaws.{length_numbers}
use Rattle.plan.specs.PlanFile.{numbers_at, group_at, Rising}
use Rattle.plan.specs.NumberLaws.{member_at}
use Rattle.plan.specs.GroupLaws.{rising_first}
use Rattle.plan.specs.Accepted.{Exist}
use Rattle.plan_groups.specs.Tests.{members_from}
use Rattle.plan_groups.specs.Walks.{ReadableGroup}

-- what is left from member k on: that member, then the rest; nothing at the end; all at the start
pub members_step : (p : List ℕ) (at k : ℕ) → k < get_or p at 0 → members_from p at k ≡ get_or (group_at p at) k 0 ∷ members_from p at (k + 1)
members_step p at k h =
    let e : get_or p at 0 - k ≡ suc (get_or p at 0 - (k + 1)) = omega arith in
    let q : at + 1 + 2 * k + 2 ≡ at + 1 + 2 * (k + 1) = omega arith in
    ap (λ (n : ℕ). numbers_at n p (at + 1 + 2 * k)) e
    ∙ ap₂ (λ (g j : ℕ). g ∷ numbers_at (get_or p at 0 - (k + 1)) p j) (member_at p at k h) q

pub members_end : (p : List ℕ) (at k : ℕ) → get_or p at 0 ≤ k → members_from p at k ≡ []
members_end p at k h = let e : get_or p at 0 - k ≡ 0 = omega arith in ap (λ (n : ℕ). numbers_at n p (at + 1 + 2 * k)) e

pub members_all : (p : List ℕ) (at : ℕ) → members_from p at 0 ≡ group_at p at
members_all p at =
    let e : get_or p at 0 - 0 ≡ get_or p at 0 = omega arith in
    let q : at + 1 + 2 * 0 ≡ at + 1 = omega arith in
    ap (λ (n : ℕ). numbers_at n p (at + 1 + 2 * 0)) e ∙ ap (λ (j : ℕ). numbers_at (get_or p at 0) p j) q

-- loop invariant: where a walk over the members of a fitting group stands
pub record Walk (n : ℕ) (p : List ℕ) (at k : ℕ) : Type 0 where
  pub fits : ReadableGroup n p at
  pub low : k ≤ get_or p at 0
  pub rising : Rising (members_from p at k)
  pub exist : Exist n (members_from p at k)

pub walk_start : (n : ℕ) (p : List ℕ) (at : ℕ) → ReadableGroup n p at → Walk n p at 0
walk_start n p at f = record { fits = f; low = omega arith; rising = rw (members_all p at) f.rising; exist = rw (members_all p at) f.exist }

pub walk_step : (n : ℕ) (p : List ℕ) (at k : ℕ) → Walk n p at k → k < get_or p at 0 → Walk n p at (k + 1)
walk_step n p at k w h =
    let r : Rising (get_or (group_at p at) k 0 ∷ members_from p at (k + 1)) = rw (members_step p at k h) at w.rising in
    let x : Exist n (get_or (group_at p at) k 0 ∷ members_from p at (k + 1)) = rw (members_step p at k h) at w.exist in
    record { fits = w.fits; low = omega arith; rising = r.1; exist = λ g m. x g (inr m) }

-- member k is one of the n gates, and below the members after it
pub walk_member : (n : ℕ) (p : List ℕ) (at k g : ℕ) → Walk n p at k → k < get_or p at 0 → g ≡ get_or (group_at p at) k 0 → g < n
walk_member n p at k g w h q =
    let x : Exist n (get_or (group_at p at) k 0 ∷ members_from p at (k + 1)) = rw (members_step p at k h) at w.exist in
    x g (inl q)

pub walk_byte : (n : ℕ) (p : List ℕ) (at k g : ℕ) → Walk n p at k → k < get_or p at 0 → g ≡ get_or (group_at p at) k 0 → g < 256
walk_byte n p at k g w h q = omega (arith, walk_member n p at k g w h q, w.fits.room)

pub walk_above : (n : ℕ) (p : List ℕ) (at k : ℕ) → Walk n p at k → k < get_or p at 0 → (g : ℕ) → g ∈ members_from p at (k + 1) → get_or (group_at p at) k 0 < g
walk_above n p at k w h g m =
    let r : Rising (get_or (group_at p at) k 0 ∷ members_from p at (k + 1)) = rw (members_step p at k h) at w.rising in
    rising_first (get_or (group_at p at) k 0) (members_from p at (k + 1)) r.0 r.1 g m

-- a test of each member by its number, from member 0 on, is the test of the whole group
each_placed : (t : ℕ → Bool) (f : ℕ → ℕ) (a : ℕ) (G : List ℕ) → ((i : ℕ) → i < length G → f (a + i) ≡ get_or G i 0)
    → list_all (λ k. t (f k)) (range_with_len a (length G)) ≡ every t G
each_placed t f a [] h = refl
each_placed t f a (g ∷ G) h =
    let e : f a ≡ g = ap f (sym (add-zero a)) ∙ h 0 (omega arith) in
    rw e (ap (λ (b : Bool). t g && b) (each_placed t f (a + 1) G (λ i l. let q : a + 1 + i ≡ a + suc i = omega arith in ap f q ∙ h (suc i) (omega arith))))

pub every_placed : (t : ℕ → Bool) (p : List ℕ) (at : ℕ)
    → list_all (λ k. t (get_or (group_at p at) k 0)) (range_with_len 0 (get_or p at 0)) ≡ every t (group_at p at)
every_placed t p at =
    ap (λ (n : ℕ). list_all (λ k. t (get_or (group_at p at) k 0)) (range_with_len 0 n)) (sym (length_numbers (get_or p at 0) p (at + 1)))
    ∙ each_placed t (λ k. get_or (group_at p at) k 0) 0 (group_at p at) (λ i l. ap (λ (k : ℕ). get_or (group_at p at) k 0) (zero-add i))

-- each member of a readable group is one of the n gates
pub readable_member : (n : ℕ) (p : List ℕ) (at k : ℕ) → ReadableGroup n p at → k < get_or p at 0 → get_or (group_at p at) k 0 < n
readable_member n p at k f h = f.exist _ (get_or_in (group_at p at) k (rw (length_numbers (get_or p at 0) p (at + 1)) h))
