-- The loops over a group's members, for the rows 25, 27, 28 and 29: start, one member more, a member that fails, end.
use Rattle.std.specs.Prelude.{ℕ, ◌+◌, ◌≤◌, ◌<◌, ◌≡◌, List, ◌∷◌, Bool, true, false, refl, ◌&&◌, eqb, leb, ltb, length, get_or}
use Rattle.std.proofs.Common.{sym, ap, ◌∙◌, arith}
use Rattle.base.specs.Lists.{every}
use Rattle.base.specs.MemberLaws.{every_same}
use Rattle.base.specs.TestLaws.{split, both}
use Rattle.base.specs.Sets.{union, excludes}
use Rattle.circuit.specs.Gates.{gate_at}
use Rattle.circuit_needed.specs.Held.{gate_in, gates_in}
use Rattle.circuit_needed.specs.HeldLaws.{gates_at}
use Rattle.plan.specs.PlanFile.{group_at, after}
use Rattle.plan.specs.Limits.{most_plan_bytes}
use Rattle.plan.specs.Groups.{smallest}
use Rattle.plan.specs.Rows.{rises, is_costly, operation_byte, alike, parted}
use Rattle.plan_groups.specs.Tests.{members_from, rising_from, parted_from}
use Rattle.plan_groups.specs.Walks.{ReadableGroup}
use Rattle.plan_groups.specs.MemberLaws.{members_step, members_end, members_all, Walk, walk_start, walk_step, walk_member}
use Rattle.plan_groups.specs.GateLaws.{alike_is}
use Rattle.plan_groups.specs.TestLaws.{rising_right, parted_is}

-- loop invariant, for 25: of n gates, the next number is at least `least`
pub record Climbing (n : ℕ) (p : List ℕ) (at least k : ℕ) : Type 0 where
  pub lies : (after p at ≤ length p) × (length p ≤ most_plan_bytes)
  pub low : k ≤ get_or p at 0
  pub same : (rises (group_at p at) && every (λ g. ltb g n) (group_at p at)) ≡ rising_from n least (members_from p at k)

pub climbing_start : (n : ℕ) (p : List ℕ) (at : ℕ) → (after p at ≤ length p) × (length p ≤ most_plan_bytes) → Climbing n p at 0 0
climbing_start n p at h = record { lies = h; low = omega arith; same = sym (rising_right n (group_at p at)) ∙ ap (rising_from n 0) (sym (members_all p at)) }

module _ (n : ℕ) (p : List ℕ) (at least k g : ℕ) (w : Climbing n p at least k) (h : k < get_or p at 0) (q : g ≡ get_or (group_at p at) k 0) where
  next_number : (rises (group_at p at) && every (λ i. ltb i n) (group_at p at)) ≡ rising_from n least (g ∷ members_from p at (k + 1))
  next_number = w.same ∙ ap (rising_from n least) (members_step p at k h) ∙ ap (λ (i : ℕ). rising_from n least (i ∷ members_from p at (k + 1))) (sym q)

  pub climbing_fails : (leb least g && ltb g n) ≡ false → false ≡ (rises (group_at p at) && every (λ i. ltb i n) (group_at p at))
  climbing_fails e = sym (next_number ∙ split (leb least g) (λ t. let f : ltb g n ≡ false = rw t at e in rw (t, f)) (λ t. rw t))

  pub climbing_step : (leb least g && ltb g n) ≡ true → Climbing n p at (g + 1) (k + 1)
  climbing_step e = let b = both (leb least g) (ltb g n) e in record { lies = w.lies; low = omega arith; same = next_number ∙ rw (b.0, b.1) }

pub climbing_end : (n : ℕ) (p : List ℕ) (at least k : ℕ) → Climbing n p at least k → get_or p at 0 ≤ k → true ≡
    (rises (group_at p at) && every (λ g. ltb g n) (group_at p at))
climbing_end n p at least k w h = sym (w.same ∙ ap (rising_from n least) (members_end p at k h))

-- the first member is the smallest
pub first_smallest : (n : ℕ) (p : List ℕ) (at g : ℕ) → ReadableGroup n p at → g ≡ get_or (group_at p at) 0 0 → g ≡ smallest (group_at p at)
first_smallest n p at g f q = q ∙ sym (ap smallest (sym (members_all p at) ∙ members_step p at 0 (omega (arith, f.joins))))

pub first_member : (n : ℕ) (p : List ℕ) (at g : ℕ) → ReadableGroup n p at → g ≡ get_or (group_at p at) 0 0 → g < n
first_member n p at g f q = walk_member n p at 0 g (walk_start n p at f) (omega (arith, f.joins)) q

-- 27 and 28 of a group, by the numbers of its gates
module _ (quads : List ℕ) (n : ℕ) (p : List ℕ) (at : ℕ) (f : ReadableGroup n p at) where
  pub costly_members : every (λ g. is_costly (gate_in quads g)) (group_at p at) ≡ every (λ g. is_costly (gate_at (gates_in quads n) g)) (group_at p at)
  costly_members = every_same _ _ (group_at p at) (λ g m. rw (gates_at quads n g (f.exist g m)) refl)

  pub alike_members : (first : ℕ) → first ≡ get_or (group_at p at) 0 0
      → every (λ g. eqb (operation_byte (gate_in quads first)) (operation_byte (gate_in quads g))) (group_at p at) ≡ alike (gates_in quads n) (group_at p at)
  alike_members first q =
      every_same _ _ (group_at p at)
      (λ g m. rw (sym (first_smallest n p at first f q), gates_at quads n first (first_member n p at first f q), gates_at quads n g (f.exist g m)) refl)
      ∙ sym (alike_is (gates_in quads n) (group_at p at))

-- loop invariant, for 29: the settings seen so far
pub record Parting (sets : List ℕ) (n : ℕ) (p : List ℕ) (at seen k : ℕ) : Type 0 where
  pub walk : Walk n p at k
  pub same : parted sets (group_at p at) ≡ parted_from sets seen (members_from p at k)

pub parting_start : (sets : List ℕ) (n : ℕ) (p : List ℕ) (at seen : ℕ) → ReadableGroup n p at → seen ≡ 0 → Parting sets n p at seen 0
parting_start sets n p at seen f e =
    record {
      walk = walk_start n p at f;
      same = sym (parted_is sets (group_at p at) f.rising) ∙ ap (parted_from sets 0) (sym (members_all p at)) ∙ ap (λ (s : ℕ). parted_from sets s (members_from p at 0))
          (sym e);
    }

module _ (sets : List ℕ) (n : ℕ) (p : List ℕ) (at seen k g : ℕ) (r : Bool) (w : Parting sets n p at seen k) (h : k < get_or p at 0)
    (q : g ≡ get_or (group_at p at) k 0) (e : r ≡ excludes seen (get_or sets g 0)) where
  next_set : parted sets (group_at p at) ≡ parted_from sets seen (g ∷ members_from p at (k + 1))
  next_set = w.same ∙ ap (parted_from sets seen) (members_step p at k h) ∙ ap (λ (i : ℕ). parted_from sets seen (i ∷ members_from p at (k + 1))) (sym q)

  pub parting_fails : r ≡ false → false ≡ parted sets (group_at p at)
  parting_fails f = sym (next_set ∙ rw (sym e ∙ f))

  pub parting_step : (more : ℕ) → r ≡ true → more ≡ union seen (get_or sets g 0) → Parting sets n p at more (k + 1)
  parting_step more f u = rw u (record { walk = walk_step n p at k w.walk h; same = next_set ∙ rw (sym e ∙ f) })

pub parting_end : (sets : List ℕ) (n : ℕ) (p : List ℕ) (at seen k : ℕ) → Parting sets n p at seen k → get_or p at 0 ≤ k → true ≡ parted sets (group_at p at)
parting_end sets n p at seen k w h = sym (w.same ∙ ap (parted_from sets seen) (members_end p at k h))
