-- The loop over the groups for row 32: each group's smallest member after the one before it.
use Rattle.std.specs.Prelude.{ℕ, suc, ◌≤◌, ◌<◌, ◌≡◌, refl, List, ◌∷◌, map, true, false, get_or}
use Rattle.std.proofs.Common.{sym, ap, ◌∙◌, arith, lt-ltb, le-ltb}
use Rattle.plan.specs.PlanFile.{groups_counted, group_at, after, groups_from, groups_in}
use Rattle.plan.specs.Limits.{least_plan_bytes}
use Rattle.plan.specs.Groups.{smallest}
use Rattle.plan.specs.Rows.{rises, groups_rise}
use Rattle.plan_groups.specs.Walks.{Readable, Ahead, ReadableGroup}
use Rattle.plan_groups.specs.GroupLaws.{ahead_start, ahead_fits, ahead_step}
use Rattle.plan_groups.specs.WalkLaws.{first_smallest}

-- loop invariant: the group at the place was reached, `last` is its smallest member: the rest of the groups decides
pub record RisingGroups (n : ℕ) (p : List ℕ) (rest at last : ℕ) : Type 0 where
  pub ahead : Ahead n p (suc rest) at
  pub same : groups_rise (groups_in p) ≡ rises (last ∷ map smallest (groups_from rest p (after p at)))

-- no group, and nothing to compare
pub rising_none : (p : List ℕ) (left : ℕ) → left ≡ groups_counted p → left ≡ 0 → true ≡ groups_rise (groups_in p)
unfolding groups_in
rising_none p left e z = ap (λ (k : ℕ). groups_rise (groups_from k p least_plan_bytes)) (sym z ∙ e)

pub rising_start : (n : ℕ) (p : List ℕ) (rest g : ℕ) → Readable n p → groups_counted p ≡ suc rest → g ≡ get_or (group_at p least_plan_bytes) 0 0
    → RisingGroups n p rest least_plan_bytes g
unfolding groups_in
rising_start n p rest g r e q =
    let w : Ahead n p (suc rest) least_plan_bytes = ahead_start n p (suc rest) r (sym e) in
    record {
      ahead = w;
      same = ap (λ (i : ℕ). groups_rise (groups_from i p least_plan_bytes)) e
          ∙ rw (first_smallest n p least_plan_bytes g (ahead_fits n p (suc rest) least_plan_bytes w (omega arith)) q) refl;
    }

-- the group after it
rising_ahead : (n : ℕ) (p : List ℕ) (rest more at last : ℕ) → RisingGroups n p rest at last → rest ≡ suc more → (next : ℕ) → next ≡ after p at → Ahead n p (suc more) next
rising_ahead n p rest more at last w h next e = ahead_step n p (suc more) at next (rw h at w.ahead) e

pub rising_fits : (n : ℕ) (p : List ℕ) (rest more at last : ℕ) → RisingGroups n p rest at last → rest ≡ suc more → (next : ℕ) → next ≡ after p at → ReadableGroup n p next
rising_fits n p rest more at last w h next e = ahead_fits n p (suc more) next (rising_ahead n p rest more at last w h next e) (omega arith)

module _ (n : ℕ) (p : List ℕ) (rest more at last : ℕ) (w : RisingGroups n p rest at last) (h : rest ≡ suc more) (next g : ℕ) (e : next ≡ after p at)
    (q : g ≡ get_or (group_at p next) 0 0) where
  -- one group more
  next_smallest : groups_rise (groups_in p) ≡ rises (last ∷ g ∷ map smallest (groups_from more p (after p next)))
  next_smallest = w.same ∙ rw (h, sym e, first_smallest n p next g (rising_fits n p rest more at last w h next e) q) refl

  pub rising_fails : g ≤ last → false ≡ groups_rise (groups_in p)
  rising_fails l = sym (next_smallest ∙ rw (le-ltb last g l))

  pub rising_step : last < g → RisingGroups n p more next g
  rising_step l = record { ahead = rising_ahead n p rest more at last w h next e; same = next_smallest ∙ rw (lt-ltb last g l) }

pub rising_end : (n : ℕ) (p : List ℕ) (rest at last : ℕ) → RisingGroups n p rest at last → rest ≡ 0 → true ≡ groups_rise (groups_in p)
rising_end n p rest at last w z = sym (w.same ∙ ap (λ (k : ℕ). rises (last ∷ map smallest (groups_from k p (after p at)))) z)
