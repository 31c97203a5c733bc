-- Row 26 with the tables, for the members of one group: each takes the group's name and place.
use Rattle.std.specs.Prelude.{ℕ, ◌+◌, ◌≤◌, ◌<◌, ◌≡◌, List, ◌∷◌, Bool, true, false, eqb, get_or, set}
use Rattle.std.proofs.Common.{sym, ap, ◌∙◌, arith, get_or-set_other, eq-eqb, ne_eqb}
use Rattle.base.specs.Lists.{◌∈◌, every}
use Rattle.base.specs.MemberLaws.{every_same}
use Rattle.plan.specs.PlanFile.{group_at}
use Rattle.plan.specs.Groups.{smallest}
use Rattle.plan_groups.specs.Tests.{members_from, put_all}
use Rattle.plan_groups.specs.Walks.{ReadableGroup}
use Rattle.plan_groups.specs.MemberLaws.{members_step, members_end, members_all, Walk, walk_start, walk_step, walk_above}
use Rattle.plan_groups.specs.WalkLaws.{first_smallest}

-- no group has been given to the gate
abbrev pub free : List ℕ → ℕ → Bool
free places g = eqb (get_or places g 0) 0

-- The members of one group: what is left of them decides.

pub record PuttingMembers (n : ℕ) (p : List ℕ) (at first : ℕ) (group₀ places₀ group places : List ℕ) (k : ℕ) : Type 0 where
  pub walk : Walk n p at k
  pub named : first ≡ smallest (group_at p at)
  pub none : every (free places₀) (group_at p at) ≡ every (free places) (members_from p at k)
  pub groups : put_all (group_at p at) first group₀ ≡ put_all (members_from p at k) first group
  pub placing : put_all (group_at p at) at places₀ ≡ put_all (members_from p at k) at places

pub putting_start : (n : ℕ) (p : List ℕ) (at first : ℕ) (group places : List ℕ) → ReadableGroup n p at → first ≡ get_or (group_at p at) 0 0
    → PuttingMembers n p at first group places group places 0
putting_start n p at first group places f q =
    record {
      walk = walk_start n p at f;
      named = first_smallest n p at first f q;
      none = ap (every (free places)) (sym (members_all p at));
      groups = ap (λ (l : List ℕ). put_all l first group) (sym (members_all p at));
      placing = ap (λ (l : List ℕ). put_all l at places) (sym (members_all p at));
    }

-- two tests that are the same on a list pass the same lists
module _ (n : ℕ) (p : List ℕ) (at first : ℕ) (group₀ places₀ group places : List ℕ) (k g : ℕ)
    (w : PuttingMembers n p at first group₀ places₀ group places k) (h : k < get_or p at 0) (q : g ≡ get_or (group_at p at) k 0) where
  here : members_from p at k ≡ g ∷ members_from p at (k + 1)
  here = members_step p at k h ∙ ap (λ (i : ℕ). i ∷ members_from p at (k + 1)) (sym q)

  pub putting_fails : (get_or places g 0 ≡ 0 → ⊥) → false ≡ every (free places₀) (group_at p at)
  putting_fails f = sym (w.none ∙ ap (every (free places)) here ∙ rw (ne_eqb (get_or places g 0) 0 f))

  pub putting_step : (groupₙ joinedₙ : List ℕ) → get_or places g 0 ≡ 0 → groupₙ ≡ set group g first → joinedₙ ≡ set places g at
      → PuttingMembers n p at first group₀ places₀ groupₙ joinedₙ (k + 1)
  putting_step groupₙ joinedₙ f d e =
      record {
        walk = walk_step n p at k w.walk h;
        named = w.named;
        none = w.none ∙ ap (every (free places)) here ∙ rw (eq-eqb (get_or places g 0) 0 f)
            (every_same (free places) (free joinedₙ) (members_from p at (k + 1)) (λ i m. ap (λ (x : ℕ). eqb x 0) (sym (kept i m))));
        groups = w.groups ∙ ap (λ (l : List ℕ). put_all l first group) here ∙ ap (put_all (members_from p at (k + 1)) first) (sym d);
        placing = w.placing ∙ ap (λ (l : List ℕ). put_all l at places) here ∙ ap (put_all (members_from p at (k + 1)) at) (sym e);
      }
    where
      kept : (i : ℕ) → i ∈ members_from p at (k + 1) → get_or joinedₙ i 0 ≡ get_or places i 0
      kept i m = ap (λ (l : List ℕ). get_or l i 0) e ∙ get_or-set_other places g i at 0 (λ z. omega (arith, walk_above n p at k w.walk h i m))

module _ (n : ℕ) (p : List ℕ) (at first : ℕ) (group₀ places₀ group places : List ℕ) (k : ℕ)
    (w : PuttingMembers n p at first group₀ places₀ group places k) (h : get_or p at 0 ≤ k) where
  pub putting_free : true ≡ every (free places₀) (group_at p at)
  putting_free = sym (w.none ∙ ap (every (free places)) (members_end p at k h))

  pub putting_groups : group ≡ put_all (group_at p at) (smallest (group_at p at)) group₀
  putting_groups = sym (ap (λ (v : ℕ). put_all (group_at p at) v group₀) (sym w.named) ∙ w.groups ∙ ap (λ (l : List ℕ). put_all l first group) (members_end p at k h))

  pub putting_places : places ≡ put_all (group_at p at) at places₀
  putting_places = sym (w.placing ∙ ap (λ (l : List ℕ). put_all l at places) (members_end p at k h))
