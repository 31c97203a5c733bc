-- The place of a gate's group in the plan: a gate without one is a group alone; at that of any other stands its group, of two or more members.
use Rattle.std.specs.Prelude.{ℕ, zero, suc, ◌≤◌, ◌<◌, ◌≡◌, refl, false, List, ◌∷◌, [], ◌⊎◌}
use Rattle.std.proofs.Common.{arith, sym, ◌∙◌, true≢false, inl, inr}
use Rattle.std.proofs.Math.Path.{ap}
use Rattle.std.proofs.Math.ListN.{length}
use Rattle.base.specs.Lists.{◌∈◌, elem}
use Rattle.base.specs.MemberLaws.{elem→∈, ∈→elem}
use Rattle.base.specs.TestLaws.{split}
use Rattle.circuit.specs.PlainCircuit.{gate_count}
use Rattle.plan.specs.PlanFile.{groups_counted, group_at, after, groups_from, groups_in, Ends, Rising, EachGroup, Listed, Apart}
use Rattle.plan.specs.Limits.{least_plan_bytes}
use Rattle.plan.specs.Groups.{smallest, group_of, members}
use Rattle.plan.specs.Accepted.{Acceptable, Exist}
use Rattle.plan.specs.ListedLaws.{StandsIn, stands_each, name_to, members_listed, members_alone}
use Rattle.plan.specs.Places.{place_from, place_of}

-- what stands at a place of the plan: a group of the list, which lies in the file and lists the gate
pub record FoundAt (n : ℕ) (p : List ℕ) (at g place : ℕ) : Type 0 where
  pub stands : StandsIn (groups_from n p at) (group_at p place)
  pub lists : g ∈ group_at p place
  pub lies : after p place ≤ length p

place_none : (n : ℕ) (p : List ℕ) (at g : ℕ) → 0 < at → place_from n p at g ≡ 0 → Listed (groups_from n p at) g → ⊥
place_none zero p at g h e l = l
place_none (suc n) p at g h e l =
    split (elem g (group_at p at)) (λ t. omega (arith, rw t at e)) (λ t. place_none n p (after p at) g (omega arith) (rw t at e) (later t l))
  where
    later : elem g (group_at p at) ≡ false → (g ∈ group_at p at) ⊎ Listed (groups_from n p (after p at)) g → Listed (groups_from n p (after p at)) g
    later t (inl m) = absurd (true≢false (sym (∈→elem g (group_at p at) m) ∙ t))
    later t (inr k) = k

place_some : (n : ℕ) (p : List ℕ) (at g : ℕ) → Ends n p at → (place_from n p at g ≡ 0 → ⊥) → FoundAt n p at g (place_from n p at g)
place_some zero p at g e h = absurd (h refl)
place_some (suc n) p at g (l, e) h =
    split (elem g (group_at p at))
    (λ t. rw t (record { stands = inl refl; lists = elem→∈ g (group_at p at) t; lies = l }))
    (λ t. rw t (let r = place_some n p (after p at) g e (rw t at h) in record { stands = inr r.stands; lists = r.lists; lies = r.lies }))

-- of the plan's groups
module _ (p : List ℕ) (g : ℕ) where
  pub unplaced : place_of p g ≡ 0 → Listed (groups_in p) g → ⊥
  unfolding place_of groups_in
  unplaced e l = place_none (groups_counted p) p least_plan_bytes g (omega arith) e l

  pub placed_group : Ends (groups_counted p) p least_plan_bytes → (place_of p g ≡ 0 → ⊥) → FoundAt (groups_counted p) p least_plan_bytes g (place_of p g)
  unfolding place_of
  placed_group e h = place_some (groups_counted p) p least_plan_bytes g e h

-- the members of a gate's group, of n gates
module _ (n : ℕ) (p : List ℕ) (two : EachGroup (λ G. 2 ≤ length G) (groups_in p)) (rising : EachGroup Rising (groups_in p)) (once : Apart (groups_in p)) (g : ℕ) where
  -- a gate without a place is a group alone
  pub place_alone : g < n → place_of p g ≡ 0 → members n (group_of (groups_in p)) g ≡ g ∷ []
  place_alone l e = members_alone n (groups_in p) two rising once g l (unplaced p g e)

  -- those of a gate with a place stand there
  pub place_members : EachGroup (Exist n) (groups_in p) → Ends (groups_counted p) p least_plan_bytes → (place_of p g ≡ 0 → ⊥)
      → members n (group_of (groups_in p)) (smallest (group_at p (place_of p g))) ≡ group_at p (place_of p g)
  unfolding groups_in
  place_members exist e h = members_listed n (groups_in p) two rising once exist (group_at p (place_of p g)) (placed_group p g e h).stands

  pub place_name : Ends (groups_counted p) p least_plan_bytes → (place_of p g ≡ 0 → ⊥) → group_of (groups_in p) g ≡ smallest (group_at p (place_of p g))
  unfolding groups_in
  place_name e h = let r = placed_group p g e h in name_to (groups_in p) (group_at p (place_of p g)) g once r.stands r.lists

  pub place_two : Ends (groups_counted p) p least_plan_bytes → (place_of p g ≡ 0 → ⊥) → 2 ≤ length (group_at p (place_of p g))
  unfolding groups_in
  place_two e h = stands_each (λ G. 2 ≤ length G) (groups_in p) (group_at p (place_of p g)) (placed_group p g e h).stands two

-- what an accepted plan p for the rule s lists at the place of the group q
pub record ListedAt (s p : List ℕ) (q place : ℕ) : Type 0 where
  pub listed : members (gate_count s) (group_of (groups_in p)) q ≡ group_at p place
  pub two : 2 ≤ length (group_at p place)
  pub exist : Exist (gate_count s) (group_at p place)
  pub lies : after p place ≤ length p

-- a group by its name, which is its smallest member
module _ (s p : List ℕ) (a : Acceptable s p) (q : ℕ) where
  pub group_alone : q < gate_count s → place_of p q ≡ 0 → members (gate_count s) (group_of (groups_in p)) q ≡ q ∷ []
  group_alone l e = place_alone (gate_count s) p a.laid_out.joins a.laid_out.rising a.once q l e

  pub group_listed : group_of (groups_in p) q ≡ q → (place_of p q ≡ 0 → ⊥) → ListedAt s p q (place_of p q)
  unfolding groups_in
  group_listed e h =
      let r = placed_group p q a.laid_out.ended h in
      let n = place_name (gate_count s) p a.laid_out.joins a.laid_out.rising a.once q a.laid_out.ended h in
      record {
        listed = ap (members (gate_count s) (group_of (groups_in p))) (sym e ∙ n)
            ∙ place_members (gate_count s) p a.laid_out.joins a.laid_out.rising a.once q a.exist a.laid_out.ended h;
        two = place_two (gate_count s) p a.laid_out.joins a.laid_out.rising a.once q a.laid_out.ended h;
        exist = stands_each (Exist (gate_count s)) (groups_in p) (group_at p (place_of p q)) r.stands a.exist;
        lies = r.lies;
      }
