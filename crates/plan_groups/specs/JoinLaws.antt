-- Row 26 with the tables, group by group: no gate is in two groups, and every gate's group and place.
use Rattle.std.specs.Prelude.{ℕ, zero, suc, ◌≤◌, ◌<◌, ◌≡◌, refl, List, Bool, true, false, cond, ◌⊎◌, ◌↔◌, eqb, length, get_or, replicate}
use Rattle.std.proofs.Common.{sym, ap, ◌∙◌, inl, inr, arith, eqb-true, eq-eqb, ne_eqb}
use Rattle.std.proofs.lemmas.Bool.{false≢true}
use Rattle.std.proofs.lemmas.List.{length-replicate}
use Rattle.base.specs.Lists.{◌∈◌, elem, every}
use Rattle.base.specs.MemberLaws.{elem→∈, ∈→elem, every_right}
use Rattle.base.specs.TestLaws.{split}
use Rattle.base.specs.ListLaws.{get_or_zeros}
use Rattle.plan.specs.PlanFile.{groups_counted, group_at, after, groups_from, groups_in, Listed, Apart}
use Rattle.plan.specs.Limits.{least_plan_bytes}
use Rattle.plan.specs.Groups.{smallest, group_of}
use Rattle.plan.specs.Rows.{apart}
use Rattle.plan.specs.RowLaws.{apart_right}
use Rattle.plan.specs.Places.{place_from, place_of}
use Rattle.plan_groups.specs.Tables.{group_table, place_table, each_alone}
use Rattle.plan_groups.specs.Tests.{put_all}
use Rattle.plan_groups.specs.Walks.{Readable, Ahead, ReadableGroup}
use Rattle.plan_groups.specs.GroupLaws.{ahead_start, ahead_fits, ahead_step}
use Rattle.plan_groups.specs.TableLaws.{alone_length, alone_at, alone_after, group_table_lem, place_table_lem, put_all_length, put_all_at}
use Rattle.plan_groups.specs.PutLaws.{free}

-- Every group: the groups from the place at on are left; the gates that have a place already have their group.

pub record JoiningGroups (n : ℕ) (p group places : List ℕ) (left at : ℕ) : Type 0 where
  pub ahead : Ahead n p left at
  pub group_size : length group ≡ 256
  pub joined_size : length places ≡ 256
  pub once : Apart (groups_in p) ↔ (Apart (groups_from left p at) × ((g : ℕ) → Listed (groups_from left p at) g → get_or places g 0 ≡ 0))
  pub groups : (g : ℕ) → g < n → group_of (groups_in p) g ≡ cond (eqb (get_or places g 0) 0) (group_of (groups_from left p at) g) (get_or group g 0)
  pub placing : (g : ℕ) → g < n → place_of p g ≡ cond (eqb (get_or places g 0) 0) (place_from left p at g) (get_or places g 0)
  pub alone : (g : ℕ) → g < n → get_or places g 0 ≡ 0 → get_or group g 0 ≡ g
  pub beyond : (g : ℕ) → n ≤ g → (get_or group g 0 ≡ 0) × (get_or places g 0 ≡ 0)

pub joining_start : (n : ℕ) (p group places : List ℕ) (left : ℕ) → Readable n p → left ≡ groups_counted p → group ≡ each_alone n → places ≡ replicate 256 0
    → JoiningGroups n p group places left least_plan_bytes
unfolding groups_in place_of
joining_start n p group places left r e d j =
    rw (d, j, e) (record {
      ahead = ahead_start n p (groups_counted p) r refl;
      group_size = alone_length n r.room;
      joined_size = length-replicate {A = ℕ} 256 0;
      once = (λ a. (a, λ g m. get_or_zeros 256 g), λ a. a.0);
      groups = λ g h. rw (get_or_zeros 256 g);
      placing = λ g h. rw (get_or_zeros 256 g);
      alone = λ g h z. alone_at n g h;
      beyond = λ g h. (alone_after n g h, get_or_zeros 256 g);
    })

-- a group of which a member has a place already: some gate is in two groups
pub joining_fails : (n : ℕ) (p group places : List ℕ) (left at : ℕ) (r : Bool) → JoiningGroups n p group places left at → 0 < left
    → r ≡ every (free places) (group_at p at) → r ≡ false → false ≡ apart (groups_in p)
joining_fails n p group places zero at r w h e f = absurd (omega arith)
joining_fails n p group places (suc left) at r w h e f =
    split (apart (groups_in p))
    (λ t.
    let u = w.once.0 ((apart_right (groups_in p)).0 t) in
    absurd (false≢true (sym f ∙ e ∙ (every_right (free places) (group_at p at)).1 (λ g m. eq-eqb (get_or places g 0) 0 (u.1 g (inl m))))))
    (λ t. sym t)

module _ (n : ℕ) (p group places groupₙ placesₙ : List ℕ) (left at : ℕ) (w : JoiningGroups n p group places (suc left) at)
    (f : (g : ℕ) → g ∈ group_at p at → get_or places g 0 ≡ 0)
    (d : groupₙ ≡ put_all (group_at p at) (smallest (group_at p at)) group) (j : placesₙ ≡ put_all (group_at p at) at places) where
  fits : ReadableGroup n p at
  fits = ahead_fits n p (suc left) at w.ahead (omega arith)

  inside : (g : ℕ) → g ∈ group_at p at → g < 256
  inside g m = omega (arith, fits.exist g m, fits.room)

  group_is : (g : ℕ) → get_or groupₙ g 0 ≡ cond (elem g (group_at p at)) (smallest (group_at p at)) (get_or group g 0)
  group_is g = ap (λ (l : List ℕ). get_or l g 0) d ∙ put_all_at (group_at p at) (smallest (group_at p at)) group (λ i m. rw w.group_size (inside i m)) g

  joined_is : (g : ℕ) → get_or placesₙ g 0 ≡ cond (elem g (group_at p at)) at (get_or places g 0)
  joined_is g = ap (λ (l : List ℕ). get_or l g 0) j ∙ put_all_at (group_at p at) at places (λ i m. rw w.joined_size (inside i m)) g

  some : eqb at 0 ≡ false
  some = ne_eqb at 0 (λ e. omega (arith, fits.begun))

  once_step : Apart (groups_in p) ↔ (Apart (groups_from left p (after p at)) × ((g : ℕ) → Listed (groups_from left p (after p at)) g → get_or placesₙ g 0 ≡ 0))
  once_step = (to, back)
    where
      to : Apart (groups_in p) → Apart (groups_from left p (after p at)) × ((g : ℕ) → Listed (groups_from left p (after p at)) g → get_or placesₙ g 0 ≡ 0)
      to a =
          let u = w.once.0 a in
          (u.0.1, λ g l. joined_is g ∙ split (elem g (group_at p at)) (λ t. absurd (u.0.0 g (elem→∈ g (group_at p at) t) l)) (λ t. rw t (u.1 g (inr l))))

      zero_is : (g : ℕ) → get_or placesₙ g 0 ≡ 0 → (elem g (group_at p at) ≡ false) × (get_or places g 0 ≡ 0)
      zero_is g z =
          split (elem g (group_at p at))
          (λ t. let e : at ≡ 0 = rw t at (sym (joined_is g) ∙ z) in absurd (omega (arith, fits.begun)))
          (λ t. (t, rw t at (sym (joined_is g) ∙ z)))

      back : Apart (groups_from left p (after p at)) × ((g : ℕ) → Listed (groups_from left p (after p at)) g → get_or placesₙ g 0 ≡ 0) → Apart (groups_in p)
      back (a, z) = w.once.1 ((λ g m l. false≢true (sym (zero_is g (z g l)).0 ∙ ∈→elem g (group_at p at) m), a), each)
        where
          each : (g : ℕ) → (g ∈ group_at p at) ⊎ Listed (groups_from left p (after p at)) g → get_or places g 0 ≡ 0
          each g (inl m) = f g m
          each g (inr l) = (zero_is g (z g l)).1

  groups_step : (g : ℕ) → g < n → group_of (groups_in p) g ≡ cond (eqb (get_or placesₙ g 0) 0) (group_of (groups_from left p (after p at)) g) (get_or groupₙ g 0)
  groups_step g h =
      w.groups g h
      ∙ split (elem g (group_at p at))
      (λ t. rw (group_is g, joined_is g, t, some, eq-eqb (get_or places g 0) 0 (f g (elem→∈ g (group_at p at) t))))
      (λ t. rw (group_is g, joined_is g, t))

  places_step : (g : ℕ) → g < n → place_of p g ≡ cond (eqb (get_or placesₙ g 0) 0) (place_from left p (after p at) g) (get_or placesₙ g 0)
  places_step g h =
      w.placing g h
      ∙ split (elem g (group_at p at))
      (λ t. rw (joined_is g, t, some, eq-eqb (get_or places g 0) 0 (f g (elem→∈ g (group_at p at) t))))
      (λ t. rw (joined_is g, t))

  alone_step : (g : ℕ) → g < n → get_or placesₙ g 0 ≡ 0 → get_or groupₙ g 0 ≡ g
  alone_step g h z =
      split (elem g (group_at p at))
      (λ t. let e : at ≡ 0 = rw t at (sym (joined_is g) ∙ z) in absurd (omega (arith, fits.begun)))
      (λ t. group_is g ∙ rw t (w.alone g h (rw t at (sym (joined_is g) ∙ z))))

  beyond_step : (g : ℕ) → n ≤ g → (get_or groupₙ g 0 ≡ 0) × (get_or placesₙ g 0 ≡ 0)
  beyond_step g h =
      let t : elem g (group_at p at) ≡ false = split (elem g (group_at p at)) (λ t. absurd (omega (arith, fits.exist g (elem→∈ g (group_at p at) t)))) (λ t. t) in
      (group_is g ∙ rw t (w.beyond g h).0, joined_is g ∙ rw t (w.beyond g h).1)

pub joining_step : (n : ℕ) (p group places groupₙ placesₙ : List ℕ) (left rest at next : ℕ) (r : Bool) → JoiningGroups n p group places left at → left ≡ suc rest
    → r ≡ every (free places) (group_at p at) → r ≡ true → next ≡ after p at
    → groupₙ ≡ put_all (group_at p at) (smallest (group_at p at)) group → placesₙ ≡ put_all (group_at p at) at places
    → JoiningGroups n p groupₙ placesₙ rest next
joining_step n p group places groupₙ placesₙ left rest at next r v h e t q d j =
    let w : JoiningGroups n p group places (suc rest) at = rw h at v in
    let f : (g : ℕ) → g ∈ group_at p at → get_or places g 0 ≡ 0 = λ g m. eqb-true (get_or places g 0) 0 ((every_right (free places) (group_at p at)).0 (sym e ∙ t) g m) in
    rw q (record {
      ahead = ahead_step n p rest at (after p at) w.ahead refl;
      group_size = ap length d ∙ put_all_length (group_at p at) (smallest (group_at p at)) group ∙ w.group_size;
      joined_size = ap length j ∙ put_all_length (group_at p at) at places ∙ w.joined_size;
      once = once_step n p group places groupₙ placesₙ rest at w f d j;
      groups = groups_step n p group places groupₙ placesₙ rest at w f d j;
      placing = places_step n p group places groupₙ placesₙ rest at w f d j;
      alone = alone_step n p group places groupₙ placesₙ rest at w f d j;
      beyond = beyond_step n p group places groupₙ placesₙ rest at w f d j;
    })

-- no group is left
module _ (n : ℕ) (p group places : List ℕ) (at : ℕ) (w : JoiningGroups n p group places 0 at) where
  end_once : true ≡ apart (groups_in p)
  end_once = sym ((apart_right (groups_in p)).1 (w.once.1 (tt, λ g l. absurd l)))

  end_group : (g : ℕ) → g < n → get_or group g 0 ≡ group_of (groups_in p) g
  end_group g h = sym (w.groups g h ∙ split (eqb (get_or places g 0) 0) (λ t. rw t (sym (w.alone g h (eqb-true (get_or places g 0) 0 t)))) (λ t. rw t))

  end_place : (g : ℕ) → g < n → get_or places g 0 ≡ place_of p g
  end_place g h = sym (w.placing g h ∙ split (eqb (get_or places g 0) 0) (λ t. rw t (sym (eqb-true (get_or places g 0) 0 t))) (λ t. rw t))

  end_all : (true ≡ apart (groups_in p)) × ((group ≡ group_table n (groups_in p)) × (places ≡ place_table n p))
  end_all = (
    end_once,
    (
      group_table_lem p group n w.ahead.room w.group_size end_group (λ g h. (w.beyond g h).0),
      place_table_lem p places n w.ahead.room w.joined_size end_place (λ g h. (w.beyond g h).1),
    ),
  )

pub joining_end : (n : ℕ) (p group places : List ℕ) (left at : ℕ) → JoiningGroups n p group places left at → left ≤ 0
    → (true ≡ apart (groups_in p)) × ((group ≡ group_table n (groups_in p)) × (places ≡ place_table n p))
joining_end n p group places left at w h = let e : left ≡ 0 = omega arith in end_all n p group places at (rw e at w)
