-- The tables of groups and places: what lies in them, before any group is joined and at the end.
use Rattle.std.specs.Prelude.{ℕ, ◌+◌, ◌≤◌, ◌<◌, ◌≡◌, refl, List, [], ◌∷◌, map, Bool, true, false, cond, ◌⊎◌, length, get_or, set, replicate, ltb}
use Rattle.std.proofs.Common.{sym, ap, ◌∙◌, inl, inr, arith, length-set, get_or-set_same, get_or-set_other, ext_get_or, eq-eqb, ne_eqb, ltb-true, ltb-false}
use Rattle.std.proofs.lemmas.List.{length-map, length-replicate}
use Rattle.std.proofs.Math.ListN.{get_or-eq_default}
use Rattle.base.specs.Lists.{◌∈◌, elem, upto}
use Rattle.base.specs.ListLaws.{length_from, get_or_zeros, get_or_upto}
use Rattle.base.specs.TestLaws.{split, same?}
use Rattle.circuit.specs.Limits.{most_gates}
use Rattle.base.specs.Buffers.{padded}
use Rattle.base.specs.BufferLaws.{padded_at, padded_length}
use Rattle.plan.specs.PlanFile.{groups_in}
use Rattle.plan.specs.Groups.{group_of}
use Rattle.plan.specs.Places.{place_of}
use Rattle.plan_groups.specs.Tables.{group_table, place_table, each_alone}
use Rattle.plan_groups.specs.Tests.{put_all}

-- a run of numbers in a table: its length, what lies in it, and zeros after it
module _ (f : ℕ → ℕ) (n : ℕ) where
  run_length : length (map f (upto n)) ≡ n
  run_length = length-map (upto n) f ∙ length_from 0 n

  table_length : n ≤ most_gates → length (padded most_gates (map f (upto n))) ≡ 256
  table_length h = padded_length most_gates (map f (upto n)) (rw run_length h)

  table_at : (g : ℕ) → g < n → get_or (padded most_gates (map f (upto n))) g 0 ≡ f g
  table_at g h = padded_at most_gates (map f (upto n)) g ∙ get_or_upto f 0 n g h

  table_after : (g : ℕ) → n ≤ g → get_or (padded most_gates (map f (upto n))) g 0 ≡ 0
  table_after g h = padded_at most_gates (map f (upto n)) g ∙ get_or-eq_default (map f (upto n)) 0 {n = g} (rw run_length h)

  -- a table that holds them is that table
  table_is : (l : List ℕ) → n ≤ most_gates → length l ≡ 256 → ((g : ℕ) → g < n → get_or l g 0 ≡ f g) → ((g : ℕ) → n ≤ g → get_or l g 0 ≡ 0)
      → l ≡ padded most_gates (map f (upto n))
  table_is l h e a b = ext_get_or 0 l (padded most_gates (map f (upto n))) (e ∙ sym (table_length h)) (λ g k. each g (below? g))
    where
      below? : (g : ℕ) → (g < n) ⊎ (n ≤ g)
      below? g = split (ltb g n) (λ t. inl (ltb-true g n t)) (λ t. inr (ltb-false g n t))

      each : (g : ℕ) → (g < n) ⊎ (n ≤ g) → get_or l g 0 ≡ get_or (padded most_gates (map f (upto n))) g 0
      each g (inl k) = a g k ∙ sym (table_at g k)
      each g (inr k) = b g k ∙ sym (table_after g k)

map_itself : (l : List ℕ) → map (λ g. g) l ≡ l
map_itself [] = refl
map_itself (a ∷ l) = ap (λ (r : List ℕ). a ∷ r) (map_itself l)

-- each gate alone
alone_is : (n : ℕ) → each_alone n ≡ padded most_gates (map (λ g. g) (upto n))
unfolding each_alone
alone_is n = ap (padded most_gates) (sym (map_itself (upto n)))

pub alone_length : (n : ℕ) → n ≤ most_gates → length (each_alone n) ≡ 256
alone_length n h = ap length (alone_is n) ∙ table_length (λ g. g) n h

pub alone_at : (n g : ℕ) → g < n → get_or (each_alone n) g 0 ≡ g
alone_at n g h = ap (λ (l : List ℕ). get_or l g 0) (alone_is n) ∙ table_at (λ i. i) n g h

pub alone_after : (n g : ℕ) → n ≤ g → get_or (each_alone n) g 0 ≡ 0
alone_after n g h = ap (λ (l : List ℕ). get_or l g 0) (alone_is n) ∙ table_after (λ i. i) n g h

-- the tables at the end
pub group_table_lem : (p l : List ℕ) (n : ℕ) → n ≤ most_gates → length l ≡ 256 → ((g : ℕ) → g < n → get_or l g 0 ≡ group_of (groups_in p) g) → ((g : ℕ) → n ≤ g → get_or l g 0 ≡ 0)
    → l ≡ group_table n (groups_in p)
unfolding group_table
group_table_lem p l n h e a b = table_is (group_of (groups_in p)) n l h e a b

pub place_table_lem : (p l : List ℕ) (n : ℕ) → n ≤ most_gates → length l ≡ 256 → ((g : ℕ) → g < n → get_or l g 0 ≡ place_of p g) → ((g : ℕ) → n ≤ g → get_or l g 0 ≡ 0)
    → l ≡ place_table n p
unfolding place_table
place_table_lem p l n h e a b = table_is (place_of p) n l h e a b

-- what callers read in them
pub group_at_lem : (n : ℕ) (p : List ℕ) (g : ℕ) → g < n → get_or (group_table n (groups_in p)) g 0 ≡ group_of (groups_in p) g
unfolding group_table
group_at_lem n p g h = table_at (group_of (groups_in p)) n g h

pub place_at : (n : ℕ) (p : List ℕ) (g : ℕ) → g < n → get_or (place_table n p) g 0 ≡ place_of p g
unfolding place_table
place_at n p g h = table_at (place_of p) n g h

-- The loop that numbers the gates.

pub record CountingGates (n : ℕ) (group : List ℕ) (g : ℕ) : Type 0 where
  pub low : g ≤ n
  pub room : n ≤ most_gates
  pub size : length group ≡ 256
  pub below : (i : ℕ) → i < g → get_or group i 0 ≡ i
  pub after : (i : ℕ) → g ≤ i → get_or group i 0 ≡ 0

pub counting_start : (n : ℕ) (group : List ℕ) → n ≤ most_gates → group ≡ replicate 256 0 → CountingGates n group 0
counting_start n group h e =
    record {
      low = omega arith;
      room = h;
      size = ap length e ∙ length-replicate {A = ℕ} 256 0;
      below = λ i l. absurd (omega arith);
      after = λ i l. ap (λ (t : List ℕ). get_or t i 0) e ∙ get_or_zeros 256 i;
    }

pub counting_step : (n : ℕ) (group new : List ℕ) (g : ℕ) → CountingGates n group g → g < n → new ≡ set group g g → CountingGates n new (g + 1)
counting_step n group new g w h e =
    rw e (record {
      low = omega arith;
      room = w.room;
      size = length-set group g g ∙ w.size;
      below = λ i l. each i l (same? i g);
      after = λ i l. get_or-set_other group g i g 0 (λ q. omega arith) ∙ w.after i (omega arith);
    })
  where
    each : (i : ℕ) → i < g + 1 → (i ≡ g) ⊎ (i ≡ g → ⊥) → get_or (set group g g) i 0 ≡ i
    each i l (inl q) = rw q (get_or-set_same group g g 0 (rw w.size (omega (arith, w.room))))
    each i l (inr m) = get_or-set_other group g i g 0 m ∙ w.below i (omega arith)

pub counting_end : (n : ℕ) (group : List ℕ) (g : ℕ) → CountingGates n group g → n ≤ g → group ≡ each_alone n
counting_end n group g w h =
    table_is (λ i. i) n group w.room w.size (λ i l. w.below i (omega arith)) (λ i l. w.after i (omega (arith, w.low))) ∙ sym (alone_is n)

-- A number put at the places of a list.

pub put_all_length : (G : List ℕ) (v : ℕ) (l : List ℕ) → length (put_all G v l) ≡ length l
put_all_length [] v l = refl
put_all_length (g ∷ G) v l = put_all_length G v (set l g v) ∙ length-set l g v

pub put_all_at : (G : List ℕ) (v : ℕ) (l : List ℕ) → ((g : ℕ) → g ∈ G → g < length l) → (i : ℕ) → get_or (put_all G v l) i 0 ≡ cond (elem i G) v (get_or l i 0)
put_all_at [] v l h i = refl
put_all_at (g ∷ G) v l h i =
    put_all_at G v (set l g v) (λ k m. rw (length-set l g v) (h k (inr m))) i ∙ go (same? i g)
  where
    go : (i ≡ g) ⊎ (i ≡ g → ⊥) → cond (elem i G) v (get_or (set l g v) i 0) ≡ cond (elem i (g ∷ G)) v (get_or l i 0)
    go (inl e) =
        let s : get_or (set l g v) i 0 ≡ v = rw e (get_or-set_same l g v 0 (h g (inl refl))) in
        rw (eq-eqb i g e, s) (both_ways (elem i G))
      where
        both_ways : (b : Bool) → cond b v v ≡ v
        both_ways true = refl
        both_ways false = refl
    go (inr m) = rw (ne_eqb i g m, get_or-set_other l g i v 0 m)
