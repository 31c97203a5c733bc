-- What the check of a plan depends on: no group of a gate past the circuit, nor how the sets are held past their end.
use Rattle.std.specs.Prelude.{ℕ, zero, suc, ◌<◌, ◌≡◌, refl, Bool, true, eqb, leb, length}
use Rattle.std.proofs.Math.Path.{ap, ap₂}
use Rattle.std.proofs.Common.{◌∙◌, inl, inr, arith}
use Rattle.std.proofs.Math.Bool.{cond}
use mathlib.Core.List.{List, [], ◌∷◌, ◌++◌, map}
use Rattle.std.proofs.Math.Option.{Option, none, some}
use Rattle.std.proofs.Math.ListN.{get_or}
use Rattle.base.specs.Lists.{◌∈◌, upto, flat, every}
use Rattle.base.specs.ListLaws.{keep_same, map_same}
use Rattle.base.specs.MemberLaws.{from_below, flat_in, every_same}
use Rattle.base.specs.Sets.{rests, excludes}
use Rattle.circuit.specs.Gates.{Gates, gate_at, arguments, Earlier, conditions}
use Rattle.circuit.specs.Limits.{most_conditions}
use Rattle.circuit.specs.PlainCircuit.{gates_of}
use Rattle.circuit_needed.specs.Pass.{rule_preconditions}
use Rattle.circuit.specs.Whole.{rule_answer}
use Rattle.plan.specs.PlanFile.{Plan, groups_in}
use Rattle.plan.specs.Groups.{groups, members, rests_of, reads_of, waits_for}
use Rattle.plan.specs.GroupLaws.{of_member}
use Rattle.plan.specs.Order.{all_in, first_ready, schedule, order}
use Rattle.plan.specs.Rows.{every_group, parted, layout_rows, join_rows, order_rows, first_failing, placed, plan_row, plan_answer}
use Rattle.plan.specs.ReadsLaws.{reads_inside}

-- The order over the same waits.

module _ (W Z : ℕ → List ℕ) (same : (p : ℕ) → W p ≡ Z p) where
  first_same : (done l : List ℕ) → first_ready W done l ≡ first_ready Z done l
  first_same done [] = refl
  first_same done (p ∷ l) = rw (same p, first_same done l)

  schedule_same : (gs : List ℕ) (k : ℕ) (done : List ℕ) → schedule W gs k done ≡ schedule Z gs k done
  schedule_same gs zero done = refl
  schedule_same gs (suc k) done =
      ap (λ (f : Option ℕ). elim f [ none ↦ done | some p ↦ schedule W gs k (p ∷ done) ]) (first_same done gs) ∙ go (first_ready Z done gs)
      (λ p. schedule_same gs k (p ∷ done))
    where
      go : (f : Option ℕ) → ((p : ℕ) → schedule W gs k (p ∷ done) ≡ schedule Z gs k (p ∷ done))
          → ◌≡◌ {A = List ℕ} (elim f [ none ↦ done | some p ↦ schedule W gs k (p ∷ done) ]) (elim f [ none ↦ done | some p ↦ schedule Z gs k (p ∷ done) ])
      go none ih = refl
      go (some p) ih = ih p

-- Two maps that agree on the gates of the circuit.

groups_same : (n : ℕ) (f h : ℕ → ℕ) → ((x : ℕ) → x < n → f x ≡ h x) → groups n f ≡ groups n h
unfolding groups
groups_same n f h e =
    keep_same (λ p. eqb (f p) p) (λ p. eqb (h p) p) (upto n) (λ p m. ap (λ (x : ℕ). eqb x p) (e p (omega (arith, from_below 0 n p m))))

pub members_same : (n : ℕ) (f h : ℕ → ℕ) → ((x : ℕ) → x < n → f x ≡ h x) → (p : ℕ) → members n f p ≡ members n h p
members_same n f h e p =
    keep_same (λ g. eqb (f g) p) (λ g. eqb (h g) p) (upto n) (λ g m. ap (λ (x : ℕ). eqb x p) (e g (omega (arith, from_below 0 n g m))))

module _ (C : Gates) (earlier : Earlier C) (sets : List ℕ) (f h : ℕ → ℕ) (e : (x : ℕ) → x < length C → f x ≡ h x) where
  waits_same : (p : ℕ) → waits_for C sets f p ≡ waits_for C sets h p
  unfolding waits_for
  waits_same p =
      map_same f h (flat (reads_of C sets (members (length C) f p)) (members (length C) f p))
      (λ a m.
      let r = flat_in (reads_of C sets (members (length C) f p)) a (members (length C) f p) m in
      e a (reads_inside C earlier sets (members (length C) f p) r.0 a (of_member (length C) f r.0 p r.1).0 r.2))
      ∙ ap (λ (ms : List ℕ). map h (flat (reads_of C sets ms) ms)) (members_same (length C) f h e p)

  pub order_same : order C sets f ≡ order C sets h
  unfolding order
  order_same =
      schedule_same (waits_for C sets f) (waits_for C sets h) waits_same (groups (length C) f) (length (groups (length C) f)) []
      ∙ ap (λ (gs : List ℕ). schedule (waits_for C sets h) gs (length gs) []) (groups_same (length C) f h e)

  pub placed_same : placed C sets f ≡ placed C sets h
  unfolding placed
  placed_same = ap₂ all_in (groups_same (length C) f h e) order_same

-- Two lists of sets that read alike: an array padded with zeros reads as the list.

flat_same : (f h : ℕ → List ℕ) (l : List ℕ) → ((a : ℕ) → a ∈ l → f a ≡ h a) → flat f l ≡ flat h l
flat_same f h [] e = refl
flat_same f h (x ∷ l) e = rw (e x (inl refl), flat_same f h l (λ a m. e a (inr m)))

module _ (C : Gates) (sets tabs : List ℕ) (e : (m : ℕ) → get_or sets m 0 ≡ get_or tabs m 0) where
  pub rests_same : (m : ℕ) → rests_of C sets m ≡ rests_of C tabs m
  unfolding rests_of
  rests_same m = ap (λ (s : ℕ). map (λ t. get_or (conditions C) t 0) (rests most_conditions s)) (e m)

module _ (C : Gates) (sets tabs : List ℕ) (e : (m : ℕ) → get_or sets m 0 ≡ get_or tabs m 0) (group : ℕ → ℕ) where
  waits_sets_same : (p : ℕ) → waits_for C sets group p ≡ waits_for C tabs group p
  unfolding waits_for
  waits_sets_same p =
      let ms = members (length C) group p in
      ap (map group) (flat_same (reads_of C sets ms) (reads_of C tabs ms) ms
      (λ m k. ap (λ (l : List ℕ). arguments (gate_at C m) ++ cond (leb 2 (length ms)) l []) (rests_same C sets tabs e m)))

  pub order_sets_same : order C sets group ≡ order C tabs group
  unfolding order
  order_sets_same = schedule_same (waits_for C sets group) (waits_for C tabs group) waits_sets_same (groups (length C) group) (length (groups (length C) group)) []

  pub placed_sets_same : placed C sets group ≡ placed C tabs group
  unfolding placed
  placed_sets_same = ap (all_in (groups (length C) group)) order_sets_same

-- The rows over the same sets.

parted_same : (s t : List ℕ) → ((g : ℕ) → get_or s g 0 ≡ get_or t g 0) → (G : List ℕ) → parted s G ≡ parted t G
parted_same s t h G =
    every_same
    (λ m. every (λ k. cond (eqb m k) true (excludes (get_or s m 0) (get_or s k 0))) G)
    (λ m. every (λ k. cond (eqb m k) true (excludes (get_or t m 0) (get_or t k 0))) G)
    G
    (λ m i. every_same (λ k. cond (eqb m k) true (excludes (get_or s m 0) (get_or s k 0))) (λ k. cond (eqb m k) true (excludes (get_or t m 0) (get_or t k 0))) G
    (λ k j. rw (h m, h k)))

each_same : (s t : List ℕ → Bool) → ((G : List ℕ) → s G ≡ t G) → (Gs : Plan) → every_group s Gs ≡ every_group t Gs
each_same s t h [] = refl
each_same s t h (G ∷ Gs) = rw (h G, each_same s t h Gs)

-- the rows 32 and 27 to 29 with the one are those with the other
pub joins_same : (C : Gates) (s t p : List ℕ) → ((g : ℕ) → get_or s g 0 ≡ get_or t g 0) → first_failing (join_rows C s p) ≡ first_failing (join_rows C t p)
joins_same C s t p h = rw (each_same (parted s) (parted t) (parted_same s t h) (groups_in p))

-- the row of a plan depends on the rule's gates and their preconditions alone
pub row_same : (s t p : List ℕ) → gates_of s ≡ gates_of t → rule_preconditions s ≡ rule_preconditions t → plan_row s p ≡ plan_row t p
unfolding plan_row
row_same s t p g e = ap₂ (λ (C : Gates) (S : List ℕ). first_failing (layout_rows (length C) p ++ (join_rows C S p ++ order_rows C S p))) g e

-- and so does what the check answers, beside the rule's own answer
pub answer_same : (s t p : List ℕ) → rule_answer s ≡ rule_answer t → gates_of s ≡ gates_of t → rule_preconditions s ≡ rule_preconditions t → plan_answer s p ≡ plan_answer t p
unfolding plan_answer
answer_same s t p r g e = rw (r, row_same s t p g e)
