-- A pass over the groups of a plan: where it stands, one group more, its end.
use Rattle.std.specs.Prelude.{ℕ, zero, suc, ◌+◌, ◌-◌, ◌≤◌, ◌<◌, ◌≡◌, refl, List, Bool, true, false, eqb, length, get_or}
use Rattle.std.proofs.Common.{sym, ap, ◌∙◌, inl, inr, arith, le-leb}
use Rattle.std.proofs.lemmas.Bool.{lt-leb}
use Rattle.base.specs.Lists.{◌∈◌}
use Rattle.plan.specs.PlanFile.{groups_counted, after, groups_from, groups_in, ends}
use Rattle.plan.specs.Limits.{least_plan_bytes, most_plan_bytes}
use Rattle.plan.specs.Rows.{every_group}
use Rattle.plan.specs.LayoutLaws.{length_numbers}
use Rattle.plan_groups.specs.Walks.{begins_from, begins, Readable, Lie, Ahead, ReadableGroup, Tells}

-- one more than n, less one, is n
pub pred : (n : ℕ) → suc n - 1 ≡ n
pred n = omega arith

-- loop invariant, for 23: what is left of the groups decides
pub record Ending (p : List ℕ) (left at : ℕ) : Type 0 where
  pub short : length p ≤ most_plan_bytes
  pub inside : at ≤ length p
  pub same : ends (groups_counted p) p least_plan_bytes ≡ ends left p at

pub ending_start : (p : List ℕ) (left : ℕ) → (least_plan_bytes ≤ length p) × (length p ≤ most_plan_bytes) → left ≡ groups_counted p → Ending p left least_plan_bytes
ending_start p left h e = record { short = h.1; inside = h.0; same = ap (λ (n : ℕ). ends n p least_plan_bytes) (sym e) }

ends_fail : (p : List ℕ) (left at : ℕ) → 0 < left → length p < after p at → ends left p at ≡ false
ends_fail p zero at h l = absurd (omega arith)
ends_fail p (suc n) at h l = rw (lt-leb (after p at) (length p) l)

pub ending_outside : (p : List ℕ) (left at : ℕ) → Ending p left at → 0 < left → length p ≤ at → false ≡ ends (groups_counted p) p least_plan_bytes
ending_outside p left at w h l = sym (w.same ∙ ends_fail p left at h (omega arith))

pub ending_past : (p : List ℕ) (left at next : ℕ) → Ending p left at → 0 < left → next ≡ after p at → length p < next → false ≡ ends (groups_counted p) p least_plan_bytes
ending_past p left at next w h e l = sym (w.same ∙ ends_fail p left at h (omega arith))

pub ending_step : (p : List ℕ) (left rest at next : ℕ) → Ending p left at → left ≡ suc rest → next ≡ after p at → next ≤ length p → Ending p rest next
ending_step p left rest at next w h e l =
    let k : after p at ≤ length p = omega arith in
    record { short = w.short; inside = l; same = w.same ∙ rw (h, e, le-leb (after p at) (length p) k) refl }

pub ending_end : (p : List ℕ) (left at : ℕ) → Ending p left at → left ≤ 0 → eqb at (length p) ≡ ends (groups_counted p) p least_plan_bytes
ending_end p left at w h = let e : left ≡ 0 = omega arith in sym (w.same ∙ ap (λ (n : ℕ). ends n p at) e)

-- groups that lie in the file: the first of them, those after it, and each that begins at a place
pub lie_here : (p : List ℕ) (left at : ℕ) → Lie p left at → 0 < left → (after p at ≤ length p) × (length p ≤ most_plan_bytes)
lie_here p zero at w h = absurd (omega arith)
lie_here p (suc n) at w h = (w.ended.0, w.short)

pub lie_inside : (p : List ℕ) (left at : ℕ) → Lie p left at → 0 < left → (at < length p) × (length p ≤ most_plan_bytes)
lie_inside p left at w h = omega (arith, lie_here p left at w h)

lie_next : (p : List ℕ) (rest at : ℕ) → Lie p (suc rest) at → Lie p rest (after p at)
lie_next p rest at w = record { short = w.short; begun = omega (arith, w.begun); ended = w.ended.1 }

-- the same, by the count that is left
pub lie_step : (p : List ℕ) (left at : ℕ) → Lie p left at → 0 < left → Lie p (left - 1) (after p at)
lie_step p zero at w h = absurd (omega arith)
lie_step p (suc n) at w h = rw (pred n) (lie_next p n at w)

lie_from : (p : List ℕ) (left at : ℕ) → Lie p left at → (q : ℕ) → q ∈ begins_from left p at → after p q ≤ length p
lie_from p zero at w q m = absurd m
lie_from p (suc n) at w q (inl e) = rw e w.ended.0
lie_from p (suc n) at w q (inr m) = lie_from p n (after p at) (lie_next p n at w) q m

pub lie_each : (p : List ℕ) → Lie p (groups_counted p) least_plan_bytes → (at : ℕ) → at ∈ begins p → (after p at ≤ length p) × (length p ≤ most_plan_bytes)
unfolding begins
lie_each p w at m = (lie_from p (groups_counted p) least_plan_bytes w at m, w.short)

-- loop invariant, for a test of every group: what is left of them decides
pub record Passing (post : ℕ → Bool → Type 0) (p : List ℕ) (left at : ℕ) : Type 0 where
  pub lie : Lie p left at
  pub ahead : (q : ℕ) → q ∈ begins_from left p at → q ∈ begins p
  pub same : (t : List ℕ → Bool) → Tells post p t → every_group t (groups_in p) ≡ every_group t (groups_from left p at)

module _ (post : ℕ → Bool → Type 0) (p : List ℕ) where
  pub passing_start : (left : ℕ) → Lie p (groups_counted p) least_plan_bytes → left ≡ groups_counted p → Passing post p left least_plan_bytes
  unfolding groups_in begins
  passing_start left w e = rw e (record { lie = w; ahead = λ q m. m; same = λ t f. refl })

  pub passing_here : (left at : ℕ) → Passing post p left at → 0 < left → at ∈ begins p
  passing_here zero at w h = absurd (omega arith)
  passing_here (suc n) at w h = w.ahead at (inl refl)

  passing_next : (rest at : ℕ) → Passing post p (suc rest) at → post at true → Passing post p rest (after p at)
  passing_next rest at w f =
      record {
        lie = lie_next p rest at w.lie;
        ahead = λ q m. w.ahead q (inr m);
        same = λ t s. w.same t s ∙ rw (sym (s at true (passing_here (suc rest) at w (omega arith)) f)) refl;
      }

  pub passing_step : (left rest at next : ℕ) (r : Bool) → Passing post p left at → left ≡ suc rest → post at r → r ≡ true → next ≡ after p at → Passing post p rest next
  passing_step left rest at next r w h f e q = rw q (passing_next rest at (rw h at w) (rw e at f))

  pub passing_fails : (left at : ℕ) (r : Bool) → Passing post p left at → 0 < left → post at r → r ≡ false
      → (t : List ℕ → Bool) → Tells post p t → false ≡ every_group t (groups_in p)
  passing_fails zero at r w h f e t s = absurd (omega arith)
  passing_fails (suc n) at r w h f e t s = sym (w.same t s ∙ rw (sym (s at r (passing_here (suc n) at w h) f) ∙ e) refl)

  pub passing_end : (left at : ℕ) → Passing post p left at → left ≤ 0 → (t : List ℕ → Bool) → Tells post p t → true ≡ every_group t (groups_in p)
  passing_end left at w h t s = let e : left ≡ 0 = omega arith in sym (w.same t s ∙ ap (λ (n : ℕ). every_group t (groups_from n p at)) e)

-- readable groups: all of them, the first of them, those after it, and each that begins at a place
pub readable_lie : (n : ℕ) (p : List ℕ) → Readable n p → Lie p (groups_counted p) least_plan_bytes
readable_lie n p r = record { short = r.most; begun = omega arith; ended = r.ended }

pub ahead_start : (n : ℕ) (p : List ℕ) (left : ℕ) → Readable n p → left ≡ groups_counted p → Ahead n p left least_plan_bytes
unfolding groups_in
ahead_start n p left r e =
    rw e (record { room = r.room; lie = readable_lie n p r; joins = r.joins; rising = r.rising; exist = r.exist })

pub ahead_fits : (n : ℕ) (p : List ℕ) (left at : ℕ) → Ahead n p left at → 0 < left → ReadableGroup n p at
ahead_fits n p zero at w h = absurd (omega arith)
ahead_fits n p (suc k) at w h =
    record {
      room = w.room;
      short = w.lie.short;
      begun = w.lie.begun;
      lies = w.lie.ended.0;
      joins = rw (length_numbers (get_or p at 0) p (at + 1)) at w.joins.0;
      rising = w.rising.0;
      exist = w.exist.0;
    }

pub ahead_step : (n : ℕ) (p : List ℕ) (rest at next : ℕ) → Ahead n p (suc rest) at → next ≡ after p at → Ahead n p rest next
ahead_step n p rest at next w q =
    rw q (record {
      room = w.room;
      lie = lie_next p rest at w.lie;
      joins = w.joins.1;
      rising = w.rising.1;
      exist = w.exist.1;
    })

ahead_from : (n : ℕ) (p : List ℕ) (left at : ℕ) → Ahead n p left at → (q : ℕ) → q ∈ begins_from left p at → ReadableGroup n p q
ahead_from n p zero at w q m = absurd m
ahead_from n p (suc k) at w q (inl e) = rw e (ahead_fits n p (suc k) at w (omega arith))
ahead_from n p (suc k) at w q (inr m) = ahead_from n p k (after p at) (ahead_step n p k at (after p at) w refl) q m

pub readable_each : (n : ℕ) (p : List ℕ) → Readable n p → (at : ℕ) → at ∈ begins p → ReadableGroup n p at
unfolding begins
readable_each n p r at m = ahead_from n p (groups_counted p) least_plan_bytes (ahead_start n p (groups_counted p) r refl) at m
