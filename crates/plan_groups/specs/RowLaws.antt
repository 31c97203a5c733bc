-- Rows 20 to 29 and 32: the first that fails is answered; where none of 20 to 26 does, the plan's groups can be read.
use Rattle.std.specs.Prelude.{ℕ, ◌≤◌, ◌<◌, ◌≡◌, refl, List, [], ◌∷◌, Bool, true, false, ◌&&◌, leb, ltb, length, take}
use Rattle.std.proofs.Common.{sym, ◌∙◌, arith}
use borrow.Author.Tests.{eq-eqb, ne_eqb, leb-true, le-leb, lt-leb}
use Rattle.base.specs.Lists.{every, same}
use Rattle.base.specs.TestLaws.{both}
use Rattle.circuit.specs.Limits.{most_gates}
use Rattle.circuit.specs.Gates.{Gates, gate_at}
use Rattle.plan.specs.PlanFile.{mark, gates_counted, groups_counted, groups_in, ends}
use Rattle.plan.specs.Limits.{least_plan_bytes, most_plan_bytes}
use Rattle.plan.specs.Rows.{every_group, rises, apart, groups_rise, is_costly, alike, parted, Row, layout_rows, join_rows, first_failing}
use Rattle.plan.specs.RowLaws.{each_right, ends_right, joins_right}
use Rattle.plan.specs.FailingLaws.{Hold, none_fails, failing_first, failing_second}
use Rattle.plan.proofs.AcceptedLaws.{rising_exist}
use Rattle.plan_groups.specs.Walks.{Readable, Lie}

-- 20: a file of too few bytes fails it; of enough bytes, only the most decides; where it holds, the length is between both
pub size_short : (p : List ℕ) → length p < least_plan_bytes → false ≡ (leb least_plan_bytes (length p) && leb (length p) most_plan_bytes)
size_short p h = rw (lt-leb least_plan_bytes (length p) h)

pub size_rest : (p : List ℕ) → least_plan_bytes ≤ length p → leb (length p) most_plan_bytes ≡ (leb least_plan_bytes (length p) && leb (length p) most_plan_bytes)
size_rest p h = rw (le-leb least_plan_bytes (length p) h)

pub size_right : (p : List ℕ) → (leb least_plan_bytes (length p) && leb (length p) most_plan_bytes) ≡ true → (least_plan_bytes ≤ length p) × (length p ≤ most_plan_bytes)
size_right p h = let r = both (leb least_plan_bytes (length p)) _ h in (leb-true least_plan_bytes (length p) r.0, leb-true (length p) most_plan_bytes r.1)

-- The rows 20 to 25 one after the other: the first that fails decides.

module _ (n : ℕ) (p : List ℕ) where
  -- what the rows 20, 21 and 23 to 25 test
  abbrev SizeHolds : Bool
  SizeHolds = leb least_plan_bytes (length p) && leb (length p) most_plan_bytes

  abbrev MarkHolds : Bool
  MarkHolds = same (take 5 p) mark

  abbrev EndHolds : Bool
  EndHolds = ends (groups_counted p) p least_plan_bytes

  abbrev LeastHolds : Bool
  LeastHolds = every_group (λ G. leb 2 (length G)) (groups_in p)

  abbrev NumbersHold : Bool
  NumbersHold = every_group (λ G. rises G && every (λ g. ltb g n) G) (groups_in p)

  -- the rows 20 to 25, and each of them answered where those before it hold and it fails; none where all hold
  abbrev pub shape_rows : List Row
  shape_rows = take 6 (layout_rows n p)

  pub row_20 : SizeHolds ≡ false → 20 ≡ first_failing shape_rows
  row_20 a = rw a

  pub row_21 : SizeHolds ≡ true → MarkHolds ≡ false → 21 ≡ first_failing shape_rows
  row_21 a b = rw (a, b)

  pub row_22 : SizeHolds ≡ true → MarkHolds ≡ true → (gates_counted p ≡ n → ⊥) → 22 ≡ first_failing shape_rows
  row_22 a b d = rw (a, b, ne_eqb (gates_counted p) n d)

  pub row_23 : SizeHolds ≡ true → MarkHolds ≡ true → gates_counted p ≡ n → EndHolds ≡ false → 23 ≡ first_failing shape_rows
  row_23 a b d e = rw (a, b, eq-eqb (gates_counted p) n d, e)

  pub row_24 : SizeHolds ≡ true → MarkHolds ≡ true → gates_counted p ≡ n → EndHolds ≡ true → LeastHolds ≡ false → 24 ≡ first_failing shape_rows
  row_24 a b d e f = rw (a, b, eq-eqb (gates_counted p) n d, e, f)

  pub row_25 : SizeHolds ≡ true → MarkHolds ≡ true → gates_counted p ≡ n → EndHolds ≡ true → LeastHolds ≡ true → NumbersHold ≡ false → 25 ≡ first_failing shape_rows
  row_25 a b d e f g = rw (a, b, eq-eqb (gates_counted p) n d, e, f, g)

  pub row_none : SizeHolds ≡ true → MarkHolds ≡ true → gates_counted p ≡ n → EndHolds ≡ true → LeastHolds ≡ true → NumbersHold ≡ true → 0 ≡ first_failing shape_rows
  row_none a b d e f g = rw (a, b, eq-eqb (gates_counted p) n d, e, f, g)

  -- what they establish
  pub layout_lie : (leb least_plan_bytes (length p) && leb (length p) most_plan_bytes) ≡ true → ends (groups_counted p) p least_plan_bytes ≡ true
      → (least_plan_bytes ≤ length p) × Lie p (groups_counted p) least_plan_bytes
  layout_lie a e =
      let s = size_right p a in
      (s.0, record { short = s.1; begun = omega arith; ended = (ends_right (groups_counted p) p least_plan_bytes).0 e })

  held_readable : n ≤ most_gates → Hold shape_rows → Readable n p
  held_readable h (t20, (t21, (t22, (t23, (t24, (t25, _)))))) =
      let s = size_right p t20 in
      let shape = (rising_exist n (groups_in p)).0 t25 in
      record {
        room = h;
        least = s.0;
        most = s.1;
        ended = (ends_right (groups_counted p) p least_plan_bytes).0 t23;
        joins = (each_right (λ G. leb 2 (length G)) (λ G. 2 ≤ length G) joins_right (groups_in p)).0 t24;
        rising = shape.0;
        exist = shape.1;
      }

  pub shape_readable : n ≤ most_gates → first_failing shape_rows ≡ 0 → Readable n p
  shape_readable h e = held_readable h ((none_fails shape_rows refl).0 e)

  -- no row from 20 to 26 refuses the plan: it is readable
  pub layout_readable : n ≤ most_gates → first_failing (layout_rows n p) ≡ 0 → Readable n p
  layout_readable h e =
      let t = (none_fails (layout_rows n p) refl).0 e in
      held_readable h (t.0, (t.1.0, (t.1.1.0, (t.1.1.1.0, (t.1.1.1.1.0, (t.1.1.1.1.1.0, tt))))))

  -- 26 after them
  pub layout_before : (r : ℕ) → r ≡ first_failing shape_rows → (r ≡ 0 → ⊥) → r ≡ first_failing (layout_rows n p)
  layout_before r e f = e ∙ sym (failing_first shape_rows (record { refuses = 26; holds = apart (groups_in p) } ∷ []) (λ z. f (e ∙ z)))

  layout_last : first_failing shape_rows ≡ 0 → first_failing (layout_rows n p) ≡ first_failing (record { refuses = 26; holds = apart (groups_in p) } ∷ [])
  layout_last e = failing_second shape_rows (record { refuses = 26; holds = apart (groups_in p) } ∷ []) refl e

  pub layout_26 : (r : ℕ) (b : Bool) → r ≡ first_failing shape_rows → r ≡ 0 → b ≡ apart (groups_in p) → b ≡ false → 26 ≡ first_failing (layout_rows n p)
  layout_26 r b e z q f = sym (layout_last (sym e ∙ z) ∙ rw (sym q ∙ f))

  pub layout_none : (r : ℕ) (b : Bool) → r ≡ first_failing shape_rows → r ≡ 0 → b ≡ apart (groups_in p) → b ≡ true → 0 ≡ first_failing (layout_rows n p)
  layout_none r b e z q f = sym (layout_last (sym e ∙ z) ∙ rw (sym q ∙ f))

-- The rows 32 and 27 to 29 one after the other: each is answered where those before it hold and it fails; none where all hold.

module _ (C : Gates) (sets p : List ℕ) where
  -- what the rows 27 to 29 test
  abbrev CostlyHolds : Bool
  CostlyHolds = every_group (every (λ g. is_costly (gate_at C g))) (groups_in p)

  abbrev AlikeHolds : Bool
  AlikeHolds = every_group (alike C) (groups_in p)

  abbrev PartedHolds : Bool
  PartedHolds = every_group (parted sets) (groups_in p)

  pub row_32 : groups_rise (groups_in p) ≡ false → 32 ≡ first_failing (join_rows C sets p)
  row_32 o = rw o

  pub row_27 : groups_rise (groups_in p) ≡ true → CostlyHolds ≡ false → 27 ≡ first_failing (join_rows C sets p)
  row_27 o a = rw (o, a)

  pub row_28 : groups_rise (groups_in p) ≡ true → CostlyHolds ≡ true → AlikeHolds ≡ false → 28 ≡ first_failing (join_rows C sets p)
  row_28 o a b = rw (o, a, b)

  pub row_29 : groups_rise (groups_in p) ≡ true → CostlyHolds ≡ true → AlikeHolds ≡ true → PartedHolds ≡ false → 29 ≡ first_failing (join_rows C sets p)
  row_29 o a b d = rw (o, a, b, d)

  pub joins_none : groups_rise (groups_in p) ≡ true → CostlyHolds ≡ true → AlikeHolds ≡ true → PartedHolds ≡ true → 0 ≡ first_failing (join_rows C sets p)
  joins_none o a b d = rw (o, a, b, d)
