-- Demand 3, first sentence: the check of a plan for an accepted rule finds no row failing exactly when the plan is accepted in document 01's terms.
use Rattle.std.specs.Prelude.{◌≡◌, refl, true, false, ◌&&◌, List, [], ◌∷◌, ◌++◌, map, ◌↔◌, ℕ, ◌≤◌, ◌<◌, eqb, leb, ltb, length, take, drop}
use Rattle.std.proofs.Common.{sym, ap, ◌∙◌, true≢false, arith, eqb-true, eq-eqb, ne_eqb, leb-true, le-leb}
use Rattle.std.proofs.lemmas.Bool.{eqb-false, lt-leb}
use Rattle.base.specs.MemberLaws.{same_right}
use Rattle.base.specs.Lists.{every}
use Rattle.base.specs.TestLaws.{split, both, and}
use Rattle.base.specs.declared.Answer.{Answer}
use Rattle.base.specs.Answers.{refusal}
use Rattle.base.specs.Parsing.{parsed}
use Rattle.base.specs.ParsingLaws.{is_read}
use Rattle.rule.specs.Tree.{Block}
use Rattle.rule.specs.Rule.{read_rule}
use Rattle.circuit.specs.Limits.{most_conditions}
use Rattle.circuit.specs.Gates.{conditions}
use Rattle.circuit.specs.PlainCircuit.{gates_of, gate_count}
use Rattle.circuit_needed.specs.Needed.{wanted_of}
use Rattle.circuit_needed.specs.Pass.{rule_preconditions}
use Rattle.circuit_needed.specs.RulePreconditions.{rule_earlier, wanted_inside, rule_exclude}
use Rattle.circuit.specs.Whole.{rule_answer}
use Rattle.circuit.specs.WholeLaws.{accepted}
use Rattle.plan.specs.PlanFile.{mark, groups_counted, groups_in, Plan, EachGroup, Rising, Apart}
use Rattle.plan.specs.Limits.{least_plan_bytes, most_plan_bytes}
use Rattle.plan.specs.Groups.{smallest, group_of}
use Rattle.plan.specs.Rows.{every_group, rises, groups_rise, Row, layout_rows, join_rows, order_rows, rows, first_failing, plan_row, plan_answer}
use Rattle.plan.specs.Accepted.{LaidOut, Exist, GroupsRise, Acceptable}
use Rattle.plan.specs.FailingLaws.{Hold, none_fails, hold_both, fails_at}
use Rattle.plan.specs.GroupLaws.{group_of_named}
use Rattle.plan.proofs.WaitLaws.{placed_right}
use Rattle.plan.specs.RowLaws.{each_right, ends_right, joins_right, rises_right, exist_right, apart_right}
use Rattle.plan.specs.MemberLaws.{costly_right, parted_right}

-- 25 is two facts
pub rising_exist : (n : ℕ) (Gs : Plan) → (every_group (λ G. rises G && every (λ g. ltb g n) G) Gs ≡ true) ↔ (EachGroup Rising Gs × EachGroup (Exist n) Gs)
rising_exist n Gs = (to Gs, λ h. back Gs h.0 h.1)
  where
    to : (Gs : Plan) → every_group (λ G. rises G && every (λ g. ltb g n) G) Gs ≡ true → EachGroup Rising Gs × EachGroup (Exist n) Gs
    to [] h = (tt, tt)
    to (G ∷ Gs) h =
        let r = both (rises G && every (λ g. ltb g n) G) _ h in
        let q = both (rises G) _ r.0 in
        let u = to Gs r.1 in
        (((rises_right G).0 q.0, u.0), ((exist_right n G).0 q.1, u.1))

    back : (Gs : Plan) → EachGroup Rising Gs → EachGroup (Exist n) Gs → every_group (λ G. rises G && every (λ g. ltb g n) G) Gs ≡ true
    back [] r x = refl
    back (G ∷ Gs) (r, u) (x, y) = and (and ((rises_right G).1 r) ((exist_right n G).1 x)) (back Gs u y)

-- the rows 20 to 26: the plan is laid out and names existing gates once
pub layout_right : (s p : List ℕ) → Hold (layout_rows (gate_count s) p) ↔ (LaidOut s p × (EachGroup (Exist (gate_count s)) (groups_in p) × Apart (groups_in p)))
layout_right s p = (to, back)
  where
    to : Hold (layout_rows (gate_count s) p) → LaidOut s p × (EachGroup (Exist (gate_count s)) (groups_in p) × Apart (groups_in p))
    to (t20, (t21, (t22, (t23, (t24, (t25, (t26, _))))))) =
        let size = both (leb least_plan_bytes (length p)) _ t20 in
        let shape = (rising_exist (gate_count s) (groups_in p)).0 t25 in
        let l : LaidOut s p =
        record {
          least = leb-true _ _ size.0;
          most = leb-true _ _ size.1;
          marked = (same_right (take 5 p) mark).0 t21;
          counted = eqb-true _ _ t22;
          ended = (ends_right (groups_counted p) p least_plan_bytes).0 t23;
          joins = (each_right (λ G. leb 2 (length G)) (λ G. 2 ≤ length G) joins_right (groups_in p)).0 t24;
          rising = shape.0;
        } in
        (l, (shape.1, (apart_right (groups_in p)).0 t26))

    back : LaidOut s p × (EachGroup (Exist (gate_count s)) (groups_in p) × Apart (groups_in p)) → Hold (layout_rows (gate_count s) p)
    back (l, (exist, once)) =
        let t20 = and (le-leb _ _ l.least) (le-leb _ _ l.most) in
        let t21 = (same_right (take 5 p) mark).1 l.marked in
        let t22 = eq-eqb _ _ l.counted in
        let t23 = (ends_right (groups_counted p) p least_plan_bytes).1 l.ended in
        let t24 = (each_right (λ G. leb 2 (length G)) (λ G. 2 ≤ length G) joins_right (groups_in p)).1 l.joins in
        let t25 = (rising_exist (gate_count s) (groups_in p)).1 (l.rising, exist) in
        (t20, (t21, (t22, (t23, (t24, (t25, ((apart_right (groups_in p)).1 once, tt)))))))

-- 32
pub order_right : (Gs : Plan) → (groups_rise Gs ≡ true) ↔ GroupsRise Gs
order_right Gs = rises_right (map smallest Gs)

module _ (s : List ℕ) (b : Block) (n : ℕ) (read : read_rule s ≡ parsed b n) (few : length (conditions (gates_of s)) ≤ most_conditions) (p : List ℕ) where
  abbrev joins : List Row
  joins = join_rows (gates_of s) (rule_preconditions s) p

  holds_to : Hold (rows s p) → Acceptable s p
  holds_to h =
      let q = (hold_both (layout_rows (gate_count s) p) (joins ++ order_rows (gates_of s) (rule_preconditions s) p)).0 h in
      let (l, (exist, once)) = (layout_right s p).0 q.0 in
      let (t32, (t27, (t28, (t29, (t30, _))))) = q.1 in
      record {
        laid_out = l;
        exist = exist;
        once = once;
        in_order = (order_right (groups_in p)).0 t32;
        one_costly = (costly_right (gates_of s) (groups_in p) l.joins).0 (t27, t28);
        exclude = (each_right _ _ (parted_right (gates_of s) (wanted_of s) (rule_preconditions s) (rule_exclude s b n read few)) (groups_in p)).0 t29;
        no_circle = (placed_right (gates_of s) (wanted_of s) (rule_earlier s b n read) (wanted_inside s b n read) few (group_of (groups_in p))
            (group_of_named (groups_in p) l.joins l.rising once)).0 t30;
      }

  holds_back : Acceptable s p → Hold (rows s p)
  holds_back a =
      let l = a.laid_out in
      let costly = (costly_right (gates_of s) (groups_in p) l.joins).1 a.one_costly in
      let t29 = (each_right _ _ (parted_right (gates_of s) (wanted_of s) (rule_preconditions s) (rule_exclude s b n read few)) (groups_in p)).1 a.exclude in
      let t30 =
      (placed_right (gates_of s) (wanted_of s) (rule_earlier s b n read) (wanted_inside s b n read) few (group_of (groups_in p))
      (group_of_named (groups_in p) l.joins l.rising a.once)).1 a.no_circle in
      (hold_both (layout_rows (gate_count s) p) (joins ++ order_rows (gates_of s) (rule_preconditions s) p)).1
      ((layout_right s p).1 (l, (a.exist, a.once)), ((order_right (groups_in p)).1 a.in_order, (costly.0, (costly.1, (t29, (t30, tt))))))

-- for an accepted rule, no row fails exactly when the plan is acceptable
pub row_right : (s p : List ℕ) → (rule_answer s).number ≡ 0 → (plan_row s p ≡ 0) ↔ Acceptable s p
unfolding plan_row
row_right s p h =
    let a = accepted s h in
    let r = is_read (read_rule s) a.read in (
      λ e. holds_to s r.0 r.1 r.2 a.conds p ((none_fails (rows s p) refl).0 e),
      λ x. (none_fails (rows s p) refl).1 (holds_back s r.0 r.1 r.2 a.conds p x),
    )

-- the row that refuses a plan is the first failing one
pub row_first : (s p : List ℕ) → plan_row s p ≡ first_failing (rows s p)
unfolding plan_row
row_first s p = refl

-- row 32 is the one exactly when the rows 20 to 26 hold and the groups are out of order
row_32 : (s p : List ℕ) → (plan_row s p ≡ 32) ↔ (Hold (layout_rows (gate_count s) p) × (groups_rise (groups_in p) ≡ false))
unfolding plan_row
row_32 s p =
    fails_at (layout_rows (gate_count s) p) (record { refuses = 32; holds = groups_rise (groups_in p) })
    (drop 1 (join_rows (gates_of s) (rule_preconditions s) p) ++ order_rows (gates_of s) (rule_preconditions s) p) refl refl refl

-- what the check answers: the rule's refusal comes first; then the first failing row; else what reading the rule counts
pub answer_rule : (s p : List ℕ) → ((rule_answer s).number ≡ 0 → ⊥) → plan_answer s p ≡ rule_answer s
unfolding plan_answer
answer_rule s p h = rw (ne_eqb (rule_answer s).number 0 h)

pub answer_row : (s p : List ℕ) → (rule_answer s).number ≡ 0 → (plan_row s p ≡ 0 → ⊥) → plan_answer s p ≡ refusal (plan_row s p) 0
unfolding plan_answer
answer_row s p h f = rw (eq-eqb (rule_answer s).number 0 h, ne_eqb (plan_row s p) 0 f)

pub answer_accepted : (s p : List ℕ) → (rule_answer s).number ≡ 0 → plan_row s p ≡ 0 → plan_answer s p ≡ rule_answer s
unfolding plan_answer
answer_accepted s p h e = rw (eq-eqb (rule_answer s).number 0 h, eq-eqb (plan_row s p) 0 e)

-- a plan over its limit of bytes is refused for that, with an accepted rule
pub plan_over : (s p : List ℕ) → (rule_answer s).number ≡ 0 → most_plan_bytes < length p → plan_answer s p ≡ refusal 20 0
unfolding plan_row plan_answer
plan_over s p h l = rw (eq-eqb (rule_answer s).number 0 h, le-leb least_plan_bytes (length p) (omega arith), lt-leb (length p) most_plan_bytes l)

-- with an accepted rule its number is the row's
pub answer_number : (s p : List ℕ) → (rule_answer s).number ≡ 0 → (plan_answer s p).number ≡ plan_row s p
answer_number s p h =
    split (eqb (plan_row s p) 0)
    (λ t. let e = eqb-true _ _ t in ap (λ (a : Answer). a.number) (answer_accepted s p h e) ∙ h ∙ sym e)
    (λ t. ap (λ (a : Answer). a.number) (answer_row s p h (eqb-false _ _ t)))

-- "A rule is accepted when reading it returns number 0, a plan when its check does": demand 3's first sentence, both directions
pub plan_accepted : (s p : List ℕ) → ((plan_answer s p).number ≡ 0) ↔ (((rule_answer s).number ≡ 0) × Acceptable s p)
plan_accepted s p = (
  λ h. split (eqb (rule_answer s).number 0)
      (λ t. let r = eqb-true _ _ t in (r, (row_right s p r).0 (sym (answer_number s p r) ∙ h)))
      (λ t. let f = eqb-false (rule_answer s).number 0 t in absurd (f (ap (λ (a : Answer). a.number) (sym (answer_rule s p f)) ∙ h))),
  λ (h, x). answer_number s p h ∙ (row_right s p h).1 x,
)

-- document 02, C-15: 32 is answered exactly when the plan is laid out and names existing gates once, and its groups are out of order
pub out_of_order : (s p : List ℕ) → (rule_answer s).number ≡ 0
    → ((plan_answer s p).number ≡ 32) ↔ ((LaidOut s p × (EachGroup (Exist (gate_count s)) (groups_in p) × Apart (groups_in p))) × (GroupsRise (groups_in p) → ⊥))
out_of_order s p r = (
  λ h. let q = (row_32 s p).0 (sym (answer_number s p r) ∙ h) in
      ((layout_right s p).0 q.0, λ o. true≢false (sym ((order_right (groups_in p)).1 o) ∙ q.1)),
  λ (l, n). answer_number s p r ∙ (row_32 s p).1
      ((layout_right s p).1 l, split (groups_rise (groups_in p)) (λ t. absurd (n ((order_right (groups_in p)).0 t))) (λ t. t)),
)
