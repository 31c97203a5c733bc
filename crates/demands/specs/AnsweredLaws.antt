-- Each operation answers by the rows of the table: rules by 1 to 11, plans by 20 to 32, inputs by 40 to 42, buffers by 50.
use Rattle.std.specs.Prelude.{ℕ, ◌≤◌, ◌≡◌, refl, true, ◌&&◌, List, ◌⊎◌, ◌↔◌, eqb, leb, length, take}
use Rattle.std.proofs.Common.{arith, sym, ap, subst, ◌∙◌, true≢false, inl, inr, eqb-true, eq-eqb, leb-true, leb-false, le-leb}
use Rattle.std.proofs.lemmas.Bool.{eqb-false}
use Rattle.base.specs.Lists.{every}
use Rattle.base.specs.MemberLaws.{every_right, same_right}
use Rattle.base.specs.TestLaws.{split, same?, both, and}
use Rattle.base.specs.Answers.{refusal}
use Rattle.base.specs.Parsing.{Parsed, parsed, refused, IsRead}
use Rattle.base.specs.ParsingLaws.{is_read, read_is}
use Rattle.base.specs.declared.Answer.{Answer}
use Rattle.rule.specs.Header.{variables, kind_at}
use Rattle.rule.specs.Tree.{Block}
use Rattle.rule.specs.Rule.{read_rule}
use Rattle.rule.specs.RowLaws as bytes
use Rattle.base.specs.declared.Kind.{Kind}
use Rattle.base.specs.Inputs.{some_above, inputs_row}
use Rattle.base.specs.InputLaws.{above_right, row_count, row_bit, row_room, row_none}
use Rattle.base.specs.Lists.{upto}
use Rattle.circuit.specs.Limits.{most_gates, most_conditions}
use Rattle.circuit.specs.Gates.{Gates, gate_at, conditions}
use Rattle.circuit.specs.PlainCircuit.{gates_of, gate_count}
use Rattle.circuit_needed.specs.Needed.{wanted_of}
use Rattle.circuit_needed.specs.Pass.{rule_preconditions}
use Rattle.circuit_needed.specs.RulePreconditions.{rule_earlier, wanted_inside, rule_exclude}
use Rattle.circuit.specs.Whole.{rule_answer}
use Rattle.circuit.specs.WholeLaws.{accepted, answer_bytes, answer_whole, whole_gates, whole_conditions, whole_success}
use Rattle.run.specs.InputLaws.{row_is}
use Rattle.run.specs.Direct.{run_answer}
use Rattle.run.specs.DirectLaws.{rule_answer_lem, inputs_answer, run_answer_lem, run_number}
use Rattle.plan.specs.PlanFile.{mark, groups_counted, groups_in}
use Rattle.plan.specs.Limits.{least_plan_bytes, most_plan_bytes}
use Rattle.plan.specs.Groups.{group_of}
use Rattle.plan.specs.Rows.{is_costly, rows, plan_row, plan_answer}
use Rattle.plan.specs.GroupLaws.{group_of_named}
use Rattle.plan.proofs.WaitLaws.{placed_right}
use Rattle.plan.specs.RowLaws.{each_right, ends_right, joins_right, apart_right}
use Rattle.plan.specs.MemberLaws.{costly_gate, gate_costly, costly_right, parted_right}
use Rattle.plan.proofs.AcceptedLaws.{rising_exist, order_right, row_first, answer_rule, answer_row, answer_accepted, answer_number}
use Rattle.fused.specs.FusedCircuit.{fused_file}
use Rattle.fused.specs.Answers.{fused_answer, write_answer}
use Rattle.fused.specs.AnswerLaws.{fused_refused, fused_taken, write_refused, write_short, write_taken}
use Rattle.demands.specs.Table.{AnsweredBy, AnsweredAfter, ByteRow, by_size, on_byte, past_end, RuleAnswered, rule_rows, AllCostly, plan_rows, input_rows, run_rows, buffer_rows}
use Rattle.demands.specs.TableLaws.{Outcome, taken_by, refused_by, answered_by, Tells, none, ◌then◌, tests_tell}

-- rows 1 to 9
byte_row : (s : List ℕ) (number place : ℕ) → bytes.ByteRow s number place → ByteRow (length s) number place
byte_row s number place r = go (same? number 1) (same? number 4)
  where
    go : (number ≡ 1) ⊎ (number ≡ 1 → ⊥) → (number ≡ 4) ⊎ (number ≡ 4 → ⊥) → ByteRow (length s) number place
    go (inl e) f = rw (e, r.sized e) by_size
    go (inr n) (inl e) = rw (e, r.ended e) past_end
    go (inr n) (inr m) = let lo : 2 ≤ number = omega (arith, r.least) in on_byte lo r.most m (r.inside n m)

rule_bytes_lem : (s : List ℕ)
    → IsRead (read_rule s) ⊎ ((number : ℕ) × (place : ℕ) × (read_rule s ≡ refused number place) × ByteRow (length s) number place × (rule_answer s ≡ refusal number place))
rule_bytes_lem s = go (read_rule s) refl (bytes.rule_rows_lem s)
  where
    go : (m : Parsed Block) → read_rule s ≡ m → bytes.ByteRows s m
        → IsRead (read_rule s) ⊎ ((number : ℕ) × (place : ℕ) × (read_rule s ≡ refused number place) × ByteRow (length s) number place × (rule_answer s ≡ refusal number place))
    go (parsed b n) e r = inl (read_is (read_rule s) e)
    go (refused number place) e r =
        inr (
          number,
          place,
          e,
          byte_row s number place r,
          answer_bytes s e,
        )

-- rows 10 and 11, of a rule that is read byte by byte
rule_rows_lem : (s : List ℕ) → IsRead (read_rule s) → AnsweredBy (rule_rows s) (length s) (rule_answer s)
rule_rows_lem s h =
    let C = gates_of s in
    let e = answer_whole s h in
    split (leb (length C) most_gates)
    (λ t. let few = leb-true _ _ t in
    split (leb (length (conditions C)) most_conditions)
    (λ u. let l = leb-true _ _ u in
    let q = e ∙ whole_success most_gates most_conditions C (length s) few l in
    taken_by (rule_rows s) (length s) (rule_answer s) refl (few, (l, tt)) (ap (λ (a : Answer). a.number) q) (ap (λ (a : Answer). a.place) q))
    (λ u. let l = leb-false _ _ u in
    refused_by 1 (rule_rows s) (length s) (rule_answer s) refl (omega arith) (few, λ k. omega arith)
    (e ∙ whole_conditions most_gates most_conditions C (length s) few l)))
    (λ t. let l = leb-false _ _ t in
    refused_by 0 (rule_rows s) (length s) (rule_answer s) refl (omega arith) (λ k. omega arith) (e ∙ whole_gates most_gates most_conditions C (length s) l))

pub rule_answered : (s : List ℕ) → RuleAnswered s (rule_answer s)
rule_answered s = record { bytes = rule_bytes_lem s; whole = rule_rows_lem s }

-- rows 20 to 26, 32 and 27 to 30, of a plan for an accepted rule
sized : (a b n : ℕ) → ((leb a n && leb n b) ≡ true) ↔ ((a ≤ n) × (n ≤ b))
sized a b n = (λ t. let (lo, hi) = both (leb a n) _ t in (leb-true _ _ lo, leb-true _ _ hi), λ (lo, hi). and (le-leb _ _ lo) (le-leb _ _ hi))

all_costly : (C : Gates) (G : List ℕ) → (every (λ g. is_costly (gate_at C g)) G ≡ true) ↔ AllCostly C G
all_costly C G = (
  λ h g m. costly_gate (gate_at C g) ((every_right (λ i. is_costly (gate_at C i)) G).0 h g m),
  λ h. (every_right (λ i. is_costly (gate_at C i)) G).1 (λ g m. let (op, c, l, e) = h g m in ap is_costly e ∙ gate_costly op l ∙ c),
)

module _ (s p : List ℕ) (z : (rule_answer s).number ≡ 0) where
  plan_tells : Tells (rows s p) (plan_rows s p)
  plan_tells =
      let a = accepted s z in
      let (b, n, read) = is_read (read_rule s) a.read in
      let C = gates_of s in
      let Gs = groups_in p in
      let sets = rule_preconditions s in
      let costly = each_right _ (AllCostly C) (all_costly C) Gs in
      sized least_plan_bytes most_plan_bytes (length p) then λ _.
      same_right (take 5 p) mark then λ _.
      (eqb-true _ _, eq-eqb _ _) then λ _.
      ends_right (groups_counted p) p least_plan_bytes then λ _.
      each_right _ _ joins_right Gs then λ joins.
      rising_exist (gate_count s) Gs then λ (rising, _).
      apart_right Gs then λ once.
      order_right Gs then λ _.
      costly then λ c.
      (λ t. (costly_right C Gs joins).0 (costly.1 c, t), λ o. ((costly_right C Gs joins).1 o).1) then λ _.
      each_right _ _ (parted_right C (wanted_of s) sets (rule_exclude s b n read a.conds)) Gs then λ _.
      placed_right C (wanted_of s) (rule_earlier s b n read) (wanted_inside s b n read) a.conds (group_of Gs) (group_of_named Gs joins rising once) then λ _.
      none

  plan_rows_lem : AnsweredBy (plan_rows s p) 0 (plan_answer s p)
  plan_rows_lem =
      let n : (plan_answer s p).number ≡ plan_row s p = answer_number s p z in
      answered_by (plan_rows s p) 0 (plan_answer s p) refl
      (subst (Outcome (plan_rows s p)) (sym (n ∙ row_first s p)) (tests_tell (rows s p) (plan_rows s p) refl plan_tells))
      (λ e. ap (λ (a : Answer). a.place) (answer_accepted s p z (sym n ∙ e) ∙ (accepted s z).answer))
      (λ f. answer_row s p z (λ e. f (n ∙ e)) ∙ ap (λ (k : ℕ). refusal k 0) (sym n))

pub plan_answered : (s p : List ℕ) → AnsweredAfter (rule_answer s) (plan_rows s p) (plan_answer s p)
plan_answered s p = record { stands = answer_rule s p; decided = plan_rows_lem s p }

-- rows 40 to 42, of v variables of these kinds, after an answer that stands before the inputs
pub inputs_rows : (v : ℕ) (kinds : ℕ → Kind) (inputs : List ℕ) (room : ℕ) (a : Answer) → a.number ≡ inputs_row v kinds inputs room → (a.number ≡ 0 → a.place ≡ 0)
    → ((a.number ≡ 0 → ⊥) → a ≡ refusal a.number 0) → AnsweredBy (input_rows v kinds inputs room) 0 a
inputs_rows v kinds inputs room a e place whole = answered_by (input_rows v kinds inputs room) 0 a refl (subst (Outcome (input_rows v kinds inputs room)) (sym e) outcome) place whole
  where
    outcome : Outcome (input_rows v kinds inputs room) (inputs_row v kinds inputs room)
    outcome =
        split (eqb (length inputs) v)
        (λ t. let n = eqb-true _ _ t in
        split (some_above kinds inputs (upto v))
        (λ u. inr (1, omega arith, (n, λ h. true≢false (sym u ∙ (above_right v kinds inputs).1 h)), row_bit v kinds inputs room n u))
        (λ u. let low = (above_right v kinds inputs).0 u in
        split (leb v room)
        (λ w. let l = leb-true _ _ w in inl ((n, (low, (l, tt))), row_none v kinds inputs room n u l))
        (λ w. let l = leb-false _ _ w in inr (2, omega arith, (n, (low, λ h. omega arith)), row_room v kinds inputs room n u l))))
        (λ t. let n = eqb-false _ _ t in inr (0, omega arith, n, row_count v kinds inputs room n))

run_rows_lem : (before : Answer) (s inputs : List ℕ) (room : ℕ) → before.number ≡ 0 → before.place ≡ 0
    → AnsweredBy (input_rows (variables s) (kind_at s) inputs room) 0 (run_answer before s inputs room)
run_rows_lem before s inputs room z place =
    let n = run_number before s inputs z room in
    inputs_rows (variables s) (kind_at s) inputs room (run_answer before s inputs room) (n ∙ row_is s inputs room)
    (λ e. ap (λ (a : Answer). a.place) (run_answer_lem before s inputs z room (sym n ∙ e)) ∙ place)
    (λ f. inputs_answer before s inputs z room (λ e. f (n ∙ e)) ∙ ap (λ (k : ℕ). refusal k 0) (sym n))

-- a refused plan's answer is that of running its circuit
pub plan_number : (s p : List ℕ) → ((plan_answer s p).number ≡ 0 → ⊥) → (inputs : List ℕ) (room : ℕ) → run_answer (fused_answer s p) s inputs room ≡ plan_answer s p
plan_number s p n inputs room =
    let e = fused_refused s p n in
    rule_answer_lem (fused_answer s p) s inputs (λ z. n (ap (λ (a : Answer). a.number) (sym e) ∙ z)) room ∙ e

pub run_answered : (s inputs : List ℕ) (room : ℕ) → AnsweredAfter (rule_answer s) (run_rows s inputs room) (run_answer (rule_answer s) s inputs room)
run_answered s inputs room =
    record {
      stands = λ h. rule_answer_lem (rule_answer s) s inputs h room;
      decided = λ z. run_rows_lem (rule_answer s) s inputs room z (ap (λ (a : Answer). a.place) (accepted s z).answer);
    }

pub fused_run_answered : (s p inputs : List ℕ) (room : ℕ) → AnsweredAfter (plan_answer s p) (run_rows s inputs room) (run_answer (fused_answer s p) s inputs room)
fused_run_answered s p inputs room =
    record {
      stands = λ h. plan_number s p h inputs room;
      decided = λ h. let (number, place) = fused_taken s p h in run_rows_lem (fused_answer s p) s inputs room number place;
    }

-- row 50, of an accepted plan
write_rows : (s p : List ℕ) (room : ℕ) → (plan_answer s p).number ≡ 0 → AnsweredBy (buffer_rows s p room) 0 (write_answer s p room)
write_rows s p room h =
    split (leb (length (fused_file s p)) room)
    (λ u. let l = leb-true _ _ u in
    let e = write_taken s p room h l in
    let (number, place) = fused_taken s p h in
    taken_by (buffer_rows s p room) 0 (write_answer s p room) refl (l, tt) (ap (λ (a : Answer). a.number) e ∙ number) (ap (λ (a : Answer). a.place) e ∙ place))
    (λ u. let l = leb-false _ _ u in
    refused_by 0 (buffer_rows s p room) 0 (write_answer s p room) refl (omega arith) (λ k. omega arith) (write_short s p room h l))

pub write_answered : (s p : List ℕ) (room : ℕ) → AnsweredAfter (plan_answer s p) (buffer_rows s p room) (write_answer s p room)
write_answered s p room = record { stands = write_refused s p room; decided = write_rows s p room }
