-- Plans that form the same groups in any order (document 02, C-15): the rows 27 to 30 hold of both or of none, so a plan put in order is answered by them.
use Rattle.std.specs.Prelude.{◌≡◌, refl, Bool, true, List, [], ◌∷◌, ◌++◌, ◌⊎◌, ◌↔◌, ℕ, ◌≤◌, ◌<◌, length, drop}
use Rattle.std.proofs.Common.{sym, ap, ◌∙◌, inl, inr, arith}
use Rattle.std.proofs.Math.Path.{fun_ext}
use Rattle.base.specs.Lists.{◌∈◌, every}
use Rattle.base.specs.TestLaws.{same_test}
use Rattle.circuit.specs.Gates.{gate_at}
use Rattle.circuit.specs.PlainCircuit.{gates_of, gate_count}
use Rattle.circuit_needed.specs.Pass.{rule_preconditions}
use Rattle.circuit.specs.Whole.{rule_answer}
use Rattle.plan.specs.PlanFile.{Plan, groups_in, EachGroup, Rising, Listed, Apart}
use Rattle.plan.specs.Groups.{smallest, group_of}
use Rattle.plan.specs.Rows.{every_group, is_costly, alike, parted, placed, Row, layout_rows, join_rows, order_rows, rows, first_failing, plan_row, plan_answer}
use Rattle.plan.specs.Accepted.{LaidOut, Exist, GroupsRise}
use Rattle.plan.specs.SameGroups.{SameGroups}
use Rattle.plan.specs.GroupLaws.{smallest_in, group_of_kind}
use Rattle.plan.specs.RowLaws.{each_right}
use Rattle.plan.specs.ListedLaws.{StandsIn, stands_each, each_stands, listed_stands, rising_same, name_to, name_back}
use Rattle.plan.specs.NameLaws.{same_names}
use Rattle.plan.specs.FailingLaws.{none_fails, failing_second}
use Rattle.plan.proofs.AcceptedLaws.{layout_right, order_right, answer_number, out_of_order}

-- groups of two or more gates, rising, no gate in two
pub record Laid (Gs : Plan) : Type 0 where
  pub joins : EachGroup (λ G. 2 ≤ length G) Gs
  pub rising : EachGroup Rising Gs
  pub once : Apart Gs

pub laid : (s p : List ℕ) → LaidOut s p → Apart (groups_in p) → Laid (groups_in p)
laid s p l a = record { joins = l.joins; rising = l.rising; once = a }

-- a member above the smallest
second : (G : List ℕ) → 2 ≤ length G → Rising G → (k : ℕ) × (k ∈ G) × (smallest G < k)
second [] o r = absurd (omega arith)
second (m ∷ []) o r = absurd (omega arith)
second (m ∷ k ∷ l) o (a, r) = (k, inr (inl refl), a)

module _ (P Q : Plan) (v : Laid P) (w : Laid Q) (names : (g : ℕ) → group_of P g ≡ group_of Q g) where
  -- a group that stands in the one stands in the other
  pub stands_same : (G : List ℕ) → StandsIn Q G → StandsIn P G
  stands_same G s = found (group_of_kind P v.joins other.0)
    where
      two : 2 ≤ length G
      two = stands_each (λ K. 2 ≤ length K) Q G s w.joins

      other : (k : ℕ) × (k ∈ G) × (smallest G < k)
      other = second G two (stands_each Rising Q G s w.rising)

      named : group_of P other.0 ≡ smallest G
      named = names other.0 ∙ name_to Q G other.0 w.once s other.1

      same : (H : List ℕ) → StandsIn P H → smallest G ∈ H → H ≡ G
      same H t m =
          let e : smallest H ≡ smallest G =
          sym (name_to P H (smallest G) v.once t m) ∙ names (smallest G) ∙ name_to Q G (smallest G) w.once s (smallest_in G two) in
          rising_same H G (stands_each Rising P H t v.rising) (stands_each Rising Q G s w.rising)
          (λ a i. name_back Q G a w.joins w.once s (sym (names a) ∙ name_to P H a v.once t i ∙ e))
          (λ a i. name_back P H a v.joins v.once t (names a ∙ name_to Q G a w.once s i ∙ sym e))

      found : (group_of P other.0 ≡ other.0) ⊎ Listed P (group_of P other.0) → StandsIn P G
      found (inl e) = absurd (omega (arith, other.2, named))
      found (inr h) =
          let (H, t, m) = listed_stands P (smallest G) (rw named at h) in
          rw (same H t m) at t

  each_turned : (X : List ℕ → Type 0) → EachGroup X P → EachGroup X Q
  each_turned X h = each_stands X Q (λ G s. stands_each X P G (stands_same G s) h)

-- a test of every group holds of both or of none
every_turned : (P Q : Plan) → Laid P → Laid Q → ((g : ℕ) → group_of P g ≡ group_of Q g) → (t : List ℕ → Bool) → every_group t P ≡ every_group t Q
every_turned P Q v w names t =
    same_test (every_group t P) (every_group t Q)
    (λ h. (is Q).1 (each_turned P Q v w names (λ G. t G ≡ true) ((is P).0 h)))
    (λ h. (is P).1 (each_turned Q P w v (λ g. sym (names g)) (λ G. t G ≡ true) ((is Q).0 h)))
  where
    is : (Gs : Plan) → (every_group t Gs ≡ true) ↔ EachGroup (λ G. t G ≡ true) Gs
    is Gs = each_right t (λ G. t G ≡ true) (λ G. (λ h. h, λ h. h)) Gs

-- the rows after 32
abbrev later_rows : List ℕ → List ℕ → List Row
later_rows s p = drop 1 (join_rows (gates_of s) (rule_preconditions s) p) ++ order_rows (gates_of s) (rule_preconditions s) p

module _ (s p q : List ℕ) (l : LaidOut s p) (m : LaidOut s q) (a : Apart (groups_in p)) (b : Apart (groups_in q)) (same : SameGroups (groups_in p) (groups_in q)) where
  -- they hold of both or of none
  later_same : first_failing (later_rows s p) ≡ first_failing (later_rows s q)
  later_same =
      let names = same_names s p q l m a b same in
      let t = every_turned (groups_in p) (groups_in q) (laid s p l a) (laid s q m b) names in
      rw (
        t (every (λ g. is_costly (gate_at (gates_of s) g))),
        t (alike (gates_of s)),
        t (parted (rule_preconditions s)),
        ap (placed (gates_of s) (rule_preconditions s)) (fun_ext names),
      )

  -- gates that exist for the one exist for the other
  exist_same : EachGroup (Exist (gate_count s)) (groups_in p) → EachGroup (Exist (gate_count s)) (groups_in q)
  exist_same = each_turned (groups_in p) (groups_in q) (laid s p l a) (laid s q m b) (same_names s p q l m a b same) (Exist (gate_count s))

-- a plan that 32 refuses, put in order, is answered by its rows 27 to 30
pub put_in_order : (s p q : List ℕ) → (rule_answer s).number ≡ 0 → (plan_answer s p).number ≡ 32 → LaidOut s q → Apart (groups_in q) → GroupsRise (groups_in q)
    → SameGroups (groups_in p) (groups_in q) → (plan_answer s q).number ≡ first_failing (drop 8 (rows s p))
unfolding plan_row
put_in_order s p q r h m b o same =
    let ((l, (exist, a)), _) = (out_of_order s p r).0 h in
    let held = (layout_right s q).1 (m, (exist_same s p q l m a b same exist, b)) in
    answer_number s q r
    ∙ failing_second (layout_rows (gate_count s) q) (join_rows (gates_of s) (rule_preconditions s) q ++ order_rows (gates_of s) (rule_preconditions s) q) refl
    ((none_fails (layout_rows (gate_count s) q) refl).1 held)
    ∙ rw ((order_right (groups_in q)).1 o) (sym (later_same s p q l m a b same))
