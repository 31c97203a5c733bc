-- What the check of a refused plan hands up: the circuit, and no groups. The tables of a plan that is laid out name groups by their smallest members, and tell which are joined.
use Rattle.std.specs.Prelude.{ℕ, ◌≤◌, ◌<◌, ◌≡◌, refl, List, ◌⊎◌, not, eqb, leb, get_or}
use Rattle.std.proofs.Common.{arith, sym, ◌∙◌, inl, inr, eq-eqb, ne_eqb, le-leb}
use Rattle.std.proofs.Math.Path.{ap}
use Rattle.std.proofs.Math.ListN.{length}
use Rattle.base.specs.TestLaws.{same?}
use Rattle.base.specs.Answers.{refusal}
use Rattle.base.specs.declared.Answer.{Answer}
use Rattle.circuit.specs.Limits.{most_gates}
use Rattle.base.specs.Buffers.{padded}
use Rattle.circuit.specs.declared.Circuit.{Circuit}
use Rattle.base.specs.Rows.{number_of}
use Rattle.base.specs.declared.Row.{Row}
use Rattle.plan.specs.Ungrouped.{Ungrouped}
use Rattle.plan.specs.declared.Grouping.{Grouping}
use Rattle.plan_groups.specs.RefusalLaws.{row_some}
use Rattle.plan_check.specs.InHand.{IsBuilt}
use Rattle.plan.specs.PlanFile.{groups_in, Apart}
use Rattle.plan.specs.Groups.{group_of, Named, members}
use Rattle.plan.specs.Rows.{layout_rows, first_failing, plan_answer}
use Rattle.plan.specs.RowLaws.{apart_right}
use Rattle.plan.specs.FailingLaws.{none_fails}
use Rattle.plan.specs.GroupLaws.{group_of_named}
use Rattle.plan.specs.ListedLaws.{unlisted_name}
use Rattle.plan.specs.Places.{place_of}
use Rattle.plan.specs.PlaceLaws.{unplaced, place_alone, place_members, place_name, place_two}
use Rattle.plan.proofs.SameLaws.{members_same}
use Rattle.plan_groups.specs.Walks.{Readable}
use Rattle.plan_groups.specs.Tables.{group_table, place_table}
use Rattle.plan_groups.specs.TableLaws.{group_at_lem, place_at}
use Rattle.plan_groups.specs.RowLaws.{layout_readable}
use Rattle.plan_check.specs.CheckedLaws.{refused_lists}
use Rattle.plan_check.specs.Handed.{Handed}
use Rattle.plan_check.specs.Checked.{checked_groups, checked_order, checked_places}

-- a refused plan hands up the circuit, and no groups
module _ (s p : List ℕ) (r : Answer) (circuit : Circuit) (b : IsBuilt s r circuit) (grouping : Grouping) (clear : Ungrouped grouping) (zero : grouping.groups ≡ 0) where
  pub refused_handed : (a : Answer) → a ≡ plan_answer s p → (a.number ≡ 0 → ⊥) → (a ≡ plan_answer s p) × Handed s p circuit grouping
  unfolding checked_groups checked_order checked_places
  refused_handed a e h =
      let n : (plan_answer s p).number ≡ 0 → ⊥ = λ z. h (ap (λ (b : Answer). b.number) e ∙ z) in
      let none = refused_lists s p n in (
        e,
        record {
          quads_are = b.quads;
          needs_are = b.needs;
          outputs_are = b.outputs;
          conditions_are = b.conditions;
          count_is = b.count;
          group_is = clear.0 ∙ ap (padded most_gates) (sym (none _));
          places_are = clear.1.0 ∙ ap (padded most_gates) (sym (none _));
          order_is = clear.1.1 ∙ ap (padded most_gates) (sym (none _));
          groups_are = zero ∙ ap length (sym (none _));
        },
      )

  -- so does one that a row refuses
  pub row_handed : (row : Row) → refusal (number_of row) 0 ≡ plan_answer s p → (refusal (number_of row) 0 ≡ plan_answer s p) × Handed s p circuit grouping
  row_handed row e = refused_handed (refusal (number_of row) 0) e (row_some row)

-- the tables of a plan that is laid out, of n gates
module _ (n : ℕ) (p : List ℕ) (room : n ≤ most_gates) (none : first_failing (layout_rows n p) ≡ 0) where
  readable : Readable n p
  readable = layout_readable n p room none

  once : Apart (groups_in p)
  once = (apart_right (groups_in p)).0 ((none_fails (layout_rows n p) refl).0 none).1.1.1.1.1.1.0

  named : Named (group_of (groups_in p))
  named = group_of_named (groups_in p) readable.joins readable.rising once

  abbrev group : ℕ → ℕ
  group g = get_or (group_table n (groups_in p)) g 0

  pub table_named : (x : ℕ) → x < n → (group x ≤ x) × (group (group x) ≡ group x)
  table_named x l =
      let e = group_at_lem n p x l in
      let r : (group_of (groups_in p) x ≤ x) × (group_of (groups_in p) (group_of (groups_in p) x) ≡ group_of (groups_in p) x) = named x in
      (rw e r.0, rw e (group_at_lem n p (group_of (groups_in p) x) (omega (arith, r.0)) ∙ r.1))

  -- a gate has a place in the plan exactly when its group has two or more members
  pub table_many : (m : ℕ) → m < n → leb 2 (length (members n group (group m))) ≡ not (eqb (get_or (place_table n p) m 0) 0)
  table_many m l = go (same? (place_of p m) 0)
    where
      as_table : members n group (group m) ≡ members n (group_of (groups_in p)) (group_of (groups_in p) m)
      as_table = members_same n group (group_of (groups_in p)) (λ x k. group_at_lem n p x k) (group m) ∙ ap (members n (group_of (groups_in p))) (group_at_lem n p m l)

      place : get_or (place_table n p) m 0 ≡ place_of p m
      place = place_at n p m l

      go : (place_of p m ≡ 0) ⊎ (place_of p m ≡ 0 → ⊥) → leb 2 (length (members n group (group m))) ≡ not (eqb (get_or (place_table n p) m 0) 0)
      go (inl z) =
          rw (as_table, unlisted_name (groups_in p) m (unplaced p m z), place_alone n p readable.joins readable.rising once m l z, place, eq-eqb (place_of p m) 0 z)
      go (inr z) =
          let e = place_name n p readable.joins readable.rising once m readable.ended z in
          let f = place_members n p readable.joins readable.rising once m readable.exist readable.ended z in
          rw (as_table, e, f, place, le-leb _ _ (place_two n p readable.joins readable.rising once m readable.ended z), ne_eqb (place_of p m) 0 z)
