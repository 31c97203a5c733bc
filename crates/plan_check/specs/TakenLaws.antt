-- The check of a plan that is laid out: its tables can be ordered; where a circle remains no groups are handed up, else the tables and the order.
use Rattle.std.specs.Prelude.{ℕ, ◌<◌, ◌≡◌, Bool, true, cond, length, get_or, replicate, Ok, Err}
use Rattle.std.proofs.Common.{sym, ◌∙◌}
use Rattle.std.proofs.Math.Path.{ap, subst⁻¹}
use mathlib.Core.List.{List, map, reverse}
use Rattle.std.proofs.lemmas.List.{length-reverse}
use Rattle.base.specs.Lists.{upto}
use Rattle.base.specs.Buffers.{over, padded}
use Rattle.base.specs.Answers.{refusal}
use Rattle.base.specs.declared.Answer.{Answer}
use Rattle.circuit.specs.Gates.{Gates, Earlier, conditions}
use Rattle.circuit.specs.Limits.{most_gates}
use Rattle.circuit.specs.PlainCircuit.{gates_of}
use Rattle.circuit_needed.specs.Held.{gates_in}
use Rattle.circuit_needed.specs.Pass.{rule_preconditions}
use Rattle.circuit_build.specs.BuiltLaws.{over_zeros}
use Rattle.circuit_build.specs.BuiltParts.{built_earlier, built_condition}
use Rattle.plan.specs.PlanFile.{groups_in}
use Rattle.plan.specs.Groups.{group_of}
use Rattle.plan.specs.Order.{order}
use Rattle.plan.specs.Rows.{layout_rows, join_rows, first_failing, placed, plan_answer}
use Rattle.plan.specs.Places.{place_of}
use Rattle.plan.proofs.SameLaws.{order_same, placed_same, order_sets_same, placed_sets_same}
use Rattle.plan.proofs.CountLaws.{placed_count}
use Rattle.plan_groups.specs.Tables.{group_table, place_table}
use Rattle.plan_groups.specs.TableLaws.{group_at_lem}
use Rattle.plan_waits.specs.Reads.{Orderable}
use Rattle.plan_order.specs.Row.{order_of}
use Rattle.plan_order.specs.AnswerLaws.{answer_placed, order_row_lem}
use Rattle.base.specs.SetsHeld.{sets_in}
use Rattle.base.specs.Rows.{number_of, row_in}
use Rattle.base.specs.declared.Row.{Row}
use Rattle.circuit.specs.declared.Circuit.{Circuit}
use Rattle.plan.specs.Ungrouped.{Ungrouped}
use Rattle.plan.specs.declared.Grouping.{Grouping}
use Rattle.plan_groups.specs.RefusalLaws.{row_some}
use Rattle.plan_check.specs.Checked.{if_checked, writing_order, checked_groups, checked_places, checked_order}
use Rattle.plan_check.specs.Handed.{Handed}
use Rattle.plan_check.specs.CheckedLaws.{accepted_lists}
use Rattle.plan_check.specs.InHand.{IsBuilt}
use Rattle.plan_check.specs.AnswerLaws.{accepted_rule, gates_are, gates_room, gates_in_lem, needs_in, circle_refused, plan_taken}
use Rattle.plan_check.specs.HandedLaws.{row_handed, table_named, table_many}

module _ (s p : List ℕ) (a : Answer) (circuit : Circuit) (sh : IsBuilt s a circuit) (zero : a.number ≡ 0)
    (laid : ℕ) (e : laid ≡ first_failing (layout_rows circuit.count p)) (none : laid ≡ 0) (grouping : Grouping)
    (g : grouping.group ≡ group_table circuit.count (groups_in p)) (j : grouping.places ≡ place_table circuit.count p) where
  abbrev n : ℕ
  n = circuit.count

  abbrev quads : List ℕ
  quads = circuit.quads

  abbrev needs : List ℕ
  needs = sets_in circuit.needs

  rule : Earlier (gates_of s)
  rule = built_earlier s (accepted_rule s p a circuit sh zero)

  -- what the order of the groups is worked out from
  pub tables_orderable : Orderable circuit grouping
  tables_orderable =
      let room = gates_room s p a circuit sh zero in
      let gates = gates_in_lem s p a circuit sh zero in
      let laid_out : first_failing (layout_rows n p) ≡ 0 = sym e ∙ none in
      record {
        room = room;
        earlier = subst⁻¹ Earlier gates rule;
        listed = λ t l.
            ap (λ (d : List ℕ). get_or d t 0) sh.conditions ∙ built_condition s (accepted_rule s p a circuit sh zero) t ∙ ap (λ (C : Gates). get_or (conditions C) t 0)
            (sym gates);
        named = λ x l. rw g (table_named n p room laid_out x l);
        many = λ m l. rw (g, j) (table_many n p room laid_out m l);
      }

  abbrev tabled : ℕ → ℕ
  tabled x = get_or grouping.group x 0

  as_plan : (x : ℕ) → x < length (gates_of s) → tabled x ≡ group_of (groups_in p) x
  as_plan x l = ap (λ (t : List ℕ). get_or t x 0) g ∙ group_at_lem n p x (rw (gates_are s p a circuit sh zero) l)

  -- the order that is found is the plan's
  order_is : order (gates_in quads n) needs tabled ≡ order (gates_of s) (rule_preconditions s) (group_of (groups_in p))
  order_is =
      ap (λ (C : Gates). order C needs tabled) (gates_in_lem s p a circuit sh zero)
      ∙ order_sets_same (gates_of s) needs (rule_preconditions s) (needs_in s p a circuit sh zero) tabled
      ∙ order_same (gates_of s) rule (rule_preconditions s) tabled (group_of (groups_in p)) as_plan

  placed_is : placed (gates_in quads n) needs tabled ≡ placed (gates_of s) (rule_preconditions s) (group_of (groups_in p))
  placed_is =
      ap (λ (C : Gates). placed C needs tabled) (gates_in_lem s p a circuit sh zero)
      ∙ placed_sets_same (gates_of s) needs (rule_preconditions s) (needs_in s p a circuit sh zero) tabled
      ∙ placed_same (gates_of s) rule (rule_preconditions s) tabled (group_of (groups_in p)) as_plan

  module _ (join : ℕ) (f : join ≡ first_failing (join_rows (gates_in quads n) needs p)) (gone : join ≡ 0) where
    -- a circle remains: a refused plan hands up no groups
    pub circle_handed : (row : Row) → Err row ≡ order_of (gates_in quads n) needs tabled → (after : Grouping) → Ungrouped after → after.groups ≡ 0
        → (refusal (number_of row) 0 ≡ plan_answer s p) × Handed s p circuit after
    circle_handed row h after clear free =
        let x = ap row_in h ∙ order_row_lem (gates_in quads n) needs tabled ∙ ap (λ (b : Bool). cond b 0 30) placed_is in
        row_handed s p a circuit sh after clear free row
        (circle_refused s p a circuit sh zero laid e none join f gone (number_of row) x (row_some row))

  -- every group is placed
  module _ (join : ℕ) (f : join ≡ first_failing (join_rows (gates_in quads n) needs p)) (gone : join ≡ 0)
      (k : ℕ) (h : Ok k ≡ order_of (gates_in quads n) needs tabled) (clear : grouping.order ≡ replicate 256 0) where
    all : placed (gates_of s) (rule_preconditions s) (group_of (groups_in p)) ≡ true
    all = sym placed_is ∙ (answer_placed (gates_in quads n) needs tabled k h).0

    taken_answer : a ≡ plan_answer s p
    taken_answer = plan_taken s p a circuit sh zero laid e none join f gone all

    accepted : (plan_answer s p).number ≡ 0
    accepted = ap (λ (a : Answer). a.number) (sym taken_answer) ∙ zero

    taken_group : grouping.group ≡ checked_groups s p
    unfolding group_table checked_groups
    taken_group =
        g ∙ ap (λ (m : ℕ). padded most_gates (map (group_of (groups_in p)) (upto m))) (gates_are s p a circuit sh zero) ∙ ap (padded most_gates) (sym (accepted_lists s p accepted _))

    taken_joined : grouping.places ≡ checked_places s p
    unfolding place_table checked_places
    taken_joined =
        j ∙ ap (λ (m : ℕ). padded most_gates (map (place_of p) (upto m))) (gates_are s p a circuit sh zero) ∙ ap (padded most_gates) (sym (accepted_lists s p accepted _))

    taken_order : over (reverse (order (gates_in quads n) needs tabled)) grouping.order ≡ checked_order s p
    unfolding checked_order
    taken_order =
        ap (over (reverse (order (gates_in quads n) needs tabled))) clear ∙ over_zeros (reverse (order (gates_in quads n) needs tabled)) most_gates
        ∙ ap (λ (l : List ℕ). padded most_gates (reverse l)) order_is ∙ ap (padded most_gates) (sym (accepted_lists s p accepted _))

    taken_groups : k ≡ length (if_checked s p (writing_order s p))
    taken_groups =
        let t = answer_placed (gates_in quads n) needs tabled k h in
        t.1 ∙ sym (placed_count (gates_in quads n) needs tabled t.0) ∙ ap length order_is
        ∙ sym (length-reverse (order (gates_of s) (rule_preconditions s) (group_of (groups_in p)))) ∙ ap length (sym (accepted_lists s p accepted _))

    -- all that is handed up
    pub taken_handed : (a ≡ plan_answer s p)
        × Handed s p circuit (record grouping { order = over (reverse (order (gates_in quads n) needs tabled)) grouping.order; groups = k })
    taken_handed = (
      taken_answer,
      record {
        quads_are = sh.quads;
        needs_are = sh.needs;
        outputs_are = sh.outputs;
        conditions_are = sh.conditions;
        count_is = sh.count;
        group_is = taken_group;
        places_are = taken_joined;
        order_is = taken_order;
        groups_are = taken_groups;
      },
    )
