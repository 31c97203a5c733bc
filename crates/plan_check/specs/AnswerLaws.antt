-- What the check of a plan answers, as the code finds it: the rule's refusal, then the first failing row of 20 to 26, of 32 and 27 to 29, then 30; where none fails, the rule's answer.
use Rattle.std.specs.Prelude.{ℕ, ◌≤◌, ◌≡◌, List, ◌++◌, true, cond, get_or}
use Rattle.std.proofs.Math.Path.{refl, sym}
use Rattle.std.proofs.Common.{ap, subst, ◌∙◌}
use Rattle.base.specs.Answers.{refusal}
use Rattle.base.specs.declared.Answer.{Answer}
use Rattle.circuit.specs.Gates.{Gates}
use Rattle.circuit.specs.Limits.{most_gates}
use Rattle.circuit.specs.PlainCircuit.{gates_of, gate_count}
use Rattle.circuit_needed.specs.Held.{gates_in}
use Rattle.circuit_needed.specs.Pass.{rule_preconditions}
use Rattle.circuit.specs.Whole.{rule_answer}
use Rattle.circuit_needed.specs.Built.{built_quads}
use Rattle.circuit_build.specs.BuiltParts.{built_count, built_room, built_gates, built_need}
use Rattle.plan.specs.PlanFile.{groups_in}
use Rattle.plan.specs.Groups.{group_of}
use Rattle.plan.specs.Rows.{Row, layout_rows, join_rows, order_rows, first_failing, placed, plan_row, plan_answer}
use Rattle.plan.specs.FailingLaws.{failing_first, failing_second}
use Rattle.plan.proofs.AcceptedLaws.{answer_rule, answer_row, answer_accepted}
use Rattle.plan.proofs.SameLaws.{joins_same}
use Rattle.base.specs.SetsHeld.{sets_in}
use Rattle.circuit.specs.declared.Circuit.{Circuit}
use Rattle.plan_check.specs.InHand.{IsBuilt}

module _ (s p : List ℕ) (a : Answer) (circuit : Circuit) (sh : IsBuilt s a circuit) where
  -- the rule's refusal is taken over whole
  pub rule_refused : (a.number ≡ 0 → ⊥) → a ≡ plan_answer s p
  rule_refused h = sh.answer ∙ sym (answer_rule s p (λ z. h (ap (λ (a : Answer). a.number) sh.answer ∙ z)))

  module _ (zero : a.number ≡ 0) where
    pub accepted_rule : (rule_answer s).number ≡ 0
    accepted_rule = ap (λ (a : Answer). a.number) (sym sh.answer) ∙ zero

    pub gates_are : circuit.count ≡ gate_count s
    gates_are = sh.count ∙ built_count s accepted_rule

    pub gates_room : circuit.count ≤ most_gates
    gates_room = subst (λ (n : ℕ). n ≤ most_gates) (sym gates_are) (built_room s accepted_rule)

    -- the gates in the quads are the rule's
    pub gates_in_lem : gates_in circuit.quads circuit.count ≡ gates_of s
    gates_in_lem = ap (λ (r : List ℕ). gates_in r circuit.count) sh.quads ∙ ap (gates_in (built_quads s)) gates_are ∙ built_gates s accepted_rule

    pub needs_in : (g : ℕ) → get_or (sets_in circuit.needs) g 0 ≡ get_or (rule_preconditions s) g 0
    needs_in g = ap (λ (l : List ℕ). get_or l g 0) sh.needs ∙ built_need s accepted_rule g

    abbrev layout : List Row
    layout = layout_rows (gate_count s) p

    abbrev joins : List Row
    joins = join_rows (gates_of s) (rule_preconditions s) p

    abbrev last : List Row
    last = order_rows (gates_of s) (rule_preconditions s) p

    -- a plan is refused by the number of a row that is not 0
    row_refused : (r : ℕ) → r ≡ plan_row s p → (r ≡ 0 → ⊥) → refusal r 0 ≡ plan_answer s p
    row_refused r e h = ap (λ (k : ℕ). refusal k 0) e ∙ sym (answer_row s p accepted_rule (λ z. h (e ∙ z)))

    -- 20 to 26
    module _ (laid : ℕ) (e : laid ≡ first_failing (layout_rows circuit.count p)) where
      laid_is : laid ≡ first_failing layout
      laid_is = e ∙ ap (λ (n : ℕ). first_failing (layout_rows n p)) gates_are

      pub layout_refused : (laid ≡ 0 → ⊥) → refusal laid 0 ≡ plan_answer s p
      unfolding plan_row
      layout_refused h = row_refused laid (laid_is ∙ sym (failing_first layout (joins ++ last) (λ z. h (laid_is ∙ z)))) h

      -- 32 and 27 to 29
      module _ (none : laid ≡ 0) (join : ℕ) (f : join ≡ first_failing (join_rows (gates_in circuit.quads circuit.count) (sets_in circuit.needs) p)) where
        join_is : join ≡ first_failing joins
        join_is =
            f ∙ ap (λ (C : Gates). first_failing (join_rows C (sets_in circuit.needs) p)) gates_in_lem ∙ joins_same (gates_of s) (sets_in circuit.needs) (rule_preconditions s) p needs_in

        later : plan_row s p ≡ first_failing (joins ++ last)
        unfolding plan_row
        later = failing_second layout (joins ++ last) refl (sym laid_is ∙ none)

        pub join_refused : (join ≡ 0 → ⊥) → refusal join 0 ≡ plan_answer s p
        join_refused h = row_refused join (join_is ∙ sym (failing_first joins last (λ z. h (join_is ∙ z))) ∙ sym later) h

        -- 30
        module _ (gone : join ≡ 0) where
          only : plan_row s p ≡ first_failing last
          only = later ∙ failing_second joins last refl (sym join_is ∙ gone)

          pub circle_refused : (row : ℕ) → row ≡ cond (placed (gates_of s) (rule_preconditions s) (group_of (groups_in p))) 0 30 → (row ≡ 0 → ⊥)
              → refusal row 0 ≡ plan_answer s p
          circle_refused row d h = row_refused row (d ∙ sym only) h

          pub plan_taken : placed (gates_of s) (rule_preconditions s) (group_of (groups_in p)) ≡ true → a ≡ plan_answer s p
          plan_taken h = sh.answer ∙ sym (answer_accepted s p accepted_rule (only ∙ rw h))
