-- The plain circuit built: of an accepted rule the arrays hold its gates, preconditions, outputs and conditions; a refused rule leaves them clear.
use Rattle.std.specs.Prelude.{ℕ, zero, suc, ◌-◌, ◌*◌, ◌≤◌, ◌≡◌, length, take, drop}
use Rattle.std.proofs.Common.{arith, ◌∙◌, eq-eqb, ne_eqb}
use Rattle.std.proofs.Math.Path.{sym, ap, subst⁻¹}
use mathlib.Core.List.{List, [], ◌++◌}
use Rattle.std.proofs.Math.ListN.{get_or, replicate}
use Rattle.base.specs.Buffers.{over, padded}
use Rattle.base.specs.BufferLaws.{padded_at}
use Rattle.base.specs.ListLaws.{map_same}
use Rattle.base.specs.Lists.{Inside}
use Rattle.base.specs.ParsingLaws.{is_read}
use Rattle.base.specs.declared.Answer.{Answer}
use Rattle.rule.specs.Limits.{most_variables}
use Rattle.rule.specs.Header.{variables, HasKinds, result_variables}
use Rattle.rule.specs.FirstStatement.{rule_read}
use Rattle.rule.specs.Rule.{read_rule}
use Rattle.circuit.specs.Limits.{most_gates, most_conditions}
use Rattle.circuit.specs.Gates.{conditions}
use Rattle.circuit.specs.PlainCircuit.{gates_of, outputs_of, gate_count}
use Rattle.circuit.specs.Quads.{quads_of}
use Rattle.circuit_make.specs.RuleMade.{RuleMade}
use Rattle.circuit_needed.specs.Needed.{wanted_among, wanted_of}
use Rattle.circuit_needed.specs.Pass.{precondition_sets, rule_preconditions}
use Rattle.circuit_needed.specs.Held.{gates_in}
use Rattle.circuit_needed.specs.HeldQuads.{rule_held}
use Rattle.circuit_needed.specs.Ranks.{ranks_of, marked_in}
use Rattle.circuit_needed.specs.GatherLaws.{conditions_gathered}
use Rattle.circuit_needed.specs.Passing.{Passable}
use Rattle.circuit_needed.specs.PassingLaws.{sets_length}
use Rattle.circuit_needed.specs.RuleQuads.{quads_passable, quads_wanted, quads_preconditions}
use Rattle.circuit.specs.Whole.{rule_answer}
use Rattle.circuit.specs.WholeLaws.{Accepted}
use Rattle.circuit_needed.specs.Built.{if_accepted, built_quads, built_needs, built_outputs, built_conditions}
use Rattle.circuit_build.specs.Making.{MadeWhole}
use Rattle.circuit_build.specs.MakingLaws.{made_held}

-- of a refused rule nothing is built, of an accepted one the list
pub refused_shows : (s : List ℕ) → ((rule_answer s).number ≡ 0 → ⊥) → (l : List ℕ) → if_accepted s l ≡ []
unfolding if_accepted
refused_shows s h l = rw (ne_eqb (rule_answer s).number 0 h)

pub accepted_builds : (s : List ℕ) → (rule_answer s).number ≡ 0 → (l : List ℕ) → if_accepted s l ≡ l
unfolding if_accepted
accepted_builds s h l = rw (eq-eqb (rule_answer s).number 0 h)

-- what is built of a refused one is clear
module _ (s : List ℕ) (h : (rule_answer s).number ≡ 0 → ⊥) where
  pub no_quads : built_quads s ≡ replicate 1024 0
  unfolding built_quads
  no_quads = rw (refused_shows s h)

  pub no_needs : built_needs s ≡ replicate 256 0
  unfolding built_needs
  no_needs = rw (refused_shows s h)

  pub no_outputs : built_outputs s ≡ replicate 32 0
  unfolding built_outputs
  no_outputs = rw (refused_shows s h)

  pub no_conditions : built_conditions s ≡ replicate most_conditions 0
  unfolding built_conditions
  no_conditions = rw (refused_shows s h)

drop_same : (z k n : ℕ) → drop k (replicate n z) ≡ replicate (n - k) z
drop_same z zero n = let e : n ≡ n - 0 = omega arith in ap (λ (m : ℕ). replicate m z) e
drop_same z (suc k) zero = let e : 0 ≡ 0 - suc k = omega arith in ap (λ (m : ℕ). replicate m z) e
drop_same z (suc k) (suc n) = let e : n - k ≡ suc n - suc k = omega arith in drop_same z k n ∙ ap (λ (m : ℕ). replicate m z) e

-- numbers at the start of zeros are the numbers, then zeros
pub over_zeros : (l : List ℕ) (n : ℕ) → over l (replicate n 0) ≡ padded n l
unfolding over
over_zeros l n = ap (λ (z : List ℕ). l ++ z) (drop_same 0 (length l) n)

-- what is built of a rule whose circuit is made
module _ (s quads present ranks : List ℕ) (count : ℕ) (ready : MadeWhole s quads present ranks count) where
  acc : Accepted s
  acc = ready.accepted

  made : RuleMade s quads present count
  made = ready.made

  counted : count ≡ gate_count s
  counted = made.counted acc.gates

  ready_room : count ≤ most_gates
  ready_room = rw counted acc.gates

  pub ready_variables : HasKinds s × (variables s ≤ most_variables)
  ready_variables = let h = (rule_read s acc.read).header in (h.kinds, h.few)

  placed : ranks ≡ ranks_of (gates_in quads (gate_count s)) most_gates
  placed = ready.placed ready_room ∙ ap (λ (n : ℕ). ranks_of (gates_in quads n) most_gates) counted

  held : take (4 * gate_count s) quads ≡ quads_of s (gates_of s)
  held = made_held s quads present count acc.read made acc.gates

  -- what is wanted of the outputs, as they lie in the array, is what the rule wants
  wanted : wanted_among s present ≡ wanted_of s
  unfolding wanted_of
  wanted =
      map_same (λ x. get_or present x 0) (λ x. get_or (outputs_of s) x 0) (result_variables s)
      (λ x _. ap (λ (l : List ℕ). get_or l x 0) (made.outputs acc.gates) ∙ padded_at most_variables (outputs_of s) x)

  pub ready_passable : Passable quads ranks count
  ready_passable =
      let r = is_read (read_rule s) acc.read in
      subst⁻¹ (Passable quads ranks) counted (quads_passable s r.0 r.1 r.2 quads held ranks acc.gates acc.conds placed)

  pub ready_wanted : Inside count (wanted_among s present)
  ready_wanted =
      let r = is_read (read_rule s) acc.read in
      subst⁻¹ (λ (n : ℕ). Inside n (wanted_among s present)) counted (quads_wanted s r.0 r.1 r.2 quads held (wanted_among s present) wanted)

  -- the conditions' gates are those that have a number
  same_conditions : marked_in ranks count ≡ conditions (gates_of s)
  same_conditions =
      let r = is_read (read_rule s) acc.read in
      conditions_gathered quads ranks count ready_room (ready.placed ready_room)
      ∙ ap (λ (n : ℕ). conditions (gates_in quads n)) counted ∙ ap conditions (rule_held s r.0 r.1 r.2 quads held)

  pub ready_few : (count ≤ most_gates) × (length (marked_in ranks count) ≤ most_conditions)
  ready_few = (ready_room, rw same_conditions acc.conds)

  accepted_is : (l : List ℕ) → if_accepted s l ≡ l
  accepted_is = accepted_builds s (ap (λ (b : Answer). b.number) acc.answer)

  pub ready_quads : quads ≡ built_quads s
  unfolding built_quads
  ready_quads = made.lie acc.gates ∙ ap (padded (4 * most_gates)) (sym (accepted_is (quads_of s (gates_of s))))

  pub ready_outputs : present ≡ built_outputs s
  unfolding built_outputs
  ready_outputs = made.outputs acc.gates ∙ ap (padded most_variables) (sym (accepted_is (outputs_of s)))

  pub ready_conditions : (shown : List ℕ) → shown ≡ over (marked_in ranks count) (replicate most_conditions 0) → shown ≡ built_conditions s
  unfolding built_conditions
  ready_conditions shown e =
      e ∙ ap (λ (l : List ℕ). over l (replicate most_conditions 0)) same_conditions
      ∙ over_zeros (conditions (gates_of s)) most_conditions ∙ ap (padded most_conditions) (sym (accepted_is (conditions (gates_of s))))

  pub ready_needs : (needs : List ℕ) → needs ≡ precondition_sets most_conditions (gates_in quads count) (wanted_among s present) ++ replicate (most_gates - count) 0
      → needs ≡ built_needs s
  unfolding built_needs
  ready_needs needs e =
      let r = is_read (read_rule s) acc.read in
      let sets : precondition_sets most_conditions (gates_in quads count) (wanted_among s present) ≡ rule_preconditions s
      = ap (λ (n : ℕ). precondition_sets most_conditions (gates_in quads n) (wanted_among s present)) counted
      ∙ quads_preconditions s r.0 r.1 r.2 quads held (wanted_among s present) wanted in
      e ∙ ap (λ (l : List ℕ). l ++ replicate (most_gates - count) 0) sets
      ∙ ap (λ (n : ℕ). rule_preconditions s ++ replicate (most_gates - n) 0) (counted ∙ sym (sets_length most_conditions (gates_of s) (wanted_of s)))
      ∙ ap (padded most_gates) (sym (accepted_is (rule_preconditions s)))
