-- A rule's gates, made into quads: up to 256 of them, read back, are the rule's; so rows 10 and 11 and the answer, worked out from the quads, are the rule's.
use Rattle.std.specs.Prelude.{ℕ, ◌-◌, ◌*◌, ◌<◌, ◌≤◌, ◌≡◌, List, length, take, replicate, leb}
use Rattle.std.proofs.Common.{arith, sym, ap, ◌∙◌, take_at, le-leb, leb-true, leb-false}
use Rattle.std.proofs.Math.Path.{subst⁻¹}
use Rattle.std.proofs.lemmas.Bool.{lt-leb}
use Rattle.base.specs.TestLaws.{split}
use Rattle.base.specs.Answers.{success, refusal}
use Rattle.base.specs.ParsingLaws.{is_read, past_read, read_refused}
use Rattle.base.specs.Rows.{number_of}
use Rattle.base.specs.declared.Refusal.{Refusal}
use Rattle.base.specs.RowLaws.{some_row}
use Rattle.base.specs.Parsing.{IsRead, Past, Refused, step_of}
use Rattle.base.specs.declared.Answer.{Answer}
use Rattle.rule.specs.Rule.{read_rule}
use Rattle.circuit.specs.Limits.{most_gates, most_conditions}
use Rattle.circuit.specs.Gates.{Gates, Earlier, costs, conditions}
use Rattle.circuit.specs.PlainCircuit.{gates_of}
use Rattle.circuit.specs.Quads.{quads_of}
use Rattle.circuit.specs.QuadLaws.{quads_length}
use Rattle.circuit.proofs.StartLaws.{plain_sound}
use Rattle.circuit_make.specs.RuleMade.{RuleMade}
use Rattle.circuit_needed.specs.Held.{gates_in}
use Rattle.circuit_needed.specs.Ranks.{Marked, NumberedBelow}
use Rattle.circuit_needed.specs.HeldLaws.{gates_length}
use Rattle.circuit_needed.specs.HeldQuads.{rule_held}
use Rattle.circuit_needed.specs.MarkSteps.{conditions_numbered}
use Rattle.circuit.specs.Whole.{whole_within, rule_answer}
use Rattle.circuit.specs.WholeLaws.{whole_gates, whole_conditions, whole_success, answer_bytes, answer_whole, accepted}
use Rattle.circuit_build.specs.Making.{whole_in, MadeWhole}

-- row 10, by the count alone
pub whole_over : (quads : List ℕ) (count size : ℕ) → most_gates < count → whole_in quads count size ≡ refusal 10 size
unfolding whole_in
whole_over quads count size h = rw (lt-leb _ _ h)

pub whole_in_lem : (quads : List ℕ) (count size : ℕ) → count ≤ most_gates → whole_in quads count size ≡ whole_within most_gates most_conditions (gates_in quads count) size
unfolding whole_in
whole_in_lem quads count size h = rw (le-leb _ _ h)

-- row 11 and success, by the conditions' count and the cost
pub whole_eleven : (quads : List ℕ) (count size conds : ℕ) → count ≤ most_gates → conds ≡ length (conditions (gates_in quads count)) → most_conditions < conds
    → whole_in quads count size ≡ refusal 11 size
whole_eleven quads count size conds h e l =
    whole_in_lem quads count size h
    ∙ whole_conditions most_gates most_conditions (gates_in quads count) size (rw (gates_length quads count) h) (rw e at l)

pub whole_taken : (quads : List ℕ) (count size conds cost : ℕ) → count ≤ most_gates → conds ≡ length (conditions (gates_in quads count)) → conds ≤ most_conditions
    → cost ≡ costs (gates_in quads count) → whole_in quads count size ≡ success count 0 0 cost 0
whole_taken quads count size conds cost h e l q =
    whole_in_lem quads count size h
    ∙ whole_success most_gates most_conditions (gates_in quads count) size (rw (gates_length quads count) h) (rw e at l)
    ∙ rw (gates_length quads count, q)

-- a rule that was read, its gates made
module _ (s quads present : List ℕ) (count : ℕ) (read : IsRead (read_rule s)) (made : RuleMade s quads present count) where
  -- a count within the limit is the rule's
  within : count ≤ most_gates → length (gates_of s) ≤ most_gates
  within h = split (leb (length (gates_of s)) most_gates) (λ t. leb-true _ _ t) (λ t. absurd (omega (arith, made.many (leb-false _ _ t))))

  -- the rule's quads stand at the start
  pub made_held : length (gates_of s) ≤ most_gates → take (4 * length (gates_of s)) quads ≡ quads_of s (gates_of s)
  made_held few =
      ap (take (4 * length (gates_of s))) (made.lie few)
      ∙ take_at (quads_of s (gates_of s)) (replicate (1024 - length (quads_of s (gates_of s))) 0) (4 * length (gates_of s)) (quads_length s (gates_of s))

  pub made_gates : count ≤ most_gates → gates_in quads count ≡ gates_of s
  made_gates h =
      let e = made.counted (within h) in
      let r = is_read (read_rule s) read in
      ap (gates_in quads) e
      ∙ rule_held s r.0 r.1 r.2 quads (made_held (within h))

  pub made_earlier : count ≤ most_gates → Earlier (gates_in quads count)
  made_earlier h = let r = is_read (read_rule s) read in subst⁻¹ Earlier (made_gates h) (plain_sound s r.0 r.1 r.2).earlier

  -- so what the code finds is what the rule is, read whole
  pub made_whole : (size : ℕ) → whole_in quads count size ≡ whole_within most_gates most_conditions (gates_of s) size
  made_whole size =
      split (leb count most_gates)
      (λ t. whole_in_lem quads count size (leb-true _ _ t) ∙ ap (λ (C : Gates). whole_within most_gates most_conditions C size) (made_gates (leb-true _ _ t)))
      (λ t.
      let over : most_gates < count = leb-false _ _ t in
      let many : most_gates < length (gates_of s) = split (leb (length (gates_of s)) most_gates)
      (λ u. let l : length (gates_of s) ≤ most_gates = leb-true _ _ u in absurd (omega (arith, made.counted l))) (λ u. leb-false _ _ u) in
      whole_over quads count size over ∙ sym (whole_gates most_gates most_conditions (gates_of s) size many))

-- what the code has of a rule that it read and made, once it is looked at whole
module _ (s : List ℕ) (read : IsRead (read_rule s)) (quads present : List ℕ) (count : ℕ) (made : RuleMade s quads present count)
    (b : Answer) (w : b ≡ whole_in quads count (length s)) where
  pub whole_answer : b ≡ rule_answer s
  whole_answer = w ∙ made_whole s quads present count read made (length s) ∙ sym (answer_whole s read)

  -- taken, it is within the limit of gates
  pub whole_few : b.number ≡ 0 → count ≤ most_gates
  whole_few h =
      let few = (accepted s (ap (λ (x : Answer). x.number) (sym whole_answer) ∙ h)).gates in
      rw (made.counted few) few

  -- and its answer counts its gates
  pub whole_count : b.number ≡ 0 → count ≡ (rule_answer s).gates
  whole_count h =
      let a = accepted s (ap (λ (x : Answer). x.number) (sym whole_answer) ∙ h) in
      made.counted a.gates ∙ ap (λ (x : Answer). x.gates) (sym a.answer)

  pub whole_ready : b.number ≡ 0 → (marks ranks : List ℕ) → (count ≤ most_gates → Marked (gates_in quads count) marks) → NumberedBelow marks ranks count
      → MadeWhole s quads present ranks count
  whole_ready h marks ranks m n =
      record {
        accepted = accepted s (ap (λ (x : Answer). x.number) (sym whole_answer) ∙ h);
        made = made;
        placed = λ l. conditions_numbered quads marks ranks count (l, made_earlier s quads present count read made l) (m l) n;
      }

-- a refusal that is the rule's answer
module _ (s : List ℕ) (r : Refusal) (e : refusal (number_of r.0) r.1 ≡ rule_answer s) where
  pub refused_row : (rule_answer s).number ≡ 0 → ⊥
  refused_row h = some_row r.0 (ap (λ (a : Answer). a.number) e ∙ h)

  pub refused_count : 0 ≡ (rule_answer s).gates
  refused_count = ap (λ (a : Answer). a.gates) e

-- what reading takes was read, and what it refuses is answered so
pub read_taken : (s : List ℕ) {n : ℕ} → Past n ≡ step_of (read_rule s) → IsRead (read_rule s)
read_taken s h = past_read (read_rule s) h

pub read_answer : (s : List ℕ) (r : Refusal) → Refused (number_of r.0) r.1 ≡ step_of (read_rule s) → refusal (number_of r.0) r.1 ≡ rule_answer s
read_answer s r h = sym (answer_bytes s (read_refused (read_rule s) h))
