-- What reading a rule answers: 1 to 9 exactly as reading byte by byte refuses; of a rule that was read 10 or 11 over a limit, else number 0 with its gates and cost.
use Rattle.std.specs.Prelude.{ℕ, ◌<◌, ◌≤◌, ◌≡◌, refl, List, length, leb}
use Rattle.std.proofs.Common.{arith, sym, ap, ◌∙◌}
use borrow.Author.Tests.{le-leb, lt-leb, leb-true}
use Rattle.base.specs.TestLaws.{split}
use Rattle.base.specs.Answers.{success, refusal, answer_of}
use Rattle.base.specs.Parsing.{Parsed, parsed, refused, step_of, IsRead}
use Rattle.base.specs.declared.Answer.{Answer}
use Rattle.rule.specs.Limits.{most_rule_bytes}
use Rattle.rule.specs.Tree.{Block}
use Rattle.rule.specs.Rule.{read_rule}
use Rattle.rule.specs.RuleLaws.{rule_large}
use Rattle.rule.specs.RowLaws.{ByteRows, rule_rows_lem}
use Rattle.circuit.specs.Limits.{most_gates, most_conditions}
use Rattle.circuit.specs.Gates.{Gates, costs, conditions}
use Rattle.circuit.specs.PlainCircuit.{gates_of}
use Rattle.circuit.specs.Whole.{whole_within, after_bytes, rule_answer}

-- rows 10 and 11, and success
module _ (gates conds : ℕ) (C : Gates) (size : ℕ) where
  pub whole_gates : gates < length C → whole_within gates conds C size ≡ refusal 10 size
  unfolding whole_within
  whole_gates h = rw (lt-leb _ _ h)

  module _ (few : length C ≤ gates) where
    pub whole_conditions : conds < length (conditions C) → whole_within gates conds C size ≡ refusal 11 size
    unfolding whole_within
    whole_conditions h = rw (le-leb _ _ few, lt-leb _ _ h)

    pub whole_success : length (conditions C) ≤ conds → whole_within gates conds C size ≡ success (length C) 0 0 (costs C) 0
    unfolding whole_within
    whole_success h = rw (le-leb _ _ few, le-leb _ _ h)

  -- number 0 means within both limits
  pub whole_within_lem : (whole_within gates conds C size).number ≡ 0 → (length C ≤ gates) × (length (conditions C) ≤ conds)
  unfolding whole_within
  whole_within_lem h =
      split (leb (length C) gates)
      (λ t. split (leb (length (conditions C)) conds)
      (λ u. (leb-true _ _ t, leb-true _ _ u))
      (λ u. let z : 11 ≡ 0 = rw (t, u) at h in absurd (omega arith)))
      (λ t. let z : 10 ≡ 0 = rw t at h in absurd (omega arith))

  -- nor is any of the rows that come before them its number
  pub whole_other : (number : ℕ) → 1 ≤ number → number ≤ 9 → (whole_within gates conds C size).number ≡ number → ⊥
  unfolding whole_within
  whole_other number lo hi h =
      split (leb (length C) gates)
      (λ t. split (leb (length (conditions C)) conds)
      (λ u. let z : 0 ≡ number = rw (t, u) at h in omega (arith, z))
      (λ u. let z : 11 ≡ number = rw (t, u) at h in omega (arith, z)))
      (λ t. let z : 10 ≡ number = rw t at h in omega (arith, z))

-- what the rows byte by byte leave
bytes_refused : (m : Parsed Block) (whole : Answer) → ((answer_of (step_of m)).number ≡ 0 → ⊥) → answer_of (step_of m) ≡ after_bytes (step_of m) whole
bytes_refused (parsed b n) whole h = absurd (h refl)
bytes_refused (refused k p) whole h = refl

bytes_read : (s : List ℕ) (m : Parsed Block) → ByteRows s m → (answer_of (step_of m)).number ≡ 0 → IsRead m
bytes_read s (parsed b n) r h = tt
bytes_read s (refused k p) r h = absurd (omega (arith, r.least))

bytes_whole : (m : Parsed Block) (whole : Answer) → IsRead m → after_bytes (step_of m) whole ≡ whole
bytes_whole (parsed b n) whole h = refl
bytes_whole (refused k p) whole h = absurd h

bytes_zero : (s : List ℕ) (m : Parsed Block) (whole : Answer) → ByteRows s m → (after_bytes (step_of m) whole).number ≡ 0 → IsRead m
bytes_zero s (parsed b n) whole r h = tt
bytes_zero s (refused k p) whole r h = absurd (omega (arith, r.least))

module _ (s : List ℕ) (a : Answer) (e : a ≡ answer_of (step_of (read_rule s))) where
  -- a refusal byte by byte is the rule's answer
  pub answer_refused : (a.number ≡ 0 → ⊥) → a ≡ rule_answer s
  unfolding rule_answer
  answer_refused h = e ∙ bytes_refused (read_rule s) _ (λ z. h (ap (λ (b : Answer). b.number) e ∙ z))

  pub answer_read : a.number ≡ 0 → IsRead (read_rule s)
  answer_read h = bytes_read s (read_rule s) (rule_rows_lem s) (ap (λ (b : Answer). b.number) (sym e) ∙ h)

-- so what reading refuses is answered so,
pub answer_bytes : (s : List ℕ) {number place : ℕ} → read_rule s ≡ refused number place → rule_answer s ≡ refusal number place
unfolding rule_answer
answer_bytes s e = rw e

-- and an answer 1 to 9 is what reading refuses
pub answer_from : (s : List ℕ) (number place : ℕ) → 1 ≤ number → number ≤ 9 → rule_answer s ≡ refusal number place → read_rule s ≡ refused number place
unfolding rule_answer
answer_from s number place lo hi = go (read_rule s)
  where
    go : (m : Parsed Block) → after_bytes (step_of m) (whole_within most_gates most_conditions (gates_of s) (length s)) ≡ refusal number place → m ≡ refused number place
    go (parsed b n) e = absurd (whole_other most_gates most_conditions (gates_of s) (length s) number lo hi (ap (λ (a : Answer). a.number) e))
    go (refused k p) e = let x : k ≡ number = ap (λ (a : Answer). a.number) e in let y : p ≡ place = ap (λ (a : Answer). a.place) e in rw (x, y)

-- a rule that was read is answered by what it is, read whole
pub answer_whole : (s : List ℕ) → IsRead (read_rule s) → rule_answer s ≡ whole_within most_gates most_conditions (gates_of s) (length s)
unfolding rule_answer
answer_whole s h = bytes_whole (read_rule s) _ h

-- a rule over its limit of bytes is refused for that
pub rule_over : (s : List ℕ) → most_rule_bytes < length s → rule_answer s ≡ refusal 1 0
rule_over s h = answer_bytes s (rule_large s h)

-- "A rule is accepted when reading it returns number 0": then it was read, and is within both limits
pub record Accepted (s : List ℕ) : Type 0 where
  pub read : IsRead (read_rule s)
  pub gates : length (gates_of s) ≤ most_gates
  pub conds : length (conditions (gates_of s)) ≤ most_conditions
  pub answer : rule_answer s ≡ success (length (gates_of s)) 0 0 (costs (gates_of s)) 0

pub accepted : (s : List ℕ) → (rule_answer s).number ≡ 0 → Accepted s
unfolding rule_answer
accepted s h =
    let r = bytes_zero s (read_rule s) _ (rule_rows_lem s) h in
    let w = whole_within_lem most_gates most_conditions (gates_of s) (length s) (ap (λ (b : Answer). b.number) (sym (answer_whole s r)) ∙ h) in
    record {
      read = r;
      gates = w.0;
      conds = w.1;
      answer = answer_whole s r ∙ whole_success most_gates most_conditions (gates_of s) (length s) w.0 w.1;
    }
