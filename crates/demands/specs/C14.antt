-- Document 02, C-14, "A quicker precondition pass": its sentences, each quoted above its theorems. s is a rule's bytes.
use Rattle.std.specs.Prelude.{ℕ, suc, ◌≤◌, ◌≡◌, List, get_or}
use Rattle.base.specs.Parsing.{IsRead}
use Rattle.rule.specs.Rule.{read_rule}
use Rattle.circuit_needed.specs.Pass.{rule_preconditions}
use Rattle.circuit_needed.specs.Reaching.{RuleReaching}
use Rattle.circuit_needed.specs.RulePreconditions as preconditions

-- "A single backward pass over one list of sets that is changed in place": the list when the pass reaches gate k - 1 is M (`RuleReaching s k M`),
-- and the pass ends with the preconditions.
pub one_pass : (s : List ℕ) → RuleReaching s 0 (rule_preconditions s)
one_pass = preconditions.rule_reached

-- "each gate's set is final when the pass reaches it", and so is that of every gate after it.
pub set_final : (s : List ℕ) → IsRead (read_rule s) → (k : ℕ) (M : List ℕ) → RuleReaching s k M → (g : ℕ) → k ≤ suc g
    → get_or M g 0 ≡ get_or (rule_preconditions s) g 0
set_final = preconditions.read_final
