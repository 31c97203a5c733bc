-- Needed gates of a rule: for every rule that is read with at most as many conditions as it may have, setting j is in a gate's precondition exactly when the gate is needed under it,
-- and two gates exclude each other exactly when their preconditions have no bit in common.
use Rattle.std.specs.Prelude.{ℕ, suc, ◌^◌, ◌≤◌, ◌<◌, ◌≡◌, List, true, ◌↔◌, length, get_or}
use Rattle.base.specs.Lists.{◌∈◌}
use Rattle.base.specs.Parsing.{parsed, IsRead}
use Rattle.base.specs.ParsingLaws.{is_read}
use Rattle.rule.specs.Tree.{Block}
use Rattle.rule.specs.Rule.{read_rule}
use Rattle.circuit.specs.Limits.{most_conditions}
use Rattle.circuit.specs.Gates.{Earlier, conditions}
use Rattle.circuit.specs.PlainCircuit.{gates_of, outputs_of}
use Rattle.circuit.proofs.StartLaws.{plain_sound}
use Rattle.base.specs.Settings.{setting_of}
use Rattle.base.specs.Sets.{has, excludes}
use Rattle.base.specs.SettingNumbers.{numbers}
use Rattle.circuit_needed.specs.Needed.{Needed, wanted_of, Exclude}
use Rattle.circuit_needed.specs.WantedLaws.{wanted_output}
use Rattle.circuit_needed.specs.Pass.{preconditions, precondition_sets, rule_preconditions}
use Rattle.circuit_needed.specs.Reaching.{begun, RuleReaching}
use Rattle.circuit_needed.specs.ReachingLaws.{reaches_end, reached_final}
use Rattle.circuit_needed.specs.PreconditionLaws.{precondition_right, exclude_right}

-- the pass over a rule's gates ends with the preconditions
pub rule_reached : (s : List ℕ) → RuleReaching s 0 (rule_preconditions s)
unfolding precondition_sets preconditions
rule_reached s = reaches_end _ _ _ _ (length (gates_of s)) begun

module _ (s : List ℕ) (b : Block) (n : ℕ) (read : read_rule s ≡ parsed b n) where
  pub rule_earlier : Earlier (gates_of s)
  rule_earlier = (plain_sound s b n read).earlier

  -- what is wanted from the start is a gate
  pub wanted_inside : (g : ℕ) → g ∈ wanted_of s → g < length (gates_of s)
  unfolding wanted_of
  wanted_inside g m = (plain_sound s b n read).inside g (wanted_output s (outputs_of s) (plain_sound s b n read).count g m)

  -- and each gate's set is final when the pass reaches it
  pub rule_final : (k : ℕ) (M : List ℕ) → RuleReaching s k M → (g : ℕ) → k ≤ suc g → get_or M g 0 ≡ get_or (rule_preconditions s) g 0
  unfolding precondition_sets preconditions numbers
  rule_final k M = reached_final _ _ _ _ rule_earlier

  module _ (few : length (conditions (gates_of s)) ≤ most_conditions) where
    pub rule_precondition : (g j : ℕ) → j < 2 ^ most_conditions
        → (has (get_or (rule_preconditions s) g 0) j ≡ true) ↔ Needed (gates_of s) (wanted_of s) (setting_of (conditions (gates_of s)) j) g
    unfolding wanted_of
    rule_precondition = precondition_right (gates_of s) (wanted_of s) rule_earlier wanted_inside most_conditions few

    pub rule_exclude : (g h : ℕ)
        → (excludes (get_or (rule_preconditions s) g 0) (get_or (rule_preconditions s) h 0) ≡ true) ↔ Exclude (gates_of s) (wanted_of s) g h
    unfolding wanted_of
    rule_exclude = exclude_right (gates_of s) (wanted_of s) rule_earlier wanted_inside most_conditions few

-- the same of any rule that is read
pub read_final : (s : List ℕ) → IsRead (read_rule s) → (k : ℕ) (M : List ℕ) → RuleReaching s k M → (g : ℕ) → k ≤ suc g → get_or M g 0 ≡ get_or (rule_preconditions s) g 0
read_final s h = let r = is_read (read_rule s) h in rule_final s r.0 r.1 r.2
