-- What the code's promises say of a rule: quads that hold its plain circuit keep what the code asks, and give the preconditions of its gates.
use Rattle.std.specs.Prelude.{ℕ, ◌*◌, ◌≤◌, ◌≡◌, List, length, take}
use Rattle.std.proofs.Math.Path.{ap}
use Rattle.std.proofs.Common.{◌∙◌}
use Rattle.base.specs.Lists.{Inside}
use Rattle.base.specs.Parsing.{parsed}
use Rattle.rule.specs.Tree.{Block}
use Rattle.rule.specs.Rule.{read_rule}
use Rattle.circuit.specs.Limits.{most_gates, most_conditions}
use Rattle.circuit.specs.Gates.{Gates, Earlier, conditions}
use Rattle.circuit.specs.Quads.{quads_of}
use Rattle.circuit.specs.PlainCircuit.{gates_of, gate_count}
use Rattle.circuit_needed.specs.Needed.{wanted_of}
use Rattle.circuit_needed.specs.Pass.{precondition_sets, rule_preconditions}
use Rattle.circuit_needed.specs.RulePreconditions.{rule_earlier, wanted_inside}
use Rattle.circuit_needed.specs.Held.{gates_in}
use Rattle.circuit_needed.specs.HeldQuads.{rule_held}
use Rattle.circuit_needed.specs.Ranks.{ranks_of}
use Rattle.circuit_needed.specs.Passing.{Passable}

module _ (s : List ℕ) (b : Block) (n : ℕ) (read : read_rule s ≡ parsed b n)
    (quads : List ℕ) (held : take (4 * gate_count s) quads ≡ quads_of s (gates_of s)) where
  same : gates_in quads (gate_count s) ≡ gates_of s
  same = rule_held s b n read quads held

  -- what survey and find_needed ask
  pub quads_earlier : Earlier (gates_in quads (gate_count s))
  quads_earlier = rw same (rule_earlier s b n read)

  pub quads_passable : (ranks : List ℕ) → gate_count s ≤ most_gates → length (conditions (gates_of s)) ≤ most_conditions
      → ranks ≡ ranks_of (gates_in quads (gate_count s)) most_gates → Passable quads ranks (gate_count s)
  quads_passable ranks h f p = record { room = h; earlier = quads_earlier; few = rw same f; placed = p }

  pub quads_wanted : (l : List ℕ) → l ≡ wanted_of s → Inside (gate_count s) l
  quads_wanted l e = rw e (wanted_inside s b n read)

  -- what find_needed gives
  pub quads_preconditions : (l : List ℕ) → l ≡ wanted_of s → precondition_sets most_conditions (gates_in quads (gate_count s)) l ≡ rule_preconditions s
  unfolding wanted_of
  quads_preconditions l e = ap (λ (C : Gates). precondition_sets most_conditions C l) same ∙ ap (precondition_sets most_conditions (gates_of s)) e
