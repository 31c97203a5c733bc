-- The plain circuit of a rule that is read has, at every operation, as many arguments as the table says.
use Rattle.std.specs.Prelude.{ℕ, ◌≡◌, List}
use Rattle.base.specs.Parsing.{parsed}
use Rattle.rule.specs.Tree.{Block}
use Rattle.rule.specs.Rule.{read_rule}
use Rattle.circuit.specs.PlainCircuit.{gates_of}
use Rattle.circuit.proofs.EachGateLaws.{any_one, any_two, rule_gates}
use Rattle.circuit_needed.specs.Held.{ShapedGate, Shaped}

pub rule_shaped : (s : List ℕ) (b : Block) (n : ℕ) → read_rule s ≡ parsed b n → Shaped (gates_of s)
rule_shaped s b n read =
    rule_gates ShapedGate s b n read
    (record {
      of_start = λ x h. tt;
      of_word = λ n. tt;
      of_bit = λ b. tt;
      of_one = any_one ShapedGate (λ op l h. h);
      of_two = any_two ShapedGate (λ op l h. h);
      of_choice = λ c a b. tt;
    })
