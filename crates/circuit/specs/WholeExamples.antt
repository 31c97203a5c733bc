-- Examples of document 01, "Examples": what reading a rule answers, computed from the definitions.
use Rattle.std.specs.Prelude.{◌≡◌, refl, [], ◌∷◌, map}
use Rattle.base.specs.Numbers.{number}
use Rattle.base.specs.Codes.{operation_of, code_of}
use Rattle.base.specs.Answers.{success, refusal}
use Rattle.base.specs.Parsing.{read_mark}
use Rattle.rule.specs.Header.{kind_of, read_count, read_kinds, read_header}
use Rattle.rule.specs.Expressions.{read_variable, read_word, read_bit, operation_with, expr_with, read_expr}
use Rattle.rule.specs.Blocks.{read_assign, branch_with, statement_with, block_with, block_fuel, read_block}
use Rattle.rule.specs.Rule.{read_rule}
use Rattle.rule.specs.Examples.{r1}
use Rattle.circuit.specs.Gates.{costs, conditions}
use Rattle.circuit.specs.PlainCircuit.{apply_gate, make_expr, assigns_in, assigns, choices, make_statement, make_block, plain_circuit}
use Rattle.circuit.specs.Examples.{r2, r8, r10}
use Rattle.circuit.specs.Whole.{whole_within, rule_answer}

-- R1 has 6 gates and costs 33; R2 11 gates, two products, two comparisons and three choices; example 8's rule 11 gates
pub examples_accepted : map rule_answer (r1 ∷ r2 ∷ r8 ∷ []) ≡ success 6 0 0 33 0 ∷ success 11 0 0 119 0 ∷ success 11 0 0 116 0 ∷ []
unfolding number kind_of operation_of code_of read_mark read_count read_kinds read_header read_variable read_word read_bit operation_with expr_with read_expr read_assign branch_with
    statement_with block_with block_fuel read_block read_rule apply_gate make_expr assigns_in assigns choices make_statement make_block plain_circuit costs conditions whole_within
    rule_answer
examples_accepted = refl

-- example 10, with document 02's C-17: eight conditions accepted, nine 11 at the file's length
pub example_10 : map (λ n. rule_answer (r10 n)) (8 ∷ 9 ∷ []) ≡ success 17 0 0 24 0 ∷ refusal 11 98 ∷ []
unfolding number kind_of operation_of code_of read_mark read_count read_kinds read_header read_variable read_word read_bit operation_with expr_with read_expr read_assign branch_with
    statement_with block_with block_fuel read_block read_rule apply_gate make_expr assigns_in assigns choices make_statement make_block plain_circuit costs conditions whole_within
    rule_answer
example_10 = refl
