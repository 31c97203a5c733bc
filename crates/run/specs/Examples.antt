-- Examples of document 01, "Examples": those of direct runs, computed from the definitions.
use Rattle.std.specs.Prelude.{ℕ, ◌≡◌, refl, List, [], ◌∷◌, map}
use Rattle.base.specs.Numbers.{number}
use Rattle.base.specs.Buffers.{over}
use Rattle.base.specs.Codes.{operation_of, code_of}
use Rattle.base.specs.Results.{result_of}
use Rattle.base.specs.Inputs.{some_above, inputs_row}
use Rattle.base.specs.Parsing.{read_mark}
use Rattle.base.specs.Answers.{success, refusal}
use Rattle.rule.specs.Header.{kind_of, working_of, read_count, read_kinds, read_header}
use Rattle.rule.specs.Expressions.{read_variable, read_word, read_bit, operation_with, expr_with, read_expr}
use Rattle.rule.specs.Blocks.{read_assign, branch_with, statement_with, block_with, block_fuel, read_block}
use Rattle.rule.specs.Rule.{read_rule}
use Rattle.rule.specs.Examples.{r1}
use Rattle.circuit.specs.Running.{figure_of, run_statement, run_block, run_rule, run_writes, written_for}
use Rattle.circuit.specs.Gates.{costs, conditions}
use Rattle.circuit.specs.PlainCircuit.{apply_gate, make_expr, assigns_in, assigns, choices, make_statement, make_block, plain_circuit}
use Rattle.circuit.specs.Whole.{whole_within, rule_answer}
use Rattle.run.specs.Inputs.{input_row}
use Rattle.run.specs.Direct.{run_answer, run_results}

-- example 2: R1, inputs 1, 6, 7: results 1, 42, 7. Inputs 0, 6, 7: 0, 49, 7.
example_2_results : map (run_rule r1) ((1 ∷ 6 ∷ 7 ∷ []) ∷ (0 ∷ 6 ∷ 7 ∷ []) ∷ []) ≡ (1 ∷ 42 ∷ 7 ∷ []) ∷ (0 ∷ 49 ∷ 7 ∷ []) ∷ []
unfolding number kind_of operation_of code_of result_of read_mark read_count read_kinds read_header read_variable read_word read_bit operation_with expr_with read_expr read_assign
    branch_with statement_with block_with block_fuel read_block read_rule figure_of run_statement run_block run_rule
example_2_results = refl

-- and the rows of its inputs: those two have none; inputs 2, 6, 7: 41. Two inputs: 40; two places for three results: 42.
example_2_rows : input_row r1 (1 ∷ 6 ∷ 7 ∷ []) 3 ∷ input_row r1 (0 ∷ 6 ∷ 7 ∷ []) 3 ∷ input_row r1 (2 ∷ 6 ∷ 7 ∷ []) 3 ∷ input_row r1 (2 ∷ 6 ∷ []) 2 ∷ input_row r1
    (1 ∷ 6 ∷ 7 ∷ []) 2 ∷ []
    ≡ 0 ∷ 0 ∷ 41 ∷ 40 ∷ 42 ∷ []
unfolding kind_of some_above inputs_row input_row
example_2_rows = refl

-- the places of the results, one more than are needed
example_2_run : run_results (rule_answer r1) r1 (1 ∷ 6 ∷ 7 ∷ []) (9 ∷ 9 ∷ 9 ∷ 9 ∷ []) ∷ run_results (rule_answer r1) r1 (2 ∷ 6 ∷ 7 ∷ []) (9 ∷ 9 ∷ 9 ∷ 9 ∷ []) ∷ []
    ≡ (1 ∷ 42 ∷ 7 ∷ 9 ∷ []) ∷ (9 ∷ 9 ∷ 9 ∷ 9 ∷ []) ∷ []
unfolding over number kind_of working_of operation_of code_of result_of read_mark read_count read_kinds read_header read_variable read_word read_bit operation_with expr_with
    read_expr read_assign written_for
    branch_with statement_with block_with block_fuel read_block read_rule figure_of run_statement run_block some_above inputs_row input_row run_rule run_writes run_answer
    run_results apply_gate make_expr
    assigns_in assigns choices make_statement make_block plain_circuit costs conditions whole_within rule_answer
example_2_run = refl

example_2_answer : run_answer (rule_answer r1) r1 (1 ∷ 6 ∷ 7 ∷ []) 4 ∷ run_answer (rule_answer r1) r1 (2 ∷ 6 ∷ 7 ∷ []) 4 ∷ [] ≡ success 6 0 0 33 0 ∷ refusal 41 0 ∷ []
unfolding number kind_of operation_of code_of read_mark read_count read_kinds read_header read_variable read_word read_bit operation_with expr_with read_expr read_assign branch_with
    statement_with block_with block_fuel read_block read_rule apply_gate make_expr assigns_in assigns choices make_statement make_block plain_circuit costs conditions whole_within
    rule_answer some_above inputs_row input_row run_answer
example_2_answer = refl

-- three words: v2 := v0, the operation's code, v1
abbrev apply_rule : ℕ → List ℕ
apply_rule code =
    0x52 ∷ 0x55 ∷ 0x4C ∷ 0x00 ∷ 0x01 ∷ 0x03 ∷ 0x00 ∷ 0x00 ∷ 0x00 ∷ 0x01 ∷ 0x02 ∷ code ∷ 0x10 ∷ 0x00 ∷ 0x10 ∷ 0x01 ∷ 0x00 ∷ []

-- example 9: 4294967295 + 1 = 0; 0 − 1 = 4294967295; 65536 × 65536 = 0
example_9 : run_rule (apply_rule 0x20) (4294967295 ∷ 1 ∷ 7 ∷ []) ∷ run_rule (apply_rule 0x21) (0 ∷ 1 ∷ 7 ∷ []) ∷ run_rule (apply_rule 0x22) (65536 ∷ 65536 ∷ 7 ∷ []) ∷ []
    ≡ (4294967295 ∷ 1 ∷ 0 ∷ []) ∷ (0 ∷ 1 ∷ 4294967295 ∷ []) ∷ (65536 ∷ 65536 ∷ 0 ∷ []) ∷ []
unfolding number kind_of operation_of code_of result_of read_mark read_count read_kinds read_header read_variable read_word read_bit operation_with expr_with read_expr read_assign
    branch_with statement_with block_with block_fuel read_block read_rule figure_of run_statement run_block run_rule
example_9 = refl
