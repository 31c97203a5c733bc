-- Examples of document 01, "Examples": 3, R1 with P1, whole, computed from the definitions; document 02, C-13: the file of a rule with working variables.
use Rattle.std.specs.Prelude.{ℕ, ◌≡◌, refl, List, [], ◌∷◌}
use Rattle.base.specs.Numbers.{number, bytes_of}
use Rattle.base.specs.Codes.{operation_of, code_of}
use Rattle.base.specs.Answers.{success, refusal}
use Rattle.base.specs.Parsing.{read_mark}
use Rattle.rule.specs.Header.{kind_of, working_of, read_count, read_kinds, read_header}
use Rattle.rule.specs.Expressions.{read_variable, read_word, read_bit, operation_with, expr_with, read_expr}
use Rattle.rule.specs.Blocks.{read_assign, branch_with, statement_with, block_with, block_fuel, read_block}
use Rattle.rule.specs.Rule.{read_rule}
use Rattle.rule.specs.Examples.{r1}
use Rattle.circuit.specs.Gates.{conditions, costs}
use Rattle.circuit.specs.PlainCircuit.{apply_gate, make_expr, assigns_in, assigns, choices, make_statement, make_block, plain_circuit}
use Rattle.base.specs.Bits.{collect}
use Rattle.base.specs.Sets.{rests_on, rests}
use Rattle.base.specs.SettingNumbers.{numbers}
use Rattle.circuit_needed.specs.Pass.{preconditions, precondition_sets}
use Rattle.circuit.specs.Whole.{whole_within, rule_answer}
use Rattle.plan.specs.PlanFile.{groups_in}
use Rattle.plan.specs.Groups.{groups, rests_of, waits_for}
use Rattle.plan.specs.Order.{order}
use Rattle.plan.specs.Rows.{plan_row, plan_answer, is_costly, placed}
use Rattle.base.specs.Guards.{spread, table_over, table}
use Rattle.plan.specs.Examples.{p1}
use Rattle.fused.specs.Emission.{one_wire, joined}
use Rattle.fused.specs.FusedCircuit.{written, fused, fused_file}
use Rattle.file.specs.Records.{records_cost}
use Rattle.file.specs.Examples.{file3}
use Rattle.fused.specs.Answers.{fused_counts, write_answer}
use Rattle.circuit_needed.specs.Needed.{wanted_of}

-- example 3, whole, in version 00 02 (document 02, C-17), with no pick between equal wires (C-18)
pub example_3 : fused_file r1 p1 ≡ file3
unfolding number kind_of working_of operation_of code_of read_mark read_count read_kinds read_header read_variable read_word read_bit operation_with expr_with read_expr
    read_assign branch_with wanted_of is_costly
    placed statement_with block_with block_fuel read_block read_rule apply_gate make_expr assigns_in assigns choices make_statement make_block plain_circuit conditions collect numbers
    preconditions precondition_sets rests_on rests groups_in groups rests_of waits_for order bytes_of spread table_over table one_wire joined written fused fused_file
example_3 = refl

-- its counts: 6 gates, 8 wires, 114 bytes, cost 33 before and 24 after; a buffer of 113: 50
pub example_3_answer : write_answer r1 p1 114 ≡ success 6 8 114 33 24
unfolding number kind_of working_of operation_of code_of read_mark read_count read_kinds read_header read_variable read_word read_bit operation_with expr_with read_expr
    read_assign branch_with wanted_of is_costly
    placed statement_with block_with block_fuel read_block read_rule apply_gate make_expr assigns_in assigns choices make_statement make_block plain_circuit conditions collect numbers
    preconditions precondition_sets costs whole_within rule_answer rests_on rests groups_in groups rests_of waits_for order plan_row plan_answer bytes_of spread table_over table
    one_wire joined written fused fused_file records_cost fused_counts write_answer
example_3_answer = refl

pub example_3_short : write_answer r1 p1 113 ≡ refusal 50 0
unfolding number kind_of working_of operation_of code_of read_mark read_count read_kinds read_header read_variable read_word read_bit operation_with expr_with read_expr
    read_assign branch_with wanted_of is_costly
    placed statement_with block_with block_fuel read_block read_rule apply_gate make_expr assigns_in assigns choices make_statement make_block plain_circuit conditions collect numbers
    preconditions precondition_sets costs whole_within rule_answer rests_on rests groups_in groups rests_of waits_for order plan_row plan_answer bytes_of spread table_over table
    one_wire joined written fused fused_file records_cost fused_counts write_answer
example_3_short = refl

-- Document 02, C-13: a word, a working word and a working bit: v1 := v0 + v0, then v0 := v1 × v1
abbrev working_rule : List ℕ
working_rule =
    0x52 ∷ 0x55 ∷ 0x4C ∷ 0x00 ∷ 0x01 ∷ 0x03 ∷ 0x00 ∷ 0x02 ∷ 0x03 ∷ 0x01 ∷ 0x01 ∷ 0x20 ∷ 0x10 ∷ 0x00 ∷ 0x10 ∷ 0x00 ∷
    0x01 ∷ 0x00 ∷ 0x22 ∷ 0x10 ∷ 0x01 ∷ 0x10 ∷ 0x01 ∷ 0x00 ∷ []

-- a plan of its five gates and no group
abbrev working_plan : List ℕ
working_plan = 0x50 ∷ 0x4C ∷ 0x4E ∷ 0x00 ∷ 0x01 ∷ 0x00 ∷ 0x05 ∷ 0x00 ∷ 0x00 ∷ []

-- its file, a record a line: the inputs have the codes of words and bits, the outputs of the working variables are FF FF
pub example_working : fused_file working_rule working_plan ≡
    0x43 ∷ 0x49 ∷ 0x52 ∷ 0x00 ∷ 0x02 ∷ 0x03 ∷ 0x00 ∷ 0x05
    ∷ 0x00 ∷ 0x00
    ∷ 0x00 ∷ 0x01
    ∷ 0x01 ∷ 0x02
    ∷ 0x20 ∷ 0x00 ∷ 0x00 ∷ 0x00 ∷ 0x00
    ∷ 0x22 ∷ 0x00 ∷ 0x03 ∷ 0x00 ∷ 0x03
    ∷ 0x00 ∷ 0x04 ∷ 0xFF ∷ 0xFF ∷ 0xFF ∷ 0xFF
    ∷ []
unfolding number kind_of working_of operation_of code_of read_mark read_count read_kinds read_header read_variable read_word read_bit operation_with expr_with read_expr read_assign branch_with
    statement_with block_with block_fuel read_block read_rule apply_gate make_expr assigns_in assigns choices make_statement make_block plain_circuit conditions collect numbers
    preconditions precondition_sets rests_on rests groups_in groups rests_of waits_for order bytes_of spread table_over table one_wire joined written fused fused_file
example_working = refl
