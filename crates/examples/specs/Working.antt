-- Examples of document 02, C-13, "Working figures are not results", proved from the definitions.
use Rattle.std.specs.Prelude.{ℕ, ◌≡◌, refl, List, [], ◌∷◌, map, true, false, get_or}
use Rattle.base.specs.Numbers.{number, bytes_of}
use Rattle.base.specs.Buffers.{over}
use Rattle.base.specs.Bits.{collect}
use Rattle.base.specs.Sets.{rests_on, rests}
use Rattle.base.specs.SettingNumbers.{numbers}
use Rattle.base.specs.Guards.{spread, table_over, table}
use Rattle.base.specs.Codes.{operation_of, code_of}
use Rattle.base.specs.declared.Kind.TheVariants.{Word, Bit}
use Rattle.base.specs.Results.{result_of}
use Rattle.base.specs.Inputs.{some_above, inputs_row}
use Rattle.base.specs.Answers.{success, refusal}
use Rattle.base.specs.Parsing.{read_mark}
use Rattle.rule.specs.Header.{kind_of, working_of, read_count, read_kinds, read_header}
use Rattle.rule.specs.Expressions.{read_variable, read_word, read_bit, operation_with, expr_with, read_expr}
use Rattle.rule.specs.Blocks.{read_assign, branch_with, statement_with, block_with, block_fuel, read_block}
use Rattle.rule.specs.Rule.{read_rule}
use Rattle.circuit.specs.Running.{figure_of, run_statement, run_block, run_rule, run_writes, written_for}
use Rattle.circuit.specs.Gates.{conditions, costs}
use Rattle.circuit.specs.PlainCircuit.{apply_gate, make_expr, assigns_in, assigns, choices, make_statement, make_block, plain_circuit}
use Rattle.circuit_needed.specs.Pass.{preconditions, precondition_sets, rule_preconditions}
use Rattle.circuit.specs.Whole.{whole_within, rule_answer}
use Rattle.plan.specs.PlanFile.{groups_in}
use Rattle.plan.specs.Groups.{groups, rests_of, waits_for}
use Rattle.plan.specs.Order.{order}
use Rattle.plan.specs.Rows.{plan_row, plan_answer, is_costly, placed}
use Rattle.file.specs.Records.{records_cost}
use Rattle.fused.specs.Emission.{one_wire, joined}
use Rattle.fused.specs.FusedCircuit.{written, fused, fused_file}
use Rattle.fused.specs.Answers.{fused_counts, write_answer}
use Rattle.run.specs.Inputs.{input_row}
use Rattle.run.specs.Direct.{run_answer, run_results}
use Rattle.circuit_needed.specs.Needed.{wanted_of}

-- what the four kind bytes say: 00 word, 01 bit, 02 working word, 03 working bit
pub kinds_are : (map kind_of (0x00 ∷ 0x01 ∷ 0x02 ∷ 0x03 ∷ []) ≡ Word ∷ Bit ∷ Word ∷ Bit ∷ [])
    × (map working_of (0x00 ∷ 0x01 ∷ 0x02 ∷ 0x03 ∷ []) ≡ false ∷ false ∷ true ∷ true ∷ [])
unfolding kind_of working_of
kinds_are = (refl, refl)

-- a bit and six words, v4 and v5 of kind k: v4 := v1 × v2; v5 := v1 × v3; if v0 then v6 := v4 else v6 := v5.
-- Its products are gates 7 and 8, its choice gate 9.
abbrev pub scraps : ℕ → List ℕ
scraps k =
    0x52 ∷ 0x55 ∷ 0x4C ∷ 0x00 ∷ 0x01 ∷ 0x07 ∷ 0x01 ∷ 0x00 ∷ 0x00 ∷ 0x00 ∷ k ∷ k ∷ 0x00
    ∷ 0x01 ∷ 0x04 ∷ 0x22 ∷ 0x10 ∷ 0x01 ∷ 0x10 ∷ 0x02
    ∷ 0x01 ∷ 0x05 ∷ 0x22 ∷ 0x10 ∷ 0x01 ∷ 0x10 ∷ 0x03
    ∷ 0x03 ∷ 0x10 ∷ 0x00 ∷ 0x01 ∷ 0x06 ∷ 0x10 ∷ 0x04 ∷ 0x00 ∷ 0x01 ∷ 0x06 ∷ 0x10 ∷ 0x05 ∷ 0x00
    ∷ 0x00 ∷ []

-- the plan that joins the products
abbrev pub products : List ℕ
products = 0x50 ∷ 0x4C ∷ 0x4E ∷ 0x00 ∷ 0x01 ∷ 0x00 ∷ 0x0A ∷ 0x00 ∷ 0x01 ∷ 0x02 ∷ 0x00 ∷ 0x07 ∷ 0x00 ∷ 0x08 ∷ []

-- as results both products are needed always; as working words each on its side
pub needed_then : map (λ k. map (λ g. get_or (rule_preconditions (scraps k)) g 0) (7 ∷ 8 ∷ [])) (0x00 ∷ 0x02 ∷ [])
    ≡ (0xFFFFFFFFFFFFFFFFFFFFFFFFFFFFFFFFFFFFFFFFFFFFFFFFFFFFFFFFFFFFFFFF ∷ 0xFFFFFFFFFFFFFFFFFFFFFFFFFFFFFFFFFFFFFFFFFFFFFFFFFFFFFFFFFFFFFFFF ∷ [])
    ∷ (0xAAAAAAAAAAAAAAAAAAAAAAAAAAAAAAAAAAAAAAAAAAAAAAAAAAAAAAAAAAAAAAAA ∷ 0x5555555555555555555555555555555555555555555555555555555555555555 ∷ []) ∷ []
unfolding number kind_of working_of operation_of code_of read_mark read_count read_kinds read_header read_variable read_word read_bit operation_with expr_with read_expr read_assign branch_with
    statement_with block_with block_fuel read_block read_rule apply_gate make_expr assigns_in assigns choices make_statement make_block plain_circuit conditions collect numbers
    preconditions precondition_sets wanted_of
needed_then = refl

-- so the plan is refused 29, and accepted: it saves 9 of 33
pub plan_then : map (λ k. write_answer (scraps k) products 152) (0x00 ∷ 0x02 ∷ []) ≡ refusal 29 0 ∷ success 10 12 130 33 24 ∷ []
unfolding number kind_of working_of operation_of code_of read_mark read_count read_kinds read_header read_variable read_word read_bit operation_with expr_with read_expr read_assign branch_with
    statement_with block_with block_fuel read_block read_rule apply_gate make_expr assigns_in assigns choices make_statement make_block plain_circuit conditions collect numbers
    preconditions precondition_sets costs whole_within rule_answer rests_on rests groups_in groups rests_of waits_for order plan_row plan_answer bytes_of spread table_over table
    one_wire joined written fused fused_file records_cost fused_counts write_answer placed is_costly wanted_of
plan_then = refl

-- a direct run writes 0 for them
pub run_then : map (λ k. run_results (rule_answer (scraps k)) (scraps k) (1 ∷ 3 ∷ 5 ∷ 7 ∷ 9 ∷ 9 ∷ 9 ∷ []) (8 ∷ 8 ∷ 8 ∷ 8 ∷ 8 ∷ 8 ∷ 8 ∷ 8 ∷ [])) (0x00 ∷ 0x02 ∷ [])
    ≡ (1 ∷ 3 ∷ 5 ∷ 7 ∷ 15 ∷ 21 ∷ 15 ∷ 8 ∷ []) ∷ (1 ∷ 3 ∷ 5 ∷ 7 ∷ 0 ∷ 0 ∷ 15 ∷ 8 ∷ []) ∷ []
unfolding over number kind_of working_of operation_of code_of result_of read_mark read_count read_kinds read_header read_variable read_word read_bit operation_with expr_with read_expr
    read_assign branch_with statement_with block_with block_fuel read_block read_rule figure_of run_statement run_block run_rule run_writes apply_gate make_expr assigns_in assigns
    choices make_statement make_block plain_circuit costs conditions collect whole_within rule_answer some_above inputs_row input_row run_answer run_results written_for
run_then = refl

-- A plan that was accepted need not be where more works. Three words, v1 of kind k, and a bit: v1 := v1 × v1 (gate 4); v3 := v1 < v0 (5); v2 := v0 × v0 (6); v2 := v0;
-- if v0 < 5 (8) then v2 := v1; v3 := 1. Where v1 works, gate 4 rests on the condition 8, which its group {4, 6} then waits for; and {5, 8} waits for gate 4.
abbrev pub square : ℕ → List ℕ
square k =
    0x52 ∷ 0x55 ∷ 0x4C ∷ 0x00 ∷ 0x01 ∷ 0x04 ∷ 0x00 ∷ k ∷ 0x00 ∷ 0x01
    ∷ 0x01 ∷ 0x01 ∷ 0x22 ∷ 0x10 ∷ 0x01 ∷ 0x10 ∷ 0x01
    ∷ 0x01 ∷ 0x03 ∷ 0x23 ∷ 0x10 ∷ 0x01 ∷ 0x10 ∷ 0x00
    ∷ 0x01 ∷ 0x02 ∷ 0x22 ∷ 0x10 ∷ 0x00 ∷ 0x10 ∷ 0x00
    ∷ 0x01 ∷ 0x02 ∷ 0x10 ∷ 0x00
    ∷ 0x03 ∷ 0x23 ∷ 0x10 ∷ 0x00 ∷ 0x11 ∷ 0x00 ∷ 0x00 ∷ 0x00 ∷ 0x05 ∷ 0x01 ∷ 0x02 ∷ 0x10 ∷ 0x01 ∷ 0x00 ∷ 0x00
    ∷ 0x01 ∷ 0x03 ∷ 0x12 ∷ 0x01
    ∷ 0x00 ∷ []

abbrev pub two_pairs : List ℕ
two_pairs = 0x50 ∷ 0x4C ∷ 0x4E ∷ 0x00 ∷ 0x01 ∷ 0x00 ∷ 0x0B ∷ 0x00 ∷ 0x02 ∷ 0x02 ∷ 0x00 ∷ 0x04 ∷ 0x00 ∷ 0x06 ∷ 0x02 ∷ 0x00 ∷ 0x05 ∷ 0x00 ∷ 0x08 ∷ []

pub more_waits : map (λ k. plan_answer (square k) two_pairs) (0x00 ∷ 0x02 ∷ []) ≡ success 11 0 0 113 0 ∷ refusal 30 0 ∷ []
unfolding number kind_of working_of operation_of code_of read_mark read_count read_kinds read_header read_variable read_word read_bit operation_with expr_with read_expr read_assign branch_with
    statement_with block_with block_fuel read_block read_rule apply_gate make_expr assigns_in assigns choices make_statement make_block plain_circuit conditions collect numbers
    preconditions precondition_sets costs whole_within rule_answer rests_on rests groups_in groups rests_of waits_for order plan_row plan_answer placed is_costly wanted_of
more_waits = refl

-- one variable, a working bit: taken with 0 and with 1, 41 with 2; 04 is no kind
abbrev pub alone : ℕ → List ℕ
alone k = 0x52 ∷ 0x55 ∷ 0x4C ∷ 0x00 ∷ 0x01 ∷ 0x01 ∷ k ∷ 0x00 ∷ []

pub alone_read : map (λ k. rule_answer (alone k)) (0x00 ∷ 0x01 ∷ 0x02 ∷ 0x03 ∷ 0x04 ∷ [])
    ≡ success 1 0 0 0 0 ∷ success 1 0 0 0 0 ∷ success 1 0 0 0 0 ∷ success 1 0 0 0 0 ∷ refusal 3 6 ∷ []
unfolding number kind_of working_of operation_of code_of read_mark read_count read_kinds read_header read_variable read_word read_bit operation_with expr_with read_expr read_assign branch_with
    statement_with block_with block_fuel read_block read_rule apply_gate make_expr assigns_in assigns choices make_statement make_block plain_circuit conditions collect costs whole_within rule_answer
alone_read = refl

pub alone_run : map (λ n. run_answer (rule_answer (alone 0x03)) (alone 0x03) (n ∷ []) 1) (0 ∷ 1 ∷ 2 ∷ [])
    ≡ success 1 0 0 0 0 ∷ success 1 0 0 0 0 ∷ refusal 41 0 ∷ []
unfolding number kind_of working_of operation_of code_of read_mark read_count read_kinds read_header read_variable read_word read_bit operation_with expr_with read_expr read_assign branch_with
    statement_with block_with block_fuel read_block read_rule apply_gate make_expr assigns_in assigns choices make_statement make_block plain_circuit conditions collect costs whole_within rule_answer
    some_above inputs_row input_row run_answer
alone_run = refl
