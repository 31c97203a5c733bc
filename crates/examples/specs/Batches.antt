-- Examples of document 02, C-16, "What a month saved", proved from the definitions.
use Rattle.std.specs.Prelude.{ℕ, ◌≡◌, refl, take}
use mathlib.Core.List.{List, [], ◌∷◌, ◌++◌, map, flat_map}
use Rattle.base.specs.Numbers.{number, bytes_of}
use Rattle.base.specs.Bits.{collect}
use Rattle.base.specs.Sets.{rests_on, rests}
use Rattle.base.specs.SettingNumbers.{numbers}
use Rattle.base.specs.Guards.{spread, table_over, table}
use Rattle.base.specs.Codes.{operation_of, code_of}
use Rattle.base.specs.Parsing.{read_mark}
use Rattle.rule.specs.Header.{kind_of, working_of, read_count, read_kinds, read_header}
use Rattle.rule.specs.Expressions.{read_variable, read_word, read_bit, operation_with, expr_with, read_expr}
use Rattle.rule.specs.Blocks.{read_assign, branch_with, statement_with, block_with, block_fuel, read_block}
use Rattle.rule.specs.Rule.{read_rule}
use Rattle.rule.specs.Examples.{r1}
use Rattle.circuit.specs.Gates.{conditions, costs}
use Rattle.circuit.specs.PlainCircuit.{apply_gate, make_expr, assigns_in, assigns, choices, make_statement, make_block, plain_circuit}
use Rattle.circuit_needed.specs.Pass.{preconditions, precondition_sets}
use Rattle.circuit.specs.Whole.{whole_within, rule_answer}
use Rattle.plan.specs.PlanFile.{groups_in}
use Rattle.plan.specs.Groups.{groups, rests_of, waits_for}
use Rattle.plan.specs.Order.{order}
use Rattle.plan.specs.Rows.{plan_row, plan_answer, is_costly, placed as all_placed}
use Rattle.plan.specs.Examples.{p1}
use Rattle.file.specs.Records.{records_cost}
use Rattle.fused.specs.Emission.{one_wire, joined}
use Rattle.fused.specs.FusedCircuit.{written, fused, fused_file}
use Rattle.fused.specs.Answers.{fused_counts, fused_answer}
use Rattle.report.specs.Line.{digits, decimal, spaced, line, accepted, refused, placed, line_of}
use Rattle.report.specs.Total.{total, spaced_less, total_line}
use Rattle.report.specs.Batch.{headed, has_part, has_entry, entry_answer, plus, report_from, report_of}
use Rattle.report.specs.Packed.{Entry, batch_of, entry_bytes}
use Rattle.circuit_needed.specs.Needed.{wanted_of}

-- "a 9-byte plan of no groups" for R1's six gates
abbrev pub no_groups : List ℕ
no_groups = 0x50 ∷ 0x4C ∷ 0x4E ∷ 0x00 ∷ 0x01 ∷ 0x00 ∷ 0x06 ∷ 0x00 ∷ 0x00 ∷ []

-- "R1 with P1, then R1 with a 9-byte plan of no groups"
abbrev pub two_of_r1 : List ℕ
two_of_r1 = batch_of (record { rule = r1; plan = p1 } ∷ record { rule = r1; plan = no_groups } ∷ [])

-- the lines `accepted 6 8 33 24` and `accepted 6 6 33 33`
abbrev pub first_line : List ℕ
first_line = accepted ++ (32 ∷ 54 ∷ 32 ∷ 56 ∷ 32 ∷ 51 ∷ 51 ∷ 32 ∷ 50 ∷ 52 ∷ 10 ∷ [])

abbrev pub second_line : List ℕ
second_line = accepted ++ (32 ∷ 54 ∷ 32 ∷ 54 ∷ 32 ∷ 51 ∷ 51 ∷ 32 ∷ 51 ∷ 51 ∷ 10 ∷ [])

-- the line `refused 75`
abbrev pub refused_75 : List ℕ
refused_75 = refused ++ (32 ∷ 55 ∷ 53 ∷ 10 ∷ [])

-- C-18: "the batch above ends `total 2 0 66 57 9`"
pub saved_nine : report_of two_of_r1 ≡ first_line ++ (second_line ++ (total ++ (32 ∷ 50 ∷ 32 ∷ 48 ∷ 32 ∷ 54 ∷ 54 ∷ 32 ∷ 53 ∷ 55 ∷ 32 ∷ 57 ∷ 10 ∷ [])))
unfolding number kind_of working_of operation_of code_of read_mark read_count read_kinds read_header read_variable read_word read_bit operation_with expr_with read_expr read_assign branch_with
    statement_with block_with block_fuel read_block read_rule apply_gate make_expr assigns_in assigns choices make_statement make_block plain_circuit conditions collect numbers
    preconditions precondition_sets costs whole_within rule_answer rests_on rests groups_in groups rests_of waits_for order plan_row plan_answer bytes_of spread table_over table
    one_wire joined written fused fused_file records_cost fused_counts fused_answer digits decimal spaced line placed line_of spaced_less total_line flat_map headed has_part
    has_entry entry_answer plus
    report_from report_of all_placed is_costly wanted_of entry_bytes batch_of
saved_nine = refl

-- the folder examples/dearer-plan: two ands, which the plan joins; the picks for them cost more than an and
abbrev pub dearer : Entry
dearer = record {
  rule = 0x52 ∷ 0x55 ∷ 0x4C ∷ 0x00 ∷ 0x01 ∷ 0x05 ∷ 0x01 ∷ 0x01 ∷ 0x01 ∷ 0x01 ∷ 0x01 ∷ 0x03 ∷ 0x10 ∷ 0x00 ∷ 0x01 ∷ 0x04 ∷ 0x25 ∷ 0x10 ∷ 0x01 ∷ 0x10 ∷ 0x02
      ∷ 0x00 ∷ 0x01 ∷ 0x04 ∷ 0x25 ∷ 0x10 ∷ 0x02 ∷ 0x10 ∷ 0x03 ∷ 0x00 ∷ 0x00 ∷ [];
  plan = 0x50 ∷ 0x4C ∷ 0x4E ∷ 0x00 ∷ 0x01 ∷ 0x00 ∷ 0x08 ∷ 0x00 ∷ 0x01 ∷ 0x02 ∷ 0x00 ∷ 0x05 ∷ 0x00 ∷ 0x06 ∷ [];
}

-- "which may be negative": `accepted 8 11 5 14`, `total 1 0 5 14 -9`
pub lost_nine : report_of (batch_of (dearer ∷ []))
    ≡ accepted ++ (32 ∷ 56 ∷ 32 ∷ 49 ∷ 49 ∷ 32 ∷ 53 ∷ 32 ∷ 49 ∷ 52 ∷ 10 ∷ []) ++ (total ++ (32 ∷ 49 ∷ 32 ∷ 48 ∷ 32 ∷ 53 ∷ 32 ∷ 49 ∷ 52 ∷ 32 ∷ 45 ∷ 57 ∷ 10 ∷ []))
unfolding number kind_of working_of operation_of code_of read_mark read_count read_kinds read_header read_variable read_word read_bit operation_with expr_with read_expr read_assign branch_with
    statement_with block_with block_fuel read_block read_rule apply_gate make_expr assigns_in assigns choices make_statement make_block plain_circuit conditions collect numbers
    preconditions precondition_sets costs whole_within rule_answer rests_on rests groups_in groups rests_of waits_for order plan_row plan_answer bytes_of spread table_over table
    one_wire joined written fused fused_file records_cost fused_counts fused_answer digits decimal spaced line placed line_of spaced_less total_line flat_map headed has_part
    has_entry entry_answer plus
    report_from report_of all_placed is_costly wanted_of entry_bytes batch_of
lost_nine = refl

-- one byte more, one byte less, and one byte less than its first entry
pub not_whole : map report_of ((two_of_r1 ++ (0x00 ∷ [])) ∷ take 95 two_of_r1 ∷ take 53 two_of_r1 ∷ [])
    ≡ (first_line ++ (second_line ++ refused_75)) ∷ (first_line ++ refused_75) ∷ refused_75 ∷ []
unfolding number kind_of working_of operation_of code_of read_mark read_count read_kinds read_header read_variable read_word read_bit operation_with expr_with read_expr read_assign branch_with
    statement_with block_with block_fuel read_block read_rule apply_gate make_expr assigns_in assigns choices make_statement make_block plain_circuit conditions collect numbers
    preconditions precondition_sets costs whole_within rule_answer rests_on rests groups_in groups rests_of waits_for order plan_row plan_answer bytes_of spread table_over table
    one_wire joined written fused fused_file records_cost fused_counts fused_answer digits decimal spaced line placed line_of spaced_less total_line flat_map headed has_part
    has_entry entry_answer plus
    report_from report_of all_placed is_costly wanted_of entry_bytes batch_of
not_whole = refl

-- a batch that counts no entry is whole; one that ends before its header, and one of another version, are not
pub no_entry : report_of (batch_of []) ≡ total ++ (32 ∷ 48 ∷ 32 ∷ 48 ∷ 32 ∷ 48 ∷ 32 ∷ 48 ∷ 32 ∷ 48 ∷ 10 ∷ [])
unfolding number bytes_of flat_map headed digits decimal spaced spaced_less total_line report_from report_of batch_of
no_entry = refl

pub no_batch : map report_of (take 6 (batch_of []) ∷ (0x42 ∷ 0x41 ∷ 0x54 ∷ 0x00 ∷ 0x02 ∷ 0x00 ∷ 0x00 ∷ []) ∷ []) ≡ refused_75 ∷ refused_75 ∷ []
unfolding number bytes_of flat_map headed digits decimal spaced line placed line_of report_from report_of batch_of
no_batch = refl
