-- Examples of document 02, C-18, "No pick between equal wires", proved from the definitions.
use Rattle.std.specs.Prelude.{ℕ, ◌≡◌, refl, List, [], ◌∷◌, map, set}
use Rattle.base.specs.Numbers.{number, bytes_of}
use Rattle.base.specs.Bits.{collect}
use Rattle.base.specs.Sets.{rests_on, rests}
use Rattle.base.specs.SettingNumbers.{numbers}
use Rattle.base.specs.Guards.{spread, table_over, table}
use Rattle.base.specs.Codes.{operation_of, code_of}
use Rattle.base.specs.Answers.{success, refusal}
use Rattle.base.specs.Parsing.{read_mark}
use Rattle.rule.specs.Header.{kind_of, working_of, read_count, read_kinds, read_header}
use Rattle.rule.specs.Expressions.{read_variable, read_word, read_bit, operation_with, expr_with, read_expr}
use Rattle.rule.specs.Blocks.{read_assign, branch_with, statement_with, block_with, block_fuel, read_block}
use Rattle.rule.specs.Rule.{read_rule}
use Rattle.rule.specs.Examples.{r1}
use Rattle.circuit.specs.Gates.{conditions, costs}
use Rattle.circuit.specs.PlainCircuit.{apply_gate, make_expr, assigns_in, assigns, choices, make_statement, make_block, plain_circuit}
use Rattle.circuit_needed.specs.Pass.{preconditions, precondition_sets}
use Rattle.circuit.specs.Whole.{whole_within, rule_answer}
use Rattle.plan.specs.PlanFile.{groups_in}
use Rattle.plan.specs.Layout.{plan_bytes}
use Rattle.plan.specs.Groups.{groups, rests_of, waits_for}
use Rattle.plan.specs.Order.{order}
use Rattle.plan.specs.Rows.{plan_row, plan_answer, is_costly, placed}
use Rattle.plan.specs.Examples.{p1}
use Rattle.file.specs.Records.{records_cost}
use Rattle.fused.specs.Emission.{one_wire, joined}
use Rattle.fused.specs.FusedCircuit.{written, fused, fused_file}
use Rattle.fused.specs.Answers.{fused_counts, write_answer}
use Rattle.circuit_needed.specs.Needed.{wanted_of}

-- R1 with the product of its second block v2 × v1, and with v1 × v1: both members read wires 1 and 2; both read wire 1 at the first place, and 2 and 1 at the second
abbrev pub r1_equal : List ℕ
r1_equal = set r1 26 0x01

abbrev pub r1_first : List ℕ
r1_first = set (set r1 24 0x01) 26 0x01

-- no pick and no guard: the inputs, the product, the choice, the outputs
pub no_pick_file : fused_file r1_equal p1 ≡
    0x43 ∷ 0x49 ∷ 0x52 ∷ 0x00 ∷ 0x02 ∷ 0x03 ∷ 0x00 ∷ 0x05
    ∷ 0x01 ∷ 0x00
    ∷ 0x00 ∷ 0x01
    ∷ 0x00 ∷ 0x02
    ∷ 0x22 ∷ 0x00 ∷ 0x01 ∷ 0x00 ∷ 0x02
    ∷ 0x30 ∷ 0x00 ∷ 0x00 ∷ 0x00 ∷ 0x03 ∷ 0x00 ∷ 0x03
    ∷ 0x00 ∷ 0x00 ∷ 0x00 ∷ 0x04 ∷ 0x00 ∷ 0x02
    ∷ []
unfolding number kind_of working_of operation_of code_of read_mark read_count read_kinds read_header read_variable read_word read_bit operation_with expr_with read_expr read_assign branch_with
    statement_with block_with block_fuel read_block read_rule apply_gate make_expr assigns_in assigns choices make_statement make_block plain_circuit conditions collect numbers
    preconditions precondition_sets rests_on rests groups_in groups rests_of waits_for order bytes_of spread table_over table one_wire joined written fused fused_file wanted_of
no_pick_file = refl

-- a pick at neither place, at the first (R1 itself), at the second
pub picks_counted : map (λ s. write_answer s p1 114) (r1_equal ∷ r1 ∷ r1_first ∷ []) ≡ success 6 5 32 33 18 ∷ success 6 8 114 33 24 ∷ success 6 8 114 33 24 ∷ []
unfolding number kind_of working_of operation_of code_of read_mark read_count read_kinds read_header read_variable read_word read_bit operation_with expr_with read_expr read_assign branch_with
    statement_with block_with block_fuel read_block read_rule apply_gate make_expr assigns_in assigns choices make_statement make_block plain_circuit conditions collect numbers
    preconditions precondition_sets costs whole_within rule_answer rests_on rests groups_in groups rests_of waits_for order plan_row plan_answer bytes_of spread table_over table
    one_wire joined written fused fused_file records_cost fused_counts write_answer placed is_costly wanted_of
picks_counted = refl

-- "the same wire of the fused circuit": v1 := (v1 × v2) × v2 in both blocks, gates 3 and 4, 5 and 6. Gates 4 and 6 read the gates 3 and 5, which are one wire where these are joined
abbrev pub chained : List ℕ
chained =
    0x52 ∷ 0x55 ∷ 0x4C ∷ 0x00 ∷ 0x01 ∷ 0x03 ∷ 0x01 ∷ 0x00 ∷ 0x00 ∷ 0x03 ∷ 0x10 ∷ 0x00
    ∷ 0x01 ∷ 0x01 ∷ 0x22 ∷ 0x22 ∷ 0x10 ∷ 0x01 ∷ 0x10 ∷ 0x02 ∷ 0x10 ∷ 0x02 ∷ 0x00
    ∷ 0x01 ∷ 0x01 ∷ 0x22 ∷ 0x22 ∷ 0x10 ∷ 0x01 ∷ 0x10 ∷ 0x02 ∷ 0x10 ∷ 0x02 ∷ 0x00
    ∷ 0x00 ∷ []

-- both groups joined: no guard and no pick in the file; the second alone: its guards and one pick
pub chain_counted : map (λ G. write_answer chained (plan_bytes 8 G) 124) (((3 ∷ 5 ∷ []) ∷ (4 ∷ 6 ∷ []) ∷ []) ∷ ((4 ∷ 6 ∷ []) ∷ []) ∷ [])
    ≡ success 8 6 37 63 33 ∷ success 8 10 124 63 54 ∷ []
unfolding number kind_of working_of operation_of code_of read_mark read_count read_kinds read_header read_variable read_word read_bit operation_with expr_with read_expr read_assign branch_with
    statement_with block_with block_fuel read_block read_rule apply_gate make_expr assigns_in assigns choices make_statement make_block plain_circuit conditions collect numbers
    preconditions precondition_sets costs whole_within rule_answer rests_on rests groups_in groups rests_of waits_for order plan_row plan_answer bytes_of spread table_over table
    one_wire joined written fused fused_file records_cost fused_counts write_answer placed is_costly wanted_of
chain_counted = refl

-- "Who waits for whom is judged as before". v3 := v0 × v1 and v4 := v0 × v1, working words, then if v0 < v1 then v2 := v3 else v2 := v4: the products 5 and 6 rest on the condition
-- 7, so that they are written after it, though their group has no guard
abbrev pub late : List ℕ
late =
    0x52 ∷ 0x55 ∷ 0x4C ∷ 0x00 ∷ 0x01 ∷ 0x05 ∷ 0x00 ∷ 0x00 ∷ 0x00 ∷ 0x02 ∷ 0x02
    ∷ 0x01 ∷ 0x03 ∷ 0x22 ∷ 0x10 ∷ 0x00 ∷ 0x10 ∷ 0x01
    ∷ 0x01 ∷ 0x04 ∷ 0x22 ∷ 0x10 ∷ 0x00 ∷ 0x10 ∷ 0x01
    ∷ 0x03 ∷ 0x23 ∷ 0x10 ∷ 0x00 ∷ 0x10 ∷ 0x01 ∷ 0x01 ∷ 0x02 ∷ 0x10 ∷ 0x03 ∷ 0x00 ∷ 0x01 ∷ 0x02 ∷ 0x10 ∷ 0x04 ∷ 0x00
    ∷ 0x00 ∷ []

pub late_file : fused_file late (plan_bytes 9 ((5 ∷ 6 ∷ []) ∷ [])) ≡
    0x43 ∷ 0x49 ∷ 0x52 ∷ 0x00 ∷ 0x02 ∷ 0x05 ∷ 0x00 ∷ 0x08
    ∷ 0x00 ∷ 0x00
    ∷ 0x00 ∷ 0x01
    ∷ 0x00 ∷ 0x02
    ∷ 0x00 ∷ 0x03
    ∷ 0x00 ∷ 0x04
    ∷ 0x23 ∷ 0x00 ∷ 0x00 ∷ 0x00 ∷ 0x01
    ∷ 0x22 ∷ 0x00 ∷ 0x00 ∷ 0x00 ∷ 0x01
    ∷ 0x30 ∷ 0x00 ∷ 0x05 ∷ 0x00 ∷ 0x06 ∷ 0x00 ∷ 0x06
    ∷ 0x00 ∷ 0x00 ∷ 0x00 ∷ 0x01 ∷ 0x00 ∷ 0x07 ∷ 0xFF ∷ 0xFF ∷ 0xFF ∷ 0xFF
    ∷ []
unfolding number kind_of working_of operation_of code_of read_mark read_count read_kinds read_header read_variable read_word read_bit operation_with expr_with read_expr read_assign branch_with
    statement_with block_with block_fuel read_block read_rule apply_gate make_expr assigns_in assigns choices make_statement make_block plain_circuit conditions collect numbers
    preconditions precondition_sets rests_on rests groups_in groups rests_of waits_for order bytes_of spread table_over table one_wire joined written fused fused_file wanted_of
late_file = refl

-- and a circle through such a condition is 30: R2 (example 6) with v1 × v2 in its first block, so that the products 4 and 7 read one wire at each place
abbrev pub r2_equal : List ℕ
r2_equal =
    0x52 ∷ 0x55 ∷ 0x4C ∷ 0x00 ∷ 0x01 ∷ 0x04 ∷ 0x01 ∷ 0x00 ∷ 0x00 ∷ 0x01 ∷ 0x03 ∷ 0x10 ∷ 0x00
    ∷ 0x01 ∷ 0x03 ∷ 0x23 ∷ 0x22 ∷ 0x10 ∷ 0x01 ∷ 0x10 ∷ 0x02 ∷ 0x10 ∷ 0x02 ∷ 0x00
    ∷ 0x03 ∷ 0x23 ∷ 0x10 ∷ 0x01 ∷ 0x10 ∷ 0x02 ∷ 0x01 ∷ 0x01 ∷ 0x22 ∷ 0x10 ∷ 0x01 ∷ 0x10 ∷ 0x02 ∷ 0x00 ∷ 0x00 ∷ 0x00
    ∷ 0x00 ∷ []

pub circle_stays : map (λ G. plan_answer r2_equal (plan_bytes 11 G)) (((4 ∷ 7 ∷ []) ∷ []) ∷ ((5 ∷ 6 ∷ []) ∷ []) ∷ ((4 ∷ 7 ∷ []) ∷ (5 ∷ 6 ∷ []) ∷ []) ∷ [])
    ≡ success 11 0 0 119 0 ∷ success 11 0 0 119 0 ∷ refusal 30 0 ∷ []
unfolding number kind_of working_of operation_of code_of read_mark read_count read_kinds read_header read_variable read_word read_bit operation_with expr_with read_expr read_assign branch_with
    statement_with block_with block_fuel read_block read_rule apply_gate make_expr assigns_in assigns choices make_statement make_block plain_circuit conditions collect numbers
    preconditions precondition_sets costs whole_within rule_answer rests_on rests groups_in groups rests_of waits_for order plan_row plan_answer bytes_of placed is_costly wanted_of
circle_stays = refl
