-- Examples of document 02, C-12, "Argument order no longer matters", proved from the definitions.
use Rattle.std.specs.Prelude.{ℕ, ◌≡◌, refl, List, [], ◌∷◌, map, get_or, set}
use Rattle.std.proofs.Common.{sym, ap, ◌∙◌, arith}
use Rattle.base.specs.Numbers.{number, bytes_of}
use Rattle.base.specs.Bits.{collect}
use Rattle.base.specs.Sets.{rests_on, rests}
use Rattle.base.specs.SettingNumbers.{numbers}
use Rattle.base.specs.Guards.{spread, table_over, table}
use Rattle.base.specs.Codes.{operation_of, code_of}
use Rattle.base.specs.declared.Operation.TheVariants.{Sum}
use Rattle.base.specs.Answers.{success}
use Rattle.base.specs.Parsing.{read_mark}
use Rattle.rule.specs.Header.{kind_of, working_of, read_count, read_kinds, read_header}
use Rattle.rule.specs.Expressions.{read_variable, read_word, read_bit, operation_with, expr_with, read_expr}
use Rattle.rule.specs.Blocks.{read_assign, branch_with, statement_with, block_with, block_fuel, read_block}
use Rattle.rule.specs.Rule.{read_rule}
use Rattle.rule.specs.Examples.{r1}
use Rattle.rule.specs.OnlyOrder.{OnlyOrder, same, turned, assign, branch, end, then}
use Rattle.circuit.specs.Gates.{gate_at, conditions, costs}
use Rattle.circuit.specs.Gates as gate
use Rattle.circuit.specs.PlainCircuit.{apply_gate, make_expr, assigns_in, assigns, choices, make_statement, make_block, plain_circuit, gates_of}
use Rattle.circuit_needed.specs.Pass.{preconditions, precondition_sets}
use Rattle.circuit.specs.Whole.{whole_within, rule_answer}
use Rattle.plan.specs.PlanFile.{groups_in}
use Rattle.plan.specs.Groups.{groups, rests_of, waits_for}
use Rattle.plan.specs.Order.{order}
use Rattle.plan.specs.Rows.{plan_row, plan_answer, is_costly, placed}
use Rattle.plan.specs.Examples.{p1}
use Rattle.file.specs.Records.{records_cost}
use Rattle.file.specs.Records as records
use Rattle.fused.specs.Emission.{one_wire, joined}
use Rattle.fused.specs.FusedCircuit.{written, fused, records_of, fused_file}
use Rattle.fused.specs.Answers.{fused_counts, write_answer}
use Rattle.file.specs.Examples.{file3}
use Rattle.fused.specs.Examples.{example_3}
use Rattle.fused.specs.OnlyOrderLaws.{same_file}
use Rattle.circuit_needed.specs.Needed.{wanted_of}

-- R1 with the product of its first block the other way round: v2 × v1
abbrev pub r1_turned : List ℕ
r1_turned = set (set r1 16 0x02) 18 0x01

pub r1_order : OnlyOrder r1 r1_turned
unfolding number kind_of operation_of code_of read_mark read_count read_kinds read_header read_variable read_word read_bit operation_with expr_with read_expr read_assign branch_with
    statement_with block_with block_fuel read_block read_rule
r1_order = record { headers = refl; blocks = then (branch same (then (assign (turned refl)) end) (then (assign same) end)) end }

pub r1_accepted : (rule_answer r1).number ≡ 0
unfolding number kind_of operation_of code_of read_mark read_count read_kinds read_header read_variable read_word read_bit operation_with expr_with read_expr read_assign branch_with
    statement_with block_with block_fuel read_block read_rule apply_gate make_expr assigns_in assigns choices make_statement make_block plain_circuit costs conditions whole_within
    rule_answer
r1_accepted = refl

-- so with P1 it gives example 3's file
pub r1_turned_file : fused_file r1_turned p1 ≡ file3
r1_turned_file = sym (same_file r1 r1_turned r1_order r1_accepted p1) ∙ example_3

-- v2 from v0 and v1 by the operation of a code, in either order; k: the kind of v2. The plan for its four gates joins none
abbrev pub from_two : ℕ → ℕ → ℕ → ℕ → List ℕ
from_two op k x y =
    0x52 ∷ 0x55 ∷ 0x4C ∷ 0x00 ∷ 0x01 ∷ 0x03 ∷ 0x00 ∷ 0x00 ∷ k
    ∷ 0x01 ∷ 0x02 ∷ op ∷ 0x10 ∷ x ∷ 0x10 ∷ y ∷ 0x00 ∷ []

abbrev pub no_groups : List ℕ
no_groups = 0x50 ∷ 0x4C ∷ 0x4E ∷ 0x00 ∷ 0x01 ∷ 0x00 ∷ 0x04 ∷ 0x00 ∷ 0x00 ∷ []

-- a difference and a less-than still depend on their order: in either the rule is accepted and its file has 25 bytes, of which 15 and 16 are the record's first wire
pub ordered_accepted : map (λ s. write_answer s no_groups 25) (from_two 0x21 0x00 0 1 ∷ from_two 0x21 0x00 1 0 ∷ from_two 0x23 0x01 0 1 ∷ from_two 0x23 0x01 1 0 ∷ [])
    ≡ success 4 4 25 0 0 ∷ success 4 4 25 0 0 ∷ success 4 4 25 40 40 ∷ success 4 4 25 40 40 ∷ []
unfolding number kind_of working_of operation_of code_of read_mark read_count read_kinds read_header read_variable read_word read_bit operation_with expr_with read_expr read_assign branch_with
    statement_with block_with block_fuel read_block read_rule apply_gate make_expr assigns_in assigns choices make_statement make_block plain_circuit conditions collect numbers
    preconditions precondition_sets costs whole_within rule_answer rests_on rests groups_in groups rests_of waits_for order plan_row plan_answer bytes_of spread table_over table
    one_wire joined written fused fused_file records_cost fused_counts write_answer placed
ordered_accepted = refl

pub difference_ordered : fused_file (from_two 0x21 0x00 0 1) no_groups ≡ fused_file (from_two 0x21 0x00 1 0) no_groups → ⊥
unfolding number kind_of working_of operation_of code_of read_mark read_count read_kinds read_header read_variable read_word read_bit operation_with expr_with read_expr read_assign branch_with
    statement_with block_with block_fuel read_block read_rule apply_gate make_expr assigns_in assigns choices make_statement make_block plain_circuit conditions collect numbers
    preconditions precondition_sets rests_on rests groups_in groups rests_of waits_for order bytes_of spread table_over table one_wire joined written fused fused_file
difference_ordered e = omega (arith, ap (λ (f : List ℕ). get_or f 16 0) e)

pub less_than_ordered : fused_file (from_two 0x23 0x01 0 1) no_groups ≡ fused_file (from_two 0x23 0x01 1 0) no_groups → ⊥
unfolding number kind_of working_of operation_of code_of read_mark read_count read_kinds read_header read_variable read_word read_bit operation_with expr_with read_expr read_assign branch_with
    statement_with block_with block_fuel read_block read_rule apply_gate make_expr assigns_in assigns choices make_statement make_block plain_circuit conditions collect numbers
    preconditions precondition_sets rests_on rests groups_in groups rests_of waits_for order bytes_of spread table_over table one_wire joined written fused fused_file
less_than_ordered e = omega (arith, ap (λ (f : List ℕ). get_or f 16 0) e)

-- By gate, not by wire. A bit and two words: if v0 then (v1 := v1 × v2; v2 := v2 + v2; v1 := v2 + v1) else (if v1 < v2 then v1 := v2 × v2).
-- Gates 3 and 7 are products, 4 and 5 sums; the group {3, 7} waits for the condition 6, so gate 3 is written after gate 4.
abbrev pub late : List ℕ
late =
    0x52 ∷ 0x55 ∷ 0x4C ∷ 0x00 ∷ 0x01 ∷ 0x03 ∷ 0x01 ∷ 0x00 ∷ 0x00
    ∷ 0x03 ∷ 0x10 ∷ 0x00
    ∷ 0x01 ∷ 0x01 ∷ 0x22 ∷ 0x10 ∷ 0x01 ∷ 0x10 ∷ 0x02
    ∷ 0x01 ∷ 0x02 ∷ 0x20 ∷ 0x10 ∷ 0x02 ∷ 0x10 ∷ 0x02
    ∷ 0x01 ∷ 0x01 ∷ 0x20 ∷ 0x10 ∷ 0x02 ∷ 0x10 ∷ 0x01
    ∷ 0x00
    ∷ 0x03 ∷ 0x23 ∷ 0x10 ∷ 0x01 ∷ 0x10 ∷ 0x02
    ∷ 0x01 ∷ 0x01 ∷ 0x22 ∷ 0x10 ∷ 0x02 ∷ 0x10 ∷ 0x02
    ∷ 0x00 ∷ 0x00 ∷ 0x00 ∷ 0x00 ∷ []

abbrev pub late_plan : List ℕ
late_plan = 0x50 ∷ 0x4C ∷ 0x4E ∷ 0x00 ∷ 0x01 ∷ 0x00 ∷ 0x0B ∷ 0x00 ∷ 0x01 ∷ 0x02 ∷ 0x00 ∷ 0x03 ∷ 0x00 ∷ 0x07 ∷ []

pub late_accepted : write_answer late late_plan 145 ≡ success 11 13 145 79 70
unfolding number kind_of working_of operation_of code_of read_mark read_count read_kinds read_header read_variable read_word read_bit operation_with expr_with read_expr read_assign branch_with
    statement_with block_with block_fuel read_block read_rule apply_gate make_expr assigns_in assigns choices make_statement make_block plain_circuit conditions collect numbers
    preconditions precondition_sets costs whole_within rule_answer rests_on rests groups_in groups rests_of waits_for order plan_row plan_answer bytes_of spread table_over table
    one_wire joined written fused fused_file records_cost fused_counts write_answer placed is_costly wanted_of
late_accepted = refl

-- gate 5 takes gate 3 first, and its record gate 3's wire, which is 8, before gate 4's, which is 3
pub late_gate : gate_at (gates_of late) 5 ≡ gate.operation Sum (3 ∷ 4 ∷ [])
unfolding number kind_of operation_of code_of read_mark read_count read_kinds read_header read_variable read_word read_bit operation_with expr_with read_expr read_assign branch_with
    statement_with block_with block_fuel read_block read_rule apply_gate make_expr assigns_in assigns choices make_statement make_block plain_circuit costs conditions whole_within
    rule_answer
late_gate = refl

pub late_record : get_or (records_of late late_plan) 9 (records.word 0) ≡ records.operation Sum (8 ∷ 3 ∷ [])
unfolding number kind_of working_of operation_of code_of read_mark read_count read_kinds read_header read_variable read_word read_bit operation_with expr_with read_expr read_assign branch_with
    statement_with block_with block_fuel read_block read_rule apply_gate make_expr assigns_in assigns choices make_statement make_block plain_circuit conditions collect numbers
    preconditions precondition_sets rests_on rests groups_in groups rests_of waits_for order bytes_of spread table_over table one_wire joined written fused fused_file wanted_of
late_record = refl
