-- Document 01, "Examples": 5 to 8, and R1 with P1, by the check of a plan, computed from the definitions.
use Rattle.std.specs.Prelude.{ℕ, ◌≡◌, refl, List, [], ◌∷◌, ◌++◌, map, take, set}
use Rattle.base.specs.Numbers.{number}
use Rattle.base.specs.Codes.{operation_of, code_of}
use Rattle.base.specs.Answers.{success, refusal}
use Rattle.base.specs.Parsing.{read_mark}
use Rattle.rule.specs.Header.{kind_of, working_of, read_count, read_kinds, read_header}
use Rattle.rule.specs.Expressions.{read_variable, read_word, read_bit, operation_with, expr_with, read_expr}
use Rattle.rule.specs.Blocks.{read_assign, branch_with, statement_with, block_with, block_fuel, read_block}
use Rattle.rule.specs.Rule.{read_rule}
use Rattle.rule.specs.Examples.{r1}
use Rattle.circuit.specs.Gates.{conditions, costs}
use Rattle.circuit.specs.PlainCircuit.{apply_gate, make_expr, assigns_in, assigns, choices, make_statement, make_block, plain_circuit}
use Rattle.circuit.specs.Examples.{r2, r7, r8}
use Rattle.base.specs.Bits.{collect}
use Rattle.base.specs.Sets.{rests_on, rests}
use Rattle.base.specs.SettingNumbers.{numbers}
use Rattle.circuit_needed.specs.Pass.{preconditions, precondition_sets}
use Rattle.circuit.specs.Whole.{whole_within, rule_answer}
use Rattle.plan.specs.PlanFile.{groups_in}
use Rattle.plan.specs.Groups.{groups, rests_of, waits_for}
use Rattle.plan.specs.Order.{order}
use Rattle.plan.specs.Rows.{plan_row, plan_answer, is_costly, placed}
use Rattle.circuit_needed.specs.Needed.{wanted_of}

-- the plan P1: gates 3 and 4 of R1 in one group
abbrev pub p1 : List ℕ
p1 = 0x50 ∷ 0x4C ∷ 0x4E ∷ 0x00 ∷ 0x01 ∷ 0x00 ∷ 0x06 ∷ 0x00 ∷ 0x01 ∷ 0x02 ∷ 0x00 ∷ 0x03 ∷ 0x00 ∷ 0x04 ∷ []

-- a plan of so many gates and one group of two, or two groups of two
abbrev pair : ℕ → ℕ → ℕ → List ℕ
pair n a b = 0x50 ∷ 0x4C ∷ 0x4E ∷ 0x00 ∷ 0x01 ∷ 0x00 ∷ n ∷ 0x00 ∷ 0x01 ∷ 0x02 ∷ 0x00 ∷ a ∷ 0x00 ∷ b ∷ []

abbrev pairs : ℕ → ℕ → ℕ → ℕ → ℕ → List ℕ
pairs n a b c d =
    0x50 ∷ 0x4C ∷ 0x4E ∷ 0x00 ∷ 0x01 ∷ 0x00 ∷ n ∷ 0x00 ∷ 0x02 ∷ 0x02 ∷ 0x00 ∷ a ∷ 0x00 ∷ b ∷ 0x02 ∷ 0x00 ∷ c ∷ 0x00 ∷ d ∷ []

-- R1 with P1: accepted, with R1's counts
pub example_p1 : plan_answer r1 p1 ≡ success 6 0 0 33 0
unfolding number kind_of working_of operation_of code_of read_mark read_count read_kinds read_header read_variable read_word read_bit operation_with expr_with read_expr
    read_assign branch_with wanted_of is_costly
    placed statement_with block_with block_fuel read_block read_rule apply_gate make_expr assigns_in assigns choices make_statement make_block plain_circuit conditions collect numbers
    preconditions precondition_sets costs whole_within rule_answer rests_on rests groups_in groups rests_of waits_for order plan_row plan_answer
example_p1 = refl

-- example 5: group 3, 5 in R1: 27
pub example_5 : plan_answer r1 (pair 6 3 5) ≡ refusal 27 0
unfolding number kind_of working_of operation_of code_of read_mark read_count read_kinds read_header read_variable read_word read_bit operation_with expr_with read_expr
    read_assign branch_with wanted_of is_costly
    placed statement_with block_with block_fuel read_block read_rule apply_gate make_expr assigns_in assigns choices make_statement make_block plain_circuit conditions collect numbers
    preconditions precondition_sets costs whole_within rule_answer rests_on rests groups_in groups rests_of waits_for order plan_row plan_answer
example_5 = refl

-- example 6: groups {4, 7} or {5, 6} alone: accepted. Both: 30
pub example_6 : map (plan_row r2) (pair 11 4 7 ∷ pair 11 5 6 ∷ pairs 11 4 7 5 6 ∷ []) ≡ 0 ∷ 0 ∷ 30 ∷ []
unfolding number kind_of working_of operation_of code_of read_mark read_count read_kinds read_header read_variable read_word read_bit operation_with expr_with read_expr
    read_assign branch_with wanted_of is_costly
    placed statement_with block_with block_fuel read_block read_rule apply_gate make_expr assigns_in assigns choices make_statement make_block plain_circuit conditions collect numbers
    preconditions precondition_sets rests_on rests groups_in groups rests_of waits_for order plan_row
example_6 = refl

-- example 7: group {1, 2}: 30, though nothing needs either
pub example_7 : plan_row r7 (pair 4 1 2) ≡ 30
unfolding number kind_of working_of operation_of code_of read_mark read_count read_kinds read_header read_variable read_word read_bit operation_with expr_with read_expr
    read_assign branch_with wanted_of is_costly
    placed statement_with block_with block_fuel read_block read_rule apply_gate make_expr assigns_in assigns choices make_statement make_block plain_circuit conditions collect numbers
    preconditions precondition_sets rests_on rests groups_in groups rests_of waits_for order plan_row
example_7 = refl

-- example 8: group {5, 9}: 29
pub example_8 : plan_row r8 (pair 11 5 9) ≡ 29
unfolding number kind_of working_of operation_of code_of read_mark read_count read_kinds read_header read_variable read_word read_bit operation_with expr_with read_expr
    read_assign branch_with wanted_of is_costly
    placed statement_with block_with block_fuel read_block read_rule apply_gate make_expr assigns_in assigns choices make_statement make_block plain_circuit conditions collect numbers
    preconditions precondition_sets rests_on rests groups_in groups rests_of waits_for order plan_row
example_8 = refl

-- the other rows, on R1: too short, a wrong version, another gate count, a byte left, a group of one, numbers not rising, a gate that is none, a gate in two groups;
-- and on R2 two operations in one group
pub examples_rows :
    map (plan_row r1) (
    take 8 p1 ∷ set p1 4 2 ∷ set p1 6 7 ∷ (p1 ++ (0x00 ∷ [])) ∷ (take 8 p1 ++ (0x01 ∷ 0x01 ∷ 0x00 ∷ 0x03 ∷ [])) ∷ pair 6 4 3 ∷ pair 6 3 6 ∷ pairs 6 3 4 4 5 ∷ []
    ) ++ (plan_row r2 (pair 11 4 6) ∷ [])
    ≡ 20 ∷ 21 ∷ 22 ∷ 23 ∷ 24 ∷ 25 ∷ 25 ∷ 26 ∷ 28 ∷ []
unfolding number kind_of working_of operation_of code_of read_mark read_count read_kinds read_header read_variable read_word read_bit operation_with expr_with read_expr
    read_assign branch_with wanted_of is_costly
    placed statement_with block_with block_fuel read_block read_rule apply_gate make_expr assigns_in assigns choices make_statement make_block plain_circuit conditions collect numbers
    preconditions precondition_sets rests_on rests groups_in groups rests_of waits_for order plan_row
examples_rows = refl
