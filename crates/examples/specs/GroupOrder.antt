-- Examples of document 02, C-15, "Groups in one order", proved from the definitions.
use Rattle.std.specs.Prelude.{ℕ, ◌≡◌, refl, List, [], ◌∷◌, ◌++◌, map, take, drop}
use Rattle.base.specs.Numbers.{number}
use Rattle.base.specs.Bits.{collect}
use Rattle.base.specs.Sets.{rests_on, rests}
use Rattle.base.specs.SettingNumbers.{numbers}
use Rattle.base.specs.Codes.{operation_of, code_of}
use Rattle.base.specs.Answers.{success, refusal}
use Rattle.base.specs.Parsing.{read_mark}
use Rattle.rule.specs.Header.{kind_of, working_of, read_count, read_kinds, read_header}
use Rattle.rule.specs.Expressions.{read_variable, read_word, read_bit, operation_with, expr_with, read_expr}
use Rattle.rule.specs.Blocks.{read_assign, branch_with, statement_with, block_with, block_fuel, read_block}
use Rattle.rule.specs.Rule.{read_rule}
use Rattle.rule.specs.Examples.{r1}
use Rattle.circuit.specs.Gates.{conditions, costs}
use Rattle.circuit.specs.PlainCircuit.{apply_gate, make_expr, assigns_in, assigns, choices, make_statement, make_block, plain_circuit}
use Rattle.circuit_needed.specs.Pass.{preconditions, precondition_sets}
use Rattle.circuit.specs.Whole.{whole_within, rule_answer}
use Rattle.plan.specs.PlanFile.{groups_in}
use Rattle.plan.specs.Groups.{groups, rests_of, waits_for}
use Rattle.plan.specs.Order.{order}
use Rattle.plan.specs.Rows.{plan_row, plan_answer, is_costly, placed}
use Rattle.circuit_needed.specs.Needed.{wanted_of}

-- R1's statement twice: nine gates, of which 3, 4, 6 and 7 are products and 5 and 8 choices
abbrev pub r1_twice : List ℕ
r1_twice = take 28 r1 ++ drop 9 r1

-- a plan of two groups of two, for so many gates
abbrev pub two_pairs : ℕ → ℕ → ℕ → ℕ → ℕ → List ℕ
two_pairs n a b c d =
    0x50 ∷ 0x4C ∷ 0x4E ∷ 0x00 ∷ 0x01 ∷ 0x00 ∷ n ∷ 0x00 ∷ 0x02 ∷ 0x02 ∷ 0x00 ∷ a ∷ 0x00 ∷ b ∷ 0x02 ∷ 0x00 ∷ c ∷ 0x00 ∷ d ∷ []

-- the groups {3, 4} and {6, 7} in one order are accepted, in the other refused
pub one_order : map (plan_answer r1_twice) (two_pairs 9 3 4 6 7 ∷ two_pairs 9 6 7 3 4 ∷ []) ≡ success 9 0 0 66 0 ∷ refusal 32 0 ∷ []
unfolding number kind_of working_of operation_of code_of read_mark read_count read_kinds read_header read_variable read_word read_bit operation_with expr_with read_expr read_assign branch_with
    statement_with block_with block_fuel read_block read_rule apply_gate make_expr assigns_in assigns choices make_statement make_block plain_circuit conditions collect numbers
    preconditions precondition_sets costs whole_within rule_answer rests_on rests groups_in groups rests_of waits_for order plan_row plan_answer placed is_costly wanted_of
one_order = refl

-- on R1: a gate in two groups is 26 before 32, equal smallest members too; 32 comes before 27; in order the same two groups are 27
pub rows_in_order : map (plan_row r1) (two_pairs 6 3 4 1 3 ∷ two_pairs 6 3 4 3 5 ∷ two_pairs 6 3 4 1 2 ∷ two_pairs 6 1 2 3 4 ∷ []) ≡ 26 ∷ 26 ∷ 32 ∷ 27 ∷ []
unfolding number kind_of working_of operation_of code_of read_mark read_count read_kinds read_header read_variable read_word read_bit operation_with expr_with read_expr read_assign branch_with
    statement_with block_with block_fuel read_block read_rule apply_gate make_expr assigns_in assigns choices make_statement make_block plain_circuit conditions collect numbers
    preconditions precondition_sets rests_on rests groups_in groups rests_of waits_for order plan_row is_costly
rows_in_order = refl
