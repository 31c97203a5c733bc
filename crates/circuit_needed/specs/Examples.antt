-- Examples of document 01, "Examples": the preconditions of examples 1, 6, 7 and 8, computed from the rules' bytes, and which gates exclude each other.
use Rattle.std.specs.Prelude.{ℕ, ◌≡◌, refl, List, [], ◌∷◌, map, true, false, get_or}
use Rattle.std.specs.Int.Bits.{bit_and}
use Rattle.base.specs.Numbers.{number}
use Rattle.base.specs.Codes.{operation_of, code_of}
use Rattle.base.specs.Parsing.{read_mark}
use Rattle.rule.specs.Header.{kind_of, working_of, read_count, read_kinds, read_header}
use Rattle.rule.specs.Expressions.{read_variable, read_word, read_bit, operation_with, expr_with, read_expr}
use Rattle.rule.specs.Blocks.{read_assign, branch_with, statement_with, block_with, block_fuel, read_block}
use Rattle.rule.specs.Rule.{read_rule}
use Rattle.rule.specs.Examples.{r1}
use Rattle.circuit.specs.Gates.{conditions}
use Rattle.circuit.specs.PlainCircuit.{apply_gate, make_expr, assigns_in, assigns, choices, make_statement, make_block, plain_circuit, gates_of}
use Rattle.circuit.specs.Examples.{r2, r7, r8}
use Rattle.base.specs.Bits.{collect}
use Rattle.base.specs.Sets.{excludes}
use Rattle.base.specs.SettingNumbers.{numbers}
use Rattle.circuit_needed.specs.Pass.{preconditions, precondition_sets, rule_preconditions}
use Rattle.circuit_needed.specs.Needed.{wanted_of}

-- the precondition of a rule's gate
abbrev set : List ℕ → ℕ → ℕ
set s g = get_or (rule_preconditions s) g 0

-- example 1, over the 256 settings of eight conditions (document 02, C-17): AAAA.. and 5555.. for gates 3 and 4
pub example_1 : rule_preconditions r1 ≡
    0xFFFFFFFFFFFFFFFFFFFFFFFFFFFFFFFFFFFFFFFFFFFFFFFFFFFFFFFFFFFFFFFF ∷ 0xAAAAAAAAAAAAAAAAAAAAAAAAAAAAAAAAAAAAAAAAAAAAAAAAAAAAAAAAAAAAAAAA
    ∷ 0xFFFFFFFFFFFFFFFFFFFFFFFFFFFFFFFFFFFFFFFFFFFFFFFFFFFFFFFFFFFFFFFF ∷ 0xAAAAAAAAAAAAAAAAAAAAAAAAAAAAAAAAAAAAAAAAAAAAAAAAAAAAAAAAAAAAAAAA
    ∷ 0x5555555555555555555555555555555555555555555555555555555555555555 ∷ 0xFFFFFFFFFFFFFFFFFFFFFFFFFFFFFFFFFFFFFFFFFFFFFFFFFFFFFFFFFFFFFFFF ∷ []
unfolding number kind_of working_of operation_of code_of read_mark read_count read_kinds read_header read_variable read_word read_bit operation_with expr_with read_expr
    read_assign branch_with wanted_of
    statement_with block_with block_fuel read_block read_rule apply_gate make_expr assigns_in assigns choices make_statement make_block plain_circuit conditions collect numbers
    preconditions precondition_sets
example_1 = refl

-- example 6: conditions 0 and 6; gates 4 and 5 are needed where condition 0 is 1, 6 where it is 0, 7 where besides condition 1 is 1
pub example_6_conditions : conditions (gates_of r2) ≡ 0 ∷ 6 ∷ []
unfolding number kind_of operation_of code_of read_mark read_count read_kinds read_header read_variable read_word read_bit operation_with expr_with read_expr read_assign branch_with
    statement_with block_with block_fuel read_block read_rule apply_gate make_expr assigns_in assigns choices make_statement make_block plain_circuit conditions
example_6_conditions = refl

pub example_6 : map (set r2) (4 ∷ 5 ∷ 6 ∷ 7 ∷ []) ≡
    0xAAAAAAAAAAAAAAAAAAAAAAAAAAAAAAAAAAAAAAAAAAAAAAAAAAAAAAAAAAAAAAAA ∷ 0xAAAAAAAAAAAAAAAAAAAAAAAAAAAAAAAAAAAAAAAAAAAAAAAAAAAAAAAAAAAAAAAA
    ∷ 0x5555555555555555555555555555555555555555555555555555555555555555 ∷ 0x4444444444444444444444444444444444444444444444444444444444444444 ∷ []
unfolding number kind_of working_of operation_of code_of read_mark read_count read_kinds read_header read_variable read_word read_bit operation_with expr_with read_expr
    read_assign branch_with wanted_of
    statement_with block_with block_fuel read_block read_rule apply_gate make_expr assigns_in assigns choices make_statement make_block plain_circuit conditions collect numbers
    preconditions precondition_sets
example_6 = refl

-- so 4 and 7 exclude each other, and 5 and 6
pub example_6_excludes : excludes (set r2 4) (set r2 7) ∷ excludes (set r2 5) (set r2 6) ∷ [] ≡ true ∷ true ∷ []
unfolding number kind_of working_of operation_of code_of read_mark read_count read_kinds read_header read_variable read_word read_bit operation_with expr_with read_expr
    read_assign branch_with wanted_of
    statement_with block_with block_fuel read_block read_rule apply_gate make_expr assigns_in assigns choices make_statement make_block plain_circuit conditions collect numbers
    preconditions precondition_sets
example_6_excludes = refl

-- example 7: nothing needs gates 0 to 2
pub example_7 : rule_preconditions r7 ≡ 0 ∷ 0 ∷ 0 ∷ 0xFFFFFFFFFFFFFFFFFFFFFFFFFFFFFFFFFFFFFFFFFFFFFFFFFFFFFFFFFFFFFFFF ∷ []
unfolding number kind_of working_of operation_of code_of read_mark read_count read_kinds read_header read_variable read_word read_bit operation_with expr_with read_expr
    read_assign branch_with wanted_of
    statement_with block_with block_fuel read_block read_rule apply_gate make_expr assigns_in assigns choices make_statement make_block plain_circuit conditions collect numbers
    preconditions precondition_sets
example_7 = refl

-- example 8: gate 5 is needed where condition 0 is 1, gate 9 where condition 1 is 1; a setting that gives both 1 needs both, so they do not exclude each other
pub example_8 : set r8 5 ∷ set r8 9 ∷ bit_and (set r8 5) (set r8 9) ∷ [] ≡
    0xAAAAAAAAAAAAAAAAAAAAAAAAAAAAAAAAAAAAAAAAAAAAAAAAAAAAAAAAAAAAAAAA ∷ 0xCCCCCCCCCCCCCCCCCCCCCCCCCCCCCCCCCCCCCCCCCCCCCCCCCCCCCCCCCCCCCCCC
    ∷ 0x8888888888888888888888888888888888888888888888888888888888888888 ∷ []
unfolding number kind_of working_of operation_of code_of read_mark read_count read_kinds read_header read_variable read_word read_bit operation_with expr_with read_expr
    read_assign branch_with wanted_of
    statement_with block_with block_fuel read_block read_rule apply_gate make_expr assigns_in assigns choices make_statement make_block plain_circuit conditions collect numbers
    preconditions precondition_sets
example_8 = refl

pub example_8_excludes : excludes (set r8 5) (set r8 9) ≡ false
unfolding number kind_of working_of operation_of code_of read_mark read_count read_kinds read_header read_variable read_word read_bit operation_with expr_with read_expr
    read_assign branch_with wanted_of
    statement_with block_with block_fuel read_block read_rule apply_gate make_expr assigns_in assigns choices make_statement make_block plain_circuit conditions collect numbers
    preconditions precondition_sets
example_8_excludes = refl
