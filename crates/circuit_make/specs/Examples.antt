-- Examples of document 01, "Examples": the quads of the plain circuits of R1 and of example 7, computed from the definitions.
use Rattle.std.specs.Prelude.{◌≡◌, refl, [], ◌∷◌}
use Rattle.base.specs.Numbers.{number}
use Rattle.base.specs.Codes.{operation_of, code_of}
use Rattle.base.specs.Parsing.{read_mark}
use Rattle.rule.specs.Header.{kind_of, read_count, read_kinds, read_header}
use Rattle.rule.specs.Expressions.{read_variable, read_word, read_bit, operation_with, expr_with, read_expr}
use Rattle.rule.specs.Blocks.{read_assign, branch_with, statement_with, block_with, block_fuel, read_block}
use Rattle.rule.specs.Rule.{read_rule}
use Rattle.rule.specs.Examples.{r1}
use Rattle.circuit.specs.Examples.{r7}
use Rattle.circuit.specs.PlainCircuit.{apply_gate, make_expr, assigns_in, assigns, choices, make_statement, make_block, plain_circuit, gates_of}
use Rattle.circuit.specs.Quads.{quads_of}

-- R1: a bit and two words; gates 3 and 4 products, 5 a choice
pub quads_r1 : quads_of r1 (gates_of r1) ≡
    0x01 ∷ 0 ∷ 0 ∷ 0 ∷ 0x00 ∷ 1 ∷ 0 ∷ 0 ∷ 0x00 ∷ 2 ∷ 0 ∷ 0
    ∷ 0x22 ∷ 1 ∷ 2 ∷ 0 ∷ 0x22 ∷ 2 ∷ 2 ∷ 0 ∷ 0x30 ∷ 0 ∷ 3 ∷ 4 ∷ []
unfolding number kind_of operation_of code_of read_mark read_count read_kinds read_header read_variable read_word read_bit operation_with expr_with read_expr read_assign branch_with
    statement_with block_with block_fuel read_block read_rule apply_gate make_expr assigns_in assigns choices make_statement make_block plain_circuit quads_of
quads_r1 = refl

-- example 7's rule: a word, two products and the constant 7
pub quads_r7 : quads_of r7 (gates_of r7) ≡ 0x00 ∷ 0 ∷ 0 ∷ 0 ∷ 0x22 ∷ 0 ∷ 0 ∷ 0 ∷ 0x22 ∷ 0 ∷ 1 ∷ 0 ∷ 0x11 ∷ 7 ∷ 0 ∷ 0 ∷ []
unfolding number kind_of operation_of code_of read_mark read_count read_kinds read_header read_variable read_word read_bit operation_with expr_with read_expr read_assign branch_with
    statement_with block_with block_fuel read_block read_rule apply_gate make_expr assigns_in assigns choices make_statement make_block plain_circuit quads_of
quads_r7 = refl
