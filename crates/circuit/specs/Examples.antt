-- Document 01, "Examples": those that the direct run and the plain circuit decide, computed from the definitions.
use Rattle.std.specs.Prelude.{ℕ, zero, suc, ◌≡◌, refl, List, [], ◌∷◌, map, length}
use Rattle.base.specs.Numbers.{number}
use Rattle.base.specs.Codes.{operation_of, code_of}
use Rattle.base.specs.Results.{result_of}
use Rattle.base.specs.declared.Operation.TheVariants.{Sum, Difference, Product, LessThan}
use Rattle.base.specs.Parsing.{read_mark}
use Rattle.rule.specs.Header.{kind_of, read_count, read_kinds, read_header}
use Rattle.rule.specs.Expressions.{read_variable, read_word, read_bit, operation_with, expr_with, read_expr}
use Rattle.rule.specs.Blocks.{read_assign, branch_with, statement_with, block_with, block_fuel, read_block}
use Rattle.rule.specs.Rule.{read_rule}
use Rattle.rule.specs.Examples.{r1}
use Rattle.circuit.specs.Running.{figure_of, run_statement, run_block, run_rule}
use Rattle.circuit.specs.Gates.{start, word, operation, choice, figure_at, conditions, costs}
use Rattle.circuit.specs.PlainCircuit.{apply_gate, make_expr, assigns_in, assigns, choices, make_statement, make_block, plain_circuit, gates_of, outputs_of, cost_before}

-- the rule R2, variables bit, word, word, bit: if v0 then v3 := v1 × v1 < v2 else (if v1 < v2 then v1 := v1 × v2)
abbrev pub r2 : List ℕ
r2 =
    0x52 ∷ 0x55 ∷ 0x4C ∷ 0x00 ∷ 0x01 ∷ 0x04 ∷ 0x01 ∷ 0x00 ∷ 0x00 ∷ 0x01 ∷ 0x03 ∷ 0x10 ∷ 0x00
    ∷ 0x01 ∷ 0x03 ∷ 0x23 ∷ 0x22 ∷ 0x10 ∷ 0x01 ∷ 0x10 ∷ 0x01 ∷ 0x10 ∷ 0x02 ∷ 0x00
    ∷ 0x03 ∷ 0x23 ∷ 0x10 ∷ 0x01 ∷ 0x10 ∷ 0x02 ∷ 0x01 ∷ 0x01 ∷ 0x22 ∷ 0x10 ∷ 0x01 ∷ 0x10 ∷ 0x02 ∷ 0x00 ∷ 0x00 ∷ 0x00 ∷ 0x00 ∷ []

-- example 7's rule: one word, v0 := (v0 × v0) × v0, then v0 := 7
abbrev pub r7 : List ℕ
r7 =
    0x52 ∷ 0x55 ∷ 0x4C ∷ 0x00 ∷ 0x01 ∷ 0x01 ∷ 0x00 ∷ 0x01 ∷ 0x00 ∷ 0x22 ∷ 0x22 ∷ 0x10 ∷ 0x00 ∷ 0x10 ∷ 0x00 ∷ 0x10 ∷ 0x00
    ∷ 0x01 ∷ 0x00 ∷ 0x11 ∷ 0x00 ∷ 0x00 ∷ 0x00 ∷ 0x07 ∷ 0x00 ∷ []

-- example 8's rule, three words: if v0 < 5 then v1 := v0 × v0; if 5 < v0 then v2 := v0 × v0
abbrev pub r8 : List ℕ
r8 =
    0x52 ∷ 0x55 ∷ 0x4C ∷ 0x00 ∷ 0x01 ∷ 0x03 ∷ 0x00 ∷ 0x00 ∷ 0x00
    ∷ 0x03 ∷ 0x23 ∷ 0x10 ∷ 0x00 ∷ 0x11 ∷ 0x00 ∷ 0x00 ∷ 0x00 ∷ 0x05 ∷ 0x01 ∷ 0x01 ∷ 0x22 ∷ 0x10 ∷ 0x00 ∷ 0x10 ∷ 0x00 ∷ 0x00 ∷ 0x00
    ∷ 0x03 ∷ 0x23 ∷ 0x11 ∷ 0x00 ∷ 0x00 ∷ 0x00 ∷ 0x05 ∷ 0x10 ∷ 0x00 ∷ 0x01 ∷ 0x02 ∷ 0x22 ∷ 0x10 ∷ 0x00 ∷ 0x10 ∷ 0x00 ∷ 0x00 ∷ 0x00 ∷ 0x00 ∷ []

-- example 10's rules: one bit, n times if not v0 then v0 := v0, so n conditions
abbrev switches : ℕ → List ℕ
switches zero = 0x00 ∷ []
switches (suc n) = 0x03 ∷ 0x27 ∷ 0x10 ∷ 0x00 ∷ 0x01 ∷ 0x00 ∷ 0x10 ∷ 0x00 ∷ 0x00 ∷ 0x00 ∷ switches n

abbrev pub r10 : ℕ → List ℕ
r10 n = 0x52 ∷ 0x55 ∷ 0x4C ∷ 0x00 ∷ 0x01 ∷ 0x01 ∷ 0x01 ∷ switches n

-- the figures of the plain circuit's outputs
abbrev circuit_runs : List ℕ → List ℕ → List ℕ
circuit_runs s inputs = map (figure_at inputs (gates_of s)) (outputs_of s)

-- example 1: gates 3 and 4 products, 5 a choice
pub example_1 : plain_circuit r1 ≡
    record {
      gates = start 0 ∷ start 1 ∷ start 2 ∷ operation Product (1 ∷ 2 ∷ []) ∷ operation Product (2 ∷ 2 ∷ []) ∷ choice 0 3 4 ∷ [];
      present = 0 ∷ 5 ∷ 2 ∷ [];
    }
unfolding number kind_of operation_of code_of read_mark read_count read_kinds read_header read_variable read_word read_bit operation_with expr_with read_expr read_assign branch_with
    statement_with block_with block_fuel read_block read_rule apply_gate make_expr assigns_in assigns choices make_statement make_block plain_circuit
example_1 = refl

-- cost before fusing: two products and a choice
pub r1_cost : cost_before r1 ≡ 33
unfolding number kind_of operation_of code_of read_mark read_count read_kinds read_header read_variable read_word read_bit operation_with expr_with read_expr read_assign branch_with
    statement_with block_with block_fuel read_block read_rule apply_gate make_expr assigns_in assigns choices make_statement make_block plain_circuit costs
r1_cost = refl

-- example 2: inputs 1, 6, 7 and 0, 6, 7, run directly and by the circuit
pub example_2 : map (run_rule r1) ((1 ∷ 6 ∷ 7 ∷ []) ∷ (0 ∷ 6 ∷ 7 ∷ []) ∷ []) ≡ (1 ∷ 42 ∷ 7 ∷ []) ∷ (0 ∷ 49 ∷ 7 ∷ []) ∷ []
unfolding number kind_of operation_of code_of read_mark read_count read_kinds read_header read_variable read_word read_bit operation_with expr_with read_expr read_assign branch_with
    statement_with block_with block_fuel read_block read_rule result_of figure_of run_statement run_block run_rule
example_2 = refl

pub example_2_circuit : map (circuit_runs r1) ((1 ∷ 6 ∷ 7 ∷ []) ∷ (0 ∷ 6 ∷ 7 ∷ []) ∷ []) ≡ (1 ∷ 42 ∷ 7 ∷ []) ∷ (0 ∷ 49 ∷ 7 ∷ []) ∷ []
unfolding number kind_of operation_of code_of read_mark read_count read_kinds read_header read_variable read_word read_bit operation_with expr_with read_expr read_assign branch_with
    statement_with block_with block_fuel read_block read_rule apply_gate make_expr assigns_in assigns choices make_statement make_block plain_circuit result_of figure_at
example_2_circuit = refl

-- example 6: 11 gates; products 4 and 7, comparisons 5 and 6
pub example_6 : plain_circuit r2 ≡
    record {
      gates =
          start 0 ∷ start 1 ∷ start 2 ∷ start 3 ∷ operation Product (1 ∷ 1 ∷ []) ∷ operation LessThan (4 ∷ 2 ∷ []) ∷ operation LessThan (1 ∷ 2 ∷ [])
          ∷ operation Product (1 ∷ 2 ∷ []) ∷ choice 6 7 1 ∷ choice 0 1 8 ∷ choice 0 5 3 ∷ [];
      present = 0 ∷ 9 ∷ 2 ∷ 10 ∷ [];
    }
unfolding number kind_of operation_of code_of read_mark read_count read_kinds read_header read_variable read_word read_bit operation_with expr_with read_expr read_assign branch_with
    statement_with block_with block_fuel read_block read_rule apply_gate make_expr assigns_in assigns choices make_statement make_block plain_circuit
example_6 = refl

-- example 7: gates 1 and 2 products, which nothing needs; gate 2 takes gate 0 first (C-12)
pub example_7 : plain_circuit r7 ≡
    record { gates = start 0 ∷ operation Product (0 ∷ 0 ∷ []) ∷ operation Product (0 ∷ 1 ∷ []) ∷ word 7 ∷ []; present = 3 ∷ [] }
unfolding number kind_of operation_of code_of read_mark read_count read_kinds read_header read_variable read_word read_bit operation_with expr_with read_expr read_assign branch_with
    statement_with block_with block_fuel read_block read_rule apply_gate make_expr assigns_in assigns choices make_statement make_block plain_circuit
example_7 = refl

-- example 8: gates 5 and 9 products
pub example_8 : plain_circuit r8 ≡
    record {
      gates =
          start 0 ∷ start 1 ∷ start 2 ∷ word 5 ∷ operation LessThan (0 ∷ 3 ∷ []) ∷ operation Product (0 ∷ 0 ∷ []) ∷ choice 4 5 1
          ∷ word 5 ∷ operation LessThan (7 ∷ 0 ∷ []) ∷ operation Product (0 ∷ 0 ∷ []) ∷ choice 8 9 2 ∷ [];
      present = 0 ∷ 6 ∷ 10 ∷ [];
    }
unfolding number kind_of operation_of code_of read_mark read_count read_kinds read_header read_variable read_word read_bit operation_with expr_with read_expr read_assign branch_with
    statement_with block_with block_fuel read_block read_rule apply_gate make_expr assigns_in assigns choices make_statement make_block plain_circuit
example_8 = refl

-- example 9: 4294967295 + 1 = 0; 0 − 1 = 4294967295; 65536 × 65536 = 0
pub example_9 : result_of Sum 4294967295 1 ∷ result_of Difference 0 1 ∷ result_of Product 65536 65536 ∷ [] ≡ 0 ∷ 4294967295 ∷ 0 ∷ []
unfolding result_of
example_9 = refl

-- example 10, what the plain circuit counts of it: eight conditions and nine
pub example_10 : map (λ n. length (conditions (gates_of (r10 n)))) (8 ∷ 9 ∷ []) ≡ 8 ∷ 9 ∷ []
unfolding number kind_of operation_of code_of read_mark read_count read_kinds read_header read_variable read_word read_bit operation_with expr_with read_expr read_assign branch_with
    statement_with block_with block_fuel read_block read_rule apply_gate make_expr assigns_in assigns choices make_statement make_block plain_circuit conditions
example_10 = refl
