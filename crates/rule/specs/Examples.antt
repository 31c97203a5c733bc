-- Document 01, "Examples": those that reading decides, computed from the definitions.
use Rattle.std.specs.Prelude.{ℕ, zero, suc, ◌≡◌, refl, List, [], ◌∷◌, ◌++◌, map, set, take, drop}
use Rattle.base.specs.Numbers.{number}
use Rattle.base.specs.Codes.{operation_of, code_of}
use Rattle.base.specs.declared.Operation.TheVariants.{Product}
use Rattle.base.specs.Parsing.{parsed, step_of, read_mark}
use Rattle.base.specs.Answers.{success, refusal, answer_of}
use Rattle.base.specs.declared.Answer.{Answer}
use Rattle.rule.specs.Header.{kind_of, read_count, read_kinds, read_header}
use Rattle.rule.specs.Tree.{variable, two, assign, branch, Block, end, then}
use Rattle.rule.specs.Expressions.{read_variable, read_word, read_bit, operation_with, expr_with, read_expr}
use Rattle.rule.specs.Blocks.{read_assign, branch_with, statement_with, block_with, block_fuel, read_block}
use Rattle.rule.specs.Rule.{read_rule}
use Rattle.rule.specs.Format.{expr_bytes, statement_bytes, block_bytes, rule_bytes}
use Rattle.rule.specs.Standing.{whole, InBlock, in_assign, in_first}

-- the rule R1
abbrev pub r1 : List ℕ
r1 =
    0x52 ∷ 0x55 ∷ 0x4C ∷ 0x00 ∷ 0x01 ∷ 0x03 ∷ 0x01 ∷ 0x00 ∷ 0x00 ∷ 0x03 ∷ 0x10 ∷ 0x00 ∷ 0x01 ∷ 0x01 ∷ 0x22 ∷ 0x10 ∷ 0x01 ∷ 0x10 ∷ 0x02 ∷ 0x00 ∷
    0x01 ∷ 0x01 ∷ 0x22 ∷ 0x10 ∷ 0x02 ∷ 0x10 ∷ 0x02 ∷ 0x00 ∷ 0x00 ∷ []

-- a rule of one word variable
abbrev word_rule : List ℕ → List ℕ
word_rule block = 0x52 ∷ 0x55 ∷ 0x4C ∷ 0x00 ∷ 0x01 ∷ 0x01 ∷ 0x00 ∷ block

-- a rule of one bit variable
abbrev bit_rule : List ℕ → List ℕ
bit_rule block = 0x52 ∷ 0x55 ∷ 0x4C ∷ 0x00 ∷ 0x01 ∷ 0x01 ∷ 0x01 ∷ block

-- sums of v0, d + 1 deep
abbrev sums : ℕ → List ℕ
sums zero = 0x10 ∷ 0x00 ∷ []
sums (suc d) = 0x20 ∷ sums d ++ (0x10 ∷ 0x00 ∷ [])

-- v0 := sums, d + 1 deep
abbrev pub deep : ℕ → List ℕ
deep d = word_rule (0x01 ∷ 0x00 ∷ sums d ++ (0x00 ∷ []))

-- ifs on v0, d deep, and the closing 00
abbrev ifs : ℕ → List ℕ
ifs zero = 0x00 ∷ []
ifs (suc d) = 0x03 ∷ 0x10 ∷ 0x00 ∷ ifs d ++ (0x00 ∷ 0x00 ∷ [])

abbrev pub nests : ℕ → List ℕ
nests d = bit_rule (ifs d)

-- what reading answers
abbrev reads : List ℕ → Answer
reads s = answer_of (step_of (read_rule s))

-- what R1 says
abbrev r1_tree : Block
r1_tree =
    then (branch (variable 0) (then (assign 1 (two Product (variable 1) (variable 2))) end) (then (assign 1 (two Product (variable 2) (variable 2))) end)) end

-- its file, by the format
r1_written : r1 ≡ rule_bytes (0x01 ∷ 0x00 ∷ 0x00 ∷ []) r1_tree
unfolding expr_bytes statement_bytes block_bytes
r1_written = refl

-- the product of its first block stands in its block after 5 bytes and before 10
r1_product : InBlock (two Product (variable 1) (variable 2)) r1_tree (take 5 (drop 9 r1)) (drop 19 r1)
unfolding expr_bytes statement_bytes block_bytes
r1_product = in_first (in_assign whole)

r1_read : read_rule r1 ≡ parsed r1_tree 29
unfolding number kind_of operation_of code_of read_mark read_count read_kinds read_header read_variable read_word read_bit operation_with expr_with read_expr read_assign branch_with
    statement_with block_with block_fuel read_block read_rule
r1_read = refl

-- example 4: R1 cut by one byte; one 00 more; byte 11 made 03, made 01; byte 14 made 28, made 23
example_4 : map reads (take 28 r1 ∷ (r1 ++ (0x00 ∷ [])) ∷ set r1 11 0x03 ∷ set r1 11 0x01 ∷ set r1 14 0x28 ∷ set r1 14 0x23 ∷ [])
    ≡ refusal 4 28 ∷ refusal 9 29 ∷ refusal 6 11 ∷ refusal 7 11 ∷ refusal 5 14 ∷ refusal 7 14 ∷ []
unfolding number kind_of operation_of code_of read_mark read_count read_kinds read_header read_variable read_word read_bit operation_with expr_with read_expr read_assign branch_with
    statement_with block_with block_fuel read_block read_rule
example_4 = refl

-- example 10, what reading decides of it: 8 deep accepted, 9 deep 8; with document 02's C-17, 8 nested accepted, 9 nested 8
example_10 : map reads (deep 7 ∷ deep 8 ∷ nests 8 ∷ nests 9 ∷ [])
    ≡ success 0 0 0 0 0 ∷ refusal 8 17 ∷ success 0 0 0 0 0 ∷ refusal 8 31 ∷ []
unfolding number kind_of operation_of code_of read_mark read_count read_kinds read_header read_variable read_word read_bit operation_with expr_with read_expr read_assign branch_with
    statement_with block_with block_fuel read_block read_rule
example_10 = refl
