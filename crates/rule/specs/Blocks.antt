-- Document 01, "The rule file": "A block is statements closed by 00. A branch is itself a block, so statements and blocks nest."
-- `nest` is how many ifs may still nest; `at` is the place of the statement's code.
use Rattle.std.specs.Prelude.{ℕ, zero, suc, ◌+◌, ◌-◌, List, Bool, true, false, length, get_or, ltb, eqb}
use Rattle.base.specs.Codes.{code_of}
use Rattle.base.specs.declared.Kind.TheVariants as kind
use Rattle.base.specs.declared.Form.{Form}
use Rattle.base.specs.declared.Form.TheVariants.{End, Assign, Skip, Branch, Variable, Word, Bit, Apply, Unknown}
use Rattle.base.specs.Parsing.{Parsed, parsed, refused, unless, ◌>>=◌}
use Rattle.rule.specs.Limits.{deepest}
use Rattle.rule.specs.Header.{variables, kind_at}
use Rattle.rule.specs.Tree.{Statement, assign, skip, branch, Block, end, then}
use Rattle.rule.specs.Expressions.{read_expr}

-- 01 variable expression: the expression is of the variable's kind
unfoldable pub read_assign : List ℕ → ℕ → Parsed Statement
read_assign s at =
    unless (ltb (at + 1) (length s)) 4 (length s)
    (unless (ltb (get_or s (at + 1) 0) (variables s)) 6 (at + 1)
    (read_expr deepest s (kind_at s (get_or s (at + 1) 0)) (at + 2) >>= λ e next.
    parsed (assign (get_or s (at + 1) 0) e) next))

-- 03 expression block block, each block read by `block`
unfoldable pub branch_with : (ℕ → ℕ → Parsed Block) → List ℕ → ℕ → ℕ → Parsed Statement
branch_with block s nest at =
    unless (ltb 0 nest) 8 at
    (read_expr deepest s kind.Bit (at + 1) >>= λ c next.
    block (nest - 1) next >>= λ x next.
    block (nest - 1) next >>= λ y next.
    parsed (branch c x y) next)

-- by the form of its code: 5 for the code of no statement
abbrev pub statement_form : Form → (ℕ → ℕ → Parsed Block) → List ℕ → ℕ → ℕ → Parsed Statement
statement_form End block s nest at = refused 5 at
statement_form Assign block s nest at = read_assign s at
statement_form Skip block s nest at = parsed skip (at + 1)
statement_form Branch block s nest at = branch_with block s nest at
statement_form Variable block s nest at = refused 5 at
statement_form Word block s nest at = refused 5 at
statement_form Bit block s nest at = refused 5 at
statement_form (Apply op) block s nest at = refused 5 at
statement_form Unknown block s nest at = refused 5 at

unfoldable pub statement_with : (ℕ → ℕ → Parsed Block) → List ℕ → ℕ → ℕ → Parsed Statement
statement_with block s nest at = statement_form (code_of (get_or s at 0)).form block s nest at

-- closed here, or a statement and the rest of the block
abbrev pub closed_or : Bool → (ℕ → ℕ → Parsed Block) → List ℕ → ℕ → ℕ → Parsed Block
closed_or true block s nest at = parsed end (at + 1)
closed_or false block s nest at =
    statement_with block s nest at >>= λ x next.
    block nest next >>= λ b next.
    parsed (then x b) next

unfoldable pub block_with : (ℕ → ℕ → Parsed Block) → List ℕ → ℕ → ℕ → Parsed Block
block_with block s nest at =
    unless (ltb at (length s)) 4 (length s)
    (closed_or (eqb (get_or s at 0) 0x00) block s nest at)

-- with fuel for each statement on the way: where it ends, so have the bytes
unfoldable pub block_fuel : ℕ → List ℕ → ℕ → ℕ → Parsed Block
block_fuel zero s nest at = refused 4 (length s)
block_fuel (suc fuel) s nest at = block_with (block_fuel fuel s) s nest at

-- a statement takes a byte or more, so as much fuel as the file has bytes suffices, and more changes nothing
unfoldable pub read_block : List ℕ → ℕ → ℕ → Parsed Block
read_block s nest at = block_fuel (suc (length s)) s nest at

unfoldable pub read_statement : List ℕ → ℕ → ℕ → Parsed Statement
read_statement s nest at = statement_with (read_block s) s nest at
