-- Document 01, "The rule file": "Expressions are in prefix form, at most 8 deep; a variable or constant alone is 1 deep".
-- The kind wanted and the levels left go down with the reader; `at` is the place of the expression's code.
use Rattle.std.specs.Prelude.{ℕ, zero, suc, ◌+◌, ◌-◌, List, Bool, true, false, length, get_or, ltb, leb, eqb}
use Rattle.base.specs.Numbers.{number_at}
use Rattle.base.specs.Codes.{code_of, entry_of, same_kind}
use Rattle.base.specs.declared.Kind.{Kind}
use Rattle.base.specs.declared.Kind.TheVariants as kind
use Rattle.base.specs.declared.Operation.{Operation}
use Rattle.base.specs.declared.Form.{Form}
use Rattle.base.specs.declared.Form.TheVariants.{End, Assign, Skip, Branch, Variable, Word, Bit, Apply, Unknown}
use Rattle.base.specs.Parsing.{Parsed, parsed, refused, unless, ◌>>=◌}
use Rattle.rule.specs.Header.{variables, kind_at}
use Rattle.rule.specs.Tree.{Expr, variable, word, bit, one, two}

-- 10 variable: its kind is known at its number byte, where 7 lies
unfoldable pub read_variable : List ℕ → Kind → ℕ → ℕ → Parsed Expr
read_variable s want deep at =
    unless (ltb 0 deep) 8 at
    (unless (ltb (at + 1) (length s)) 4 (length s)
    (unless (ltb (get_or s (at + 1) 0) (variables s)) 6 (at + 1)
    (unless (same_kind (kind_at s (get_or s (at + 1) 0)) want) 7 (at + 1)
    (parsed (variable (get_or s (at + 1) 0)) (at + 2)))))

-- 11 and four bytes, a word constant
unfoldable pub read_word : List ℕ → Kind → ℕ → ℕ → Parsed Expr
read_word s want deep at =
    unless (same_kind kind.Word want) 7 at
    (unless (ltb 0 deep) 8 at
    (unless (leb 5 (length s - at)) 4 (length s)
    (parsed (word (number_at 4 s (at + 1))) (at + 5))))

-- 12 and 00 or 01, a bit constant
unfoldable pub read_bit : List ℕ → Kind → ℕ → ℕ → Parsed Expr
read_bit s want deep at =
    unless (same_kind kind.Bit want) 7 at
    (unless (ltb 0 deep) 8 at
    (unless (ltb (at + 1) (length s)) 4 (length s)
    (unless (leb (get_or s (at + 1) 0) 1) 5 (at + 1)
    (parsed (bit (get_or s (at + 1) 0)) (at + 2)))))

-- after its first argument an operation of arity 1 is whole
abbrev pub second_with : Bool → (Kind → ℕ → Parsed Expr) → Operation → Expr → ℕ → Parsed Expr
second_with true argument op x at = parsed (one op x) at
second_with false argument op x at = argument (entry_of op).takes at >>= λ y next. parsed (two op x y) next

abbrev pub arguments_with : (Kind → ℕ → Parsed Expr) → Operation → ℕ → Parsed Expr
arguments_with argument op at =
    argument (entry_of op).takes at >>= λ x next. second_with (eqb (entry_of op).arity 1) argument op x next

-- else an operation and its arguments, each read by `argument`
unfoldable pub operation_with : (Kind → ℕ → Parsed Expr) → Operation → Kind → ℕ → ℕ → Parsed Expr
operation_with argument op want deep at =
    unless (same_kind (entry_of op).gives want) 7 at
    (unless (ltb 0 deep) 8 at
    (arguments_with argument op (at + 1)))

-- by the form of its code: 5 for the code of no expression
abbrev pub expr_form : Form → List ℕ → (Kind → ℕ → Parsed Expr) → Kind → ℕ → ℕ → Parsed Expr
expr_form End s argument want deep at = refused 5 at
expr_form Assign s argument want deep at = refused 5 at
expr_form Skip s argument want deep at = refused 5 at
expr_form Branch s argument want deep at = refused 5 at
expr_form Variable s argument want deep at = read_variable s want deep at
expr_form Word s argument want deep at = read_word s want deep at
expr_form Bit s argument want deep at = read_bit s want deep at
expr_form (Apply op) s argument want deep at = operation_with argument op want deep at
expr_form Unknown s argument want deep at = refused 5 at

unfoldable pub expr_with : (Kind → ℕ → Parsed Expr) → List ℕ → Kind → ℕ → ℕ → Parsed Expr
expr_with argument s want deep at =
    unless (ltb at (length s)) 4 (length s)
    (expr_form (code_of (get_or s at 0)).form s argument want deep at)

-- an expression of the kind wanted, with `deep` levels left; with none no argument is ever read
unfoldable pub read_expr : ℕ → List ℕ → Kind → ℕ → Parsed Expr
read_expr zero s want at = expr_with (λ takes place. refused 8 place) s want 0 at
read_expr (suc deep) s want at = expr_with (read_expr deep s) s want (suc deep) at
