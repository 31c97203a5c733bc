-- Document 01, "The rule file": 52 55 4C ("RUL"), version 00 01, one byte V (1 to 32), V kind bytes (00 word, 01 bit). Document 02, C-13: 02 working word, 03 working bit.
use Rattle.std.specs.Prelude.{ℕ, zero, suc, ◌+◌, ◌/◌, ◌%◌, ◌≤◌, List, [], ◌∷◌, length, get_or, Bool, not, cond, eqb, ltb, leb}
use Rattle.base.specs.Lists.{keep, upto}
use Rattle.base.specs.declared.Kind.{Kind}
use Rattle.base.specs.declared.Kind.TheVariants as kind
use Rattle.base.specs.Parsing.{Parsed, parsed, unless, ◌>>=◌, read_mark}
use Rattle.rule.specs.Limits.{most_variables, last_kind}

-- "RUL" and the version
abbrev pub mark : List ℕ
mark = 0x52 ∷ 0x55 ∷ 0x4C ∷ 0x00 ∷ 0x01 ∷ []

-- What a kind byte says is told here, and asked by every layer above. It is 01 for a bit, and 02 more for a working variable, which holds "only a scrap of working":
-- its figure is no result. Every other variable is a result variable.
unfoldable pub kind_of : ℕ → Kind
kind_of b = cond (eqb (b % 2) 1) kind.Bit kind.Word

unfoldable pub working_of : ℕ → Bool
working_of b = eqb (b / 2 % 2) 1

-- V, the kind of variable x and whether it is a working one, as the file gives them
abbrev pub variables : List ℕ → ℕ
variables s = get_or s 5 0

abbrev pub kind_at : List ℕ → ℕ → Kind
kind_at s x = kind_of (get_or s (6 + x) 0)

abbrev pub working_at : List ℕ → ℕ → Bool
working_at s x = working_of (get_or s (6 + x) 0)

-- the result variables, rising
abbrev pub result_variables : List ℕ → List ℕ
result_variables s = keep (λ x. not (working_at s x)) (upto (variables s))

-- the file has a kind byte for every variable
abbrev pub HasKinds : List ℕ → Type 0
HasKinds s = 6 + variables s ≤ length s

-- V
unfoldable pub read_count : List ℕ → ℕ → Parsed ℕ
read_count s at =
    unless (ltb 0 (get_or s at 0)) 3 at
    (unless (leb (get_or s at 0) most_variables) 3 at
    (parsed (get_or s at 0) (at + 1)))

-- n kind bytes
unfoldable pub read_kinds : ℕ → List ℕ → ℕ → Parsed (Unit {0})
read_kinds zero s at = parsed tt at
read_kinds (suc n) s at =
    unless (ltb at (length s)) 4 (length s)
    (unless (leb (get_or s at 0) last_kind) 3 at
    (read_kinds n s (at + 1)))

-- all that stands before the block
unfoldable pub read_header : List ℕ → Parsed (Unit {0})
read_header s = read_mark 2 mark s 0 >>= λ _ at. read_count s at >>= λ v at. read_kinds v s at
