-- Document 01, "The rule file": kinds and the sizes of words and bits, code bytes and the operation table; "The fused circuit file": the code of an input, the cost of a choice.
use Rattle.std.specs.Prelude.{ℕ, ◌<◌, ◌≤◌, Bool, true, false, ◌&&◌, cond, eqb, leb, ltb}
use Rattle.base.specs.declared.Kind.{Kind}
use Rattle.base.specs.declared.Kind.TheVariants as kind
use Rattle.base.specs.declared.Operation.{Operation}
use Rattle.base.specs.declared.Operation.TheVariants.{Sum, Difference, Product, LessThan, Equal, And, Or, Not}
use Rattle.base.specs.declared.Form.{Form}
use Rattle.base.specs.declared.Form.TheVariants.{End, Assign, Skip, Branch, Variable, Word, Bit, Apply, Unknown}
use Rattle.base.specs.declared.Code.{Code}

abbrev pub same_kind : Kind → Kind → Bool
same_kind kind.Word kind.Word = true
same_kind kind.Word kind.Bit = false
same_kind kind.Bit kind.Word = false
same_kind kind.Bit kind.Bit = true

-- A word is 32 bits, unsigned; a bit is 0 or 1.
abbrev pub Fits : Kind → ℕ → Type 0
Fits kind.Word n = n < 4294967296
Fits kind.Bit n = n ≤ 1

-- an entry of the operation table: kind of the arguments, kind of the result, arity, cost
abbrev pub table_entry : Operation → Kind → Kind → ℕ → ℕ → Code
table_entry op takes gives arity cost = record { form = Apply op; takes = takes; gives = gives; arity = arity; cost = cost }

abbrev pub entry_of : Operation → Code
entry_of Sum = table_entry Sum kind.Word kind.Word 2 0
entry_of Difference = table_entry Difference kind.Word kind.Word 2 0
entry_of Product = table_entry Product kind.Word kind.Word 2 15
entry_of LessThan = table_entry LessThan kind.Word kind.Bit 2 40
entry_of Equal = table_entry Equal kind.Word kind.Bit 2 20
entry_of And = table_entry And kind.Bit kind.Bit 2 1
entry_of Or = table_entry Or kind.Bit kind.Bit 2 1
entry_of Not = table_entry Not kind.Bit kind.Bit 1 0

-- An operation of this table with a cost above 0 is costly.
abbrev pub costly : Operation → Bool
costly op = ltb 0 (entry_of op).cost

-- Document 02, C-12: sum, product, equal, and, or give the same in either order of their arguments; difference and less-than do not (ResultLaws), and not has one.
abbrev pub commutes : Operation → Bool
commutes Sum = true
commutes Difference = false
commutes Product = true
commutes LessThan = false
commutes Equal = true
commutes And = true
commutes Or = true
commutes Not = false

-- the operation of a byte 20 to 27
unfoldable pub operation_of : ℕ → Operation
operation_of b =
    cond (eqb b 0x20) Sum
    (cond (eqb b 0x21) Difference
    (cond (eqb b 0x22) Product
    (cond (eqb b 0x23) LessThan
    (cond (eqb b 0x24) Equal
    (cond (eqb b 0x25) And
    (cond (eqb b 0x26) Or
    Not))))))

-- and back: the byte of an operation
abbrev pub byte_of : Operation → ℕ
byte_of Sum = 0x20
byte_of Difference = 0x21
byte_of Product = 0x22
byte_of LessThan = 0x23
byte_of Equal = 0x24
byte_of And = 0x25
byte_of Or = 0x26
byte_of Not = 0x27

-- a code that is no operation: it takes no argument and costs nothing
abbrev pub plain : Form → Kind → Code
plain form gives = record { form = form; takes = kind.Word; gives = gives; arity = 0; cost = 0 }

-- Statements 00 to 03; expressions 10 variable, 11 word constant, 12 bit constant, else an operation.
unfoldable pub code_of : ℕ → Code
code_of b =
    cond (eqb b 0x00) (plain End kind.Word)
    (cond (eqb b 0x01) (plain Assign kind.Word)
    (cond (eqb b 0x02) (plain Skip kind.Word)
    (cond (eqb b 0x03) (plain Branch kind.Word)
    (cond (eqb b 0x10) (plain Variable kind.Word)
    (cond (eqb b 0x11) (plain Word kind.Word)
    (cond (eqb b 0x12) (plain Bit kind.Bit)
    (cond (leb 0x20 b && leb b 0x27) (entry_of (operation_of b))
    (plain Unknown kind.Word))))))))

-- in a circuit file: 00 a variable's starting value that is a word, 01 one that is a bit
abbrev pub start_code : Kind → ℕ
start_code kind.Word = 0x00
start_code kind.Bit = 0x01

-- and back: the kind that such a code names
unfoldable pub start_kind : ℕ → Kind
start_kind b = cond (eqb b 0x01) kind.Bit kind.Word

-- "Cost of a circuit: operations as above, choice 3"
abbrev pub choice_cost : ℕ
choice_cost = 3
