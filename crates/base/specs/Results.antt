-- Document 01, "The rule file": what the operations of the table give.
use Rattle.std.specs.Prelude.{ℕ, Bool, true, false, ◌&&◌, ◌||◌, not, List, ltb, eqb, get_or}
use Rattle.base.specs.Numbers.{sum_of, difference_of, product_of}
use Rattle.base.specs.declared.Operation.{Operation}
use Rattle.base.specs.declared.Operation.TheVariants.{Sum, Difference, Product, LessThan, Equal, And, Or, Not}

abbrev pub bit_of : Bool → ℕ
bit_of true = 1
bit_of false = 0

-- a bit's figure is 1
abbrev pub is_one : ℕ → Bool
is_one n = eqb n 1

-- the result on the arguments' figures; an operation of one argument ignores the second
unfoldable pub result_of : Operation → ℕ → ℕ → ℕ
result_of Sum a b = sum_of a b
result_of Difference a b = difference_of a b
result_of Product a b = product_of a b
result_of LessThan a b = bit_of (ltb a b)
result_of Equal a b = bit_of (eqb a b)
result_of And a b = bit_of (eqb a 1 && eqb b 1)
result_of Or a b = bit_of (eqb a 1 || eqb b 1)
result_of Not a b = bit_of (not (eqb a 1))

-- an operation on the list of its arguments' figures: one of one argument has no second
abbrev pub result_on : Operation → List ℕ → ℕ
result_on op l = result_of op (get_or l 0 0) (get_or l 1 0)
