-- What operations give: `commutes` says exactly for which of them the order of two arguments does not matter (document 02, C-12), once for all of them;
-- a result is of the kind that its operation gives.
use Rattle.std.specs.Prelude.{ℕ, ◌*◌, ◌≤◌, ◌≡◌, ◌⊎◌, Bool, true, false, not, ◌&&◌, ◌||◌, eqb, ltb}
use Rattle.std.proofs.Common.{sym, ap, ◌∙◌, inl, inr, ne_eqb, add_comm, mul_comm, arith}
use Rattle.std.proofs.Math.Bool.{and_comm, or_comm}
use Rattle.std.proofs.lemmas.Bool.{false≢true}
use Rattle.base.specs.NumberLaws.{word_below}
use Rattle.base.specs.TestLaws.{same?}
use Rattle.base.specs.Codes.{Fits, commutes, entry_of}
use Rattle.base.specs.Results.{bit_of, result_of}
use Rattle.base.specs.declared.Operation.{Operation}
use Rattle.base.specs.declared.Operation.TheVariants.{Sum, Difference, Product, LessThan, Equal, And, Or, Not}

eqb_comm : (a b : ℕ) → eqb a b ≡ eqb b a
eqb_comm a b = go (same? a b)
  where
    go : (a ≡ b) ⊎ (a ≡ b → ⊥) → eqb a b ≡ eqb b a
    go (inl e) = rw e
    go (inr n) = ne_eqb a b n ∙ sym (ne_eqb b a (λ e. n (sym e)))

-- an operation that commutes gives the same in either order
pub result_commutes : (op : Operation) (a b : ℕ) → commutes op ≡ true → result_of op a b ≡ result_of op b a
unfolding result_of
result_commutes Sum a b h = rw (add_comm a b)
result_commutes Difference a b h = absurd (false≢true h)
result_commutes Product a b h = rw (mul_comm a b)
result_commutes LessThan a b h = absurd (false≢true h)
result_commutes Equal a b h = rw (eqb_comm a b)
result_commutes And a b h = ap bit_of (and_comm (eqb a 1) (eqb b 1))
result_commutes Or a b h = ap bit_of (or_comm (eqb a 1) (eqb b 1))
result_commutes Not a b h = absurd (false≢true h)

-- an operation of two arguments that does not commute gives another result on 0 and 1 than on 1 and 0
pub result_ordered : (op : Operation) → (entry_of op).arity ≡ 2 → commutes op ≡ false → result_of op 0 1 ≡ result_of op 1 0 → ⊥
unfolding result_of
result_ordered Sum a h e = false≢true (sym h)
result_ordered Difference a h e = omega (arith, e)
result_ordered Product a h e = false≢true (sym h)
result_ordered LessThan a h e = omega (arith, e)
result_ordered Equal a h e = false≢true (sym h)
result_ordered And a h e = false≢true (sym h)
result_ordered Or a h e = false≢true (sym h)
result_ordered Not a h e = omega (arith, a)

bit_fits : (b : Bool) → bit_of b ≤ 1
bit_fits true = omega arith
bit_fits false = omega arith

-- an operation's result is of the kind that it gives, whatever its arguments
pub result_fits : (op : Operation) (a b : ℕ) → Fits (entry_of op).gives (result_of op a b)
unfolding result_of
result_fits Sum a b = omega arith
result_fits Difference a b = omega arith
result_fits Product a b = word_below (a * b)
result_fits LessThan a b = bit_fits (ltb a b)
result_fits Equal a b = bit_fits (eqb a b)
result_fits And a b = bit_fits (eqb a 1 && eqb b 1)
result_fits Or a b = bit_fits (eqb a 1 || eqb b 1)
result_fits Not a b = bit_fits (not (eqb a 1))
