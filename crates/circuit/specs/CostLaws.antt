-- Costs: those of joined lists add up, and no gate costs more than a comparison.
use Rattle.std.specs.Prelude.{ℕ, ◌+◌, ◌*◌, ◌≤◌, ◌≡◌, [], ◌∷◌, ◌++◌, length}
use Rattle.std.proofs.Common.{sym, ap, ◌∙◌, zero-add, add_assoc, arith}
use Rattle.base.specs.Codes.{entry_of}
use Rattle.base.specs.declared.Operation.{Operation}
use Rattle.base.specs.declared.Operation.TheVariants.{Sum, Difference, Product, LessThan, Equal, And, Or, Not}
use Rattle.circuit.specs.Gates.{Gate, start, word, bit, operation, choice, Gates, cost_of, costs}

pub costs_append : (B C : Gates) → costs (B ++ C) ≡ costs B + costs C
unfolding costs
costs_append [] C = sym (zero-add _)
costs_append (k ∷ B) C = ap (λ (n : ℕ). cost_of k + n) (costs_append B C) ∙ sym (add_assoc (cost_of k) (costs B) (costs C))

-- one gate more adds its cost
pub costs_add : (C : Gates) (k : Gate) → costs (C ++ (k ∷ [])) ≡ costs C + cost_of k
unfolding costs
costs_add C k = costs_append C (k ∷ []) ∙ ap (λ (n : ℕ). costs C + n) (omega arith)

operation_most : (op : Operation) → (entry_of op).cost ≤ 40
operation_most Sum = omega arith
operation_most Difference = omega arith
operation_most Product = omega arith
operation_most LessThan = omega arith
operation_most Equal = omega arith
operation_most And = omega arith
operation_most Or = omega arith
operation_most Not = omega arith

pub cost_most : (k : Gate) → cost_of k ≤ 40
cost_most (start x) = omega arith
cost_most (word n) = omega arith
cost_most (bit b) = omega arith
cost_most (operation op l) = operation_most op
cost_most (choice c a b) = omega arith

pub costs_most : (C : Gates) → costs C ≤ 40 * length C
unfolding costs
costs_most [] = omega arith
costs_most (k ∷ C) = omega (arith, cost_most k, costs_most C)
