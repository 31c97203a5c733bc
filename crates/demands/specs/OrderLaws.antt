-- Which operations commute, by their codes; of one that does, a gate's first argument is not the higher-numbered (document 02, C-12).
use Rattle.std.specs.Prelude.{ℕ, ◌≤◌, ◌≡◌, refl, true, List, [], ◌∷◌}
use Rattle.base.specs.Lists.{elem}
use Rattle.base.specs.Codes.{byte_of, commutes}
use Rattle.base.specs.declared.Operation.{Operation}
use Rattle.base.specs.declared.Operation.TheVariants.{Sum, Difference, Product, LessThan, Equal, And, Or, Not}
use Rattle.base.specs.Parsing.{IsRead}
use Rattle.base.specs.ParsingLaws.{is_read}
use Rattle.rule.specs.Rule.{read_rule}
use Rattle.circuit.specs.Gates.{operation, gate_at}
use Rattle.circuit.specs.PlainCircuit.{gates_of}
use Rattle.circuit.proofs.LowerLaws.{rule_lower}

pub commuting : (op : Operation) → commutes op ≡ elem (byte_of op) (0x20 ∷ 0x22 ∷ 0x24 ∷ 0x25 ∷ 0x26 ∷ [])
commuting Sum = refl
commuting Difference = refl
commuting Product = refl
commuting LessThan = refl
commuting Equal = refl
commuting And = refl
commuting Or = refl
commuting Not = refl

pub lower_first : (s : List ℕ) → IsRead (read_rule s) → (g a b : ℕ) (op : Operation) → gate_at (gates_of s) g ≡ operation op (a ∷ b ∷ [])
    → commutes op ≡ true → a ≤ b
lower_first s h g a b op e c = let r = is_read (read_rule s) h in rule_lower s r.0 r.1 r.2 g op a b e c
