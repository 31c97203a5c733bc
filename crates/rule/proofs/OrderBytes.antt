-- C-12 on bytes (document 02): two files that differ by `10 x 10 y` against `10 y 10 x` after the code of an operation that commutes.
use Rattle.std.specs.Prelude.{ℕ, ◌≡◌, List, ◌∷◌, ◌++◌, true}
use Rattle.std.proofs.Common.{sym, ap, subst}
use Rattle.base.specs.Codes.{byte_of, commutes}
use Rattle.base.specs.declared.Operation.{Operation}
use Rattle.rule.specs.Tree.{variable, two, Block}
use Rattle.rule.specs.Format.{expr_bytes, header_bytes, rule_bytes, WellFormed}
use Rattle.rule.specs.OnlyOrder.{turned, OnlyOrder}
use Rattle.rule.specs.Standing.{InBlock}
use Rattle.rule.specs.StandingLaws.{block_split, block_turned}
use Rattle.rule.proofs.OrderLaws.{rules_order}

-- the file of a rule in which such an operation stands
pub standing_file : (kinds : List ℕ) (b : Block) (op : Operation) (x y : ℕ) (pre post : List ℕ) → InBlock (two op (variable x) (variable y)) b pre post
    → header_bytes kinds ++ (pre ++ (byte_of op ∷ 0x10 ∷ x ∷ 0x10 ∷ y ∷ post)) ≡ rule_bytes kinds b
unfolding expr_bytes
standing_file kinds b op x y pre post i = ap (λ (l : List ℕ). header_bytes kinds ++ l) (sym (block_split i))

-- it and the one with the two variables the other way round differ only in that order; so both are read (`both_read`)
pub order_bytes : (kinds : List ℕ) (b : Block) → WellFormed kinds b → (op : Operation) (x y : ℕ) → commutes op ≡ true
    → (pre post : List ℕ) → InBlock (two op (variable x) (variable y)) b pre post
    → OnlyOrder (header_bytes kinds ++ (pre ++ (byte_of op ∷ 0x10 ∷ x ∷ 0x10 ∷ y ∷ post))) (header_bytes kinds ++ (pre ++ (byte_of op ∷ 0x10 ∷ y ∷ 0x10 ∷ x ∷ post)))
order_bytes kinds b w op x y c pre post i =
    let r = block_turned (turned c) i in
    subst (λ (s : List ℕ). OnlyOrder s (header_bytes kinds ++ (pre ++ (byte_of op ∷ 0x10 ∷ y ∷ 0x10 ∷ x ∷ post)))) (sym (standing_file kinds b op x y pre post i))
    (subst (OnlyOrder (rule_bytes kinds b)) (sym (standing_file kinds r.0 op y x pre post r.2)) (rules_order kinds b r.0 w r.1))
