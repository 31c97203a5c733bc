-- The order of an operation's two arguments: of one that commutes every gate of a rule has the lower-numbered first (document 02, C-12).
use Rattle.std.specs.Prelude.{ℕ, ◌≤◌, ◌≡◌, true, List, [], ◌∷◌, ltb}
use Rattle.std.proofs.Common.{arith, sym, ap, ◌∙◌, true≢false, ltb-true, ltb-false}
use Rattle.base.specs.TestLaws.{split}
use Rattle.base.specs.Codes.{commutes}
use Rattle.base.specs.declared.Operation.{Operation}
use Rattle.base.specs.Parsing.{parsed}
use Rattle.rule.specs.Tree.{Block}
use Rattle.rule.specs.Rule.{read_rule}
use Rattle.circuit.specs.Gates.{Gate, operation, gate_at}
use Rattle.circuit.specs.PlainCircuit.{apply_gate, gates_of}
use Rattle.circuit.proofs.ApplyLaws.{apply_is}
use Rattle.circuit.proofs.EachGateLaws.{rule_gates}

-- whatever operation of two arguments the gate is, where it commutes the first is no higher than the second
abbrev Lower : Gate → Type 0
Lower k = (op : Operation) (x y : ℕ) → k ≡ operation op (x ∷ y ∷ []) → commutes op ≡ true → x ≤ y

apply_lower : (o : Operation) (a b : ℕ) → Lower (apply_gate o a b)
apply_lower o a b op x y e c =
    split (commutes o)
    (λ t. split (ltb b a)
    (λ u. let f : operation o (b ∷ a ∷ []) ≡ operation op (x ∷ y ∷ []) = rw (t, u) at (sym (apply_is o a b) ∙ e) in
    let p : b ≡ x = cc in
    let q : a ≡ y = cc in
    omega (arith, ltb-true b a u))
    (λ u. let f : operation o (a ∷ b ∷ []) ≡ operation op (x ∷ y ∷ []) = rw (t, u) at (sym (apply_is o a b) ∙ e) in
    let p : a ≡ x = cc in
    let q : b ≡ y = cc in
    omega (arith, ltb-false b a u)))
    (λ t. let f : operation o (a ∷ b ∷ []) ≡ operation op (x ∷ y ∷ []) = rw t at (sym (apply_is o a b) ∙ e) in
    let p : o ≡ op = cc in
    absurd (true≢false (sym c ∙ ap commutes (sym p) ∙ t)))

pub rule_lower : (s : List ℕ) (b : Block) (n : ℕ) → read_rule s ≡ parsed b n → (g : ℕ) → Lower (gate_at (gates_of s) g)
rule_lower s b n read =
    rule_gates Lower s b n read
    (record {
      of_start = λ v l op x y e c. let z : ◌≡◌ {A = ℕ} 0 1 = cc in absurd (omega arith);
      of_word = λ n op x y e c. let z : ◌≡◌ {A = ℕ} 0 1 = cc in absurd (omega arith);
      of_bit = λ n op x y e c. let z : ◌≡◌ {A = ℕ} 0 1 = cc in absurd (omega arith);
      of_one = λ o a l op x y e c. let z : ◌≡◌ {A = ℕ} 0 1 = cc in absurd (omega arith);
      of_two = λ o a b l. apply_lower o a b;
      of_choice = λ a b d op x y e c. let z : ◌≡◌ {A = ℕ} 0 1 = cc in absurd (omega arith);
    })
