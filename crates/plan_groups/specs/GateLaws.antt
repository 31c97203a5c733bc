-- The rows 27 and 28, told from a gate's code: whether it is costly, and which operation it is.
use Rattle.std.specs.Prelude.{ℕ, ◌≡◌, refl, List, [], ◌∷◌, false, ◌&&◌, eqb, leb, ltb, ◌↔◌, true, Option, Some, None, unwrap_or}
use Rattle.std.proofs.Common.{sym, ap, ◌∙◌, arith, eqb-true, eq-eqb, ne_eqb, leb-true, le-leb}
use Rattle.std.specs.Option.{option_eq}
use Rattle.std.proofs.lemmas.Bool.{eqb-false}
use Rattle.base.specs.Lists.{every}
use Rattle.base.specs.TestLaws.{split, both}
use Rattle.base.specs.Codes.{code_of}
use Rattle.base.specs.CodeLaws.{byte_back}
use Rattle.circuit.specs.Gates.{Gate, Gates, gate_at, cost_of}
use Rattle.circuit_needed.specs.Held.{choice_code, code_at, gate_in}
use Rattle.circuit_needed.specs.QuadLaws.{KindIn, chooses, is_word, is_bit_lem, applies, starts, kind_in_lem, choice_in, word_in, bit_in_lem, applied_in, cost_in}
use Rattle.plan.specs.Groups.{smallest}
use Rattle.plan.specs.Rows.{is_costly, operation_byte, alike}
use Rattle.plan_groups.specs.Tests.{operation_in}

-- 27: a costly gate is one whose code has a cost above 0 in the table of codes; a choice's code is not in it
choice_costs : ltb 0 (code_of choice_code).cost ≡ false
unfolding code_of
choice_costs = refl

-- of a gate that is no choice it is one that costs
by_cost : (quads : List ℕ) (i : ℕ) (k : Gate) → gate_in quads i ≡ k → (code_at quads i ≡ choice_code → ⊥) → is_costly k ≡ ltb 0 (cost_of k)
    → is_costly (gate_in quads i) ≡ ltb 0 (code_of (code_at quads i)).cost
by_cost quads i k e n c = ap is_costly e ∙ c ∙ ap (λ (g : Gate). ltb 0 (cost_of g)) (sym e) ∙ ap (ltb 0) (cost_in quads i n)

pub costly_code : (quads : List ℕ) (i : ℕ) → is_costly (gate_in quads i) ≡ ltb 0 (code_of (code_at quads i)).cost
unfolding is_costly
costly_code quads i = split (eqb (code_at quads i) choice_code) (λ t. chosen (eqb-true _ _ t)) (λ t. other (eqb-false _ _ t) (kind_in_lem quads i))
  where
    chosen : code_at quads i ≡ choice_code → is_costly (gate_in quads i) ≡ ltb 0 (code_of (code_at quads i)).cost
    chosen e = ap is_costly (choice_in quads i e) ∙ sym (ap (λ (x : ℕ). ltb 0 (code_of x).cost) e ∙ choice_costs)

    other : (code_at quads i ≡ choice_code → ⊥) → KindIn quads i → is_costly (gate_in quads i) ≡ ltb 0 (code_of (code_at quads i)).cost
    other n (chooses e) = absurd (n e)
    other n (is_word e) = by_cost quads i _ (word_in quads i e) n refl
    other n (is_bit_lem e) = by_cost quads i _ (bit_in_lem quads i e) n refl
    other n (applies h) = by_cost quads i _ (applied_in quads i h) n refl
    other n (starts _ e) = by_cost quads i _ e n refl

-- 28: an operation's byte is its code, and not 0
pub operation_lem : (quads : List ℕ) (i : ℕ) → operation_byte (gate_in quads i) ≡ unwrap_or (operation_in (code_at quads i)) 0
unfolding operation_in
operation_lem quads i = go (kind_in_lem quads i)
  where
    go : KindIn quads i → operation_byte (gate_in quads i) ≡ unwrap_or (operation_in (code_at quads i)) 0
    go (chooses e) = ap operation_byte (choice_in quads i e) ∙ sym (rw e)
    go (is_word e) = ap operation_byte (word_in quads i e) ∙ sym (rw e)
    go (is_bit_lem e) = ap operation_byte (bit_in_lem quads i e) ∙ sym (rw e)
    go (applies h) =
        ap operation_byte (applied_in quads i h) ∙ byte_back (code_at quads i) h.0 h.1 ∙ sym (rw (le-leb 0x20 _ h.0, le-leb (code_at quads i) 0x27 h.1))
    go (starts n e) =
        ap operation_byte e
        ∙ split (leb 0x20 (code_at quads i) && leb (code_at quads i) 0x27)
        (λ t. let r = both (leb 0x20 (code_at quads i)) _ t in absurd (n (leb-true _ _ r.0, leb-true _ _ r.1)))
        (λ t. rw t)

-- so two codes have the same operation exactly when the bytes are equal
pub operations_same : (a b : ℕ) → option_eq eqb (operation_in a) (operation_in b) ≡ eqb (unwrap_or (operation_in a) 0) (unwrap_or (operation_in b) 0)
unfolding operation_in
operations_same a b =
    split (leb 0x20 a && leb a 0x27)
    (λ t. split (leb 0x20 b && leb b 0x27) (λ u. rw (t, u) refl) (λ u. rw (t, u) (sym (ne_eqb a 0 (some a t)))))
    (λ t. split (leb 0x20 b && leb b 0x27) (λ u. rw (t, u) (sym (ne_eqb 0 b (λ z. some b u (sym z))))) (λ u. rw (t, u) refl))
  where
    some : (c : ℕ) → (leb 0x20 c && leb c 0x27) ≡ true → c ≡ 0 → ⊥
    some c t z = let r = both (leb 0x20 c) _ t in absurd (omega (arith, leb-true 0x20 c r.0))

-- 28 of a group is that test of each member by the first
pub alike_is : (C : Gates) (G : List ℕ) → alike C G ≡ every (λ g. eqb (operation_byte (gate_at C (smallest G))) (operation_byte (gate_at C g))) G
alike_is C [] = refl
alike_is C (m ∷ l) = rw (eq-eqb (operation_byte (gate_at C m)) (operation_byte (gate_at C m)) refl) refl
