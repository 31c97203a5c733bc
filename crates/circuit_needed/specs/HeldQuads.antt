-- Quads that hold a circuit read back as that circuit: so what code gives for the gates of the quads it gives for the plain circuit of a rule.
use Prim.Native.Nat.{ℕ, zero, suc, ◌+◌, ◌*◌, ◌≤◌, ◌<◌}
use Rattle.std.specs.Prelude.{◌≡◌, List, [], ◌∷◌, length, take}
use Rattle.std.proofs.Math.Path.{refl, ap}
use Rattle.std.proofs.Common.{sym, ◌∙◌, add-zero, arith, get_or-append-add, get_or-take, take-suc}
use Rattle.std.proofs.Math.ListN.{get_or, get_or-append}
use Rattle.std.proofs.Math.Seq.{take-length}
use Rattle.base.specs.Codes.{entry_of, operation_of, code_of, byte_of, start_code}
use Rattle.base.specs.declared.Kind.{Kind}
use Rattle.base.specs.declared.Kind.TheVariants as kind
use Rattle.base.specs.declared.Operation.{Operation}
use Rattle.base.specs.declared.Operation.TheVariants.{Sum, Difference, Product, LessThan, Equal, And, Or, Not}
use Rattle.base.specs.Parsing.{parsed}
use Rattle.rule.specs.Header.{kind_at}
use Rattle.rule.specs.Tree.{Block}
use Rattle.rule.specs.Rule.{read_rule}
use Rattle.circuit.specs.Gates.{Gate, start, word, bit, operation, choice, Gates, gate_at}
use Rattle.circuit.specs.Quads.{quad_of, quads_of}
use Rattle.circuit.specs.QuadLaws.{quad_length}
use Rattle.circuit.specs.PlainCircuit.{gates_of, gate_count}
use Rattle.circuit_needed.specs.Held.{gate_of, gate_in, gates_in, ShapedGate, Shaped}
use Rattle.circuit_needed.specs.ShapedLaws.{rule_shaped}

-- The numbers of gate i.

quads_at : (s : List ℕ) (C : Gates) (i k : ℕ) → i < length C → k < 4 → get_or (quads_of s C) (4 * i + k) 0 ≡ get_or (quad_of s (gate_at C i)) k 0
unfolding quads_of
quads_at s [] i k h l = absurd (omega arith)
quads_at s (g ∷ C) zero k h l =
    let e : 4 * 0 + k ≡ k = omega arith in
    rw e (get_or-append (quad_of s g) (quads_of s C) 0 k (rw (quad_length s g) l))
quads_at s (g ∷ C) (suc i) k h l =
    let e : 4 * suc i + k ≡ length (quad_of s g) + (4 * i + k) = rw (quad_length s g) (omega arith) in
    rw e (get_or-append-add (quad_of s g) (quads_of s C) (4 * i + k) 0 ∙ quads_at s C i k (omega arith) l)

-- Each gate reads back.

start_back : (k : Kind) (x : ℕ) → gate_of (start_code k) x 0 0 ≡ start x
unfolding gate_of code_of
start_back kind.Word x = refl
start_back kind.Bit x = refl

pair_back : (op : Operation) (l : List ℕ) → length l ≡ 2 → operation op (get_or l 0 0 ∷ get_or l 1 0 ∷ []) ≡ operation op l
pair_back op [] h = absurd (omega arith)
pair_back op (a ∷ []) h = absurd (omega arith)
pair_back op (a ∷ b ∷ []) h = refl
pair_back op (a ∷ b ∷ c ∷ l) h = absurd (omega arith)

one_back : (op : Operation) (l : List ℕ) → length l ≡ 1 → operation op (get_or l 0 0 ∷ []) ≡ operation op l
one_back op [] h = absurd (omega arith)
one_back op (a ∷ []) h = refl
one_back op (a ∷ b ∷ l) h = absurd (omega arith)

operation_back : (op : Operation) (l : List ℕ) → length l ≡ (entry_of op).arity → gate_of (byte_of op) (get_or l 0 0) (get_or l 1 0) 0 ≡ operation op l
unfolding gate_of code_of operation_of
operation_back Sum l h = pair_back Sum l h
operation_back Difference l h = pair_back Difference l h
operation_back Product l h = pair_back Product l h
operation_back LessThan l h = pair_back LessThan l h
operation_back Equal l h = pair_back Equal l h
operation_back And l h = pair_back And l h
operation_back Or l h = pair_back Or l h
operation_back Not l h = one_back Not l h

-- the gate of a gate's four numbers
gate_back : (s : List ℕ) (g : Gate) → ShapedGate g → gate_of (get_or (quad_of s g) 0 0) (get_or (quad_of s g) 1 0) (get_or (quad_of s g) 2 0) (get_or (quad_of s g) 3 0) ≡ g
unfolding gate_of code_of
gate_back s (start x) h = start_back (kind_at s x) x
gate_back s (word n) h = refl
gate_back s (bit b) h = refl
gate_back s (operation op l) h = operation_back op l h
gate_back s (choice c a b) h = refl

-- All of them.

module _ (s quads : List ℕ) (C : Gates) (shaped : Shaped C) (held : take (4 * length C) quads ≡ quads_of s C) where
  pub number_at_lem : (i k : ℕ) → i < length C → k < 4 → get_or quads (4 * i + k) 0 ≡ get_or (quad_of s (gate_at C i)) k 0
  number_at_lem i k h l =
      sym (get_or-take (4 * length C) quads (4 * i + k) 0 (omega arith)) ∙ ap (λ (r : List ℕ). get_or r (4 * i + k) 0) held ∙ quads_at s C i k h l

  pub gate_held : (i : ℕ) → i < length C → gate_in quads i ≡ gate_at C i
  unfolding gate_in
  gate_held i h =
      let zero-at : get_or quads (4 * i) 0 ≡ get_or (quad_of s (gate_at C i)) 0 0 = ap (λ (k : ℕ). get_or quads k 0) (sym (add-zero (4 * i))) ∙ number_at_lem i 0 h (omega arith) in
      rw (zero-at, number_at_lem i 1 h (omega arith), number_at_lem i 2 h (omega arith), number_at_lem i 3 h (omega arith)) (gate_back s (gate_at C i) (shaped i))

  first_held : (n : ℕ) → n ≤ length C → gates_in quads n ≡ take n C
  unfolding gates_in
  first_held zero h = refl
  first_held (suc n) h = rw (first_held n (omega arith), gate_held n h) (sym (take-suc C n (word 0) h))

  pub gates_held : gates_in quads (length C) ≡ C
  gates_held = first_held (length C) (omega arith) ∙ take-length C

-- quads that hold a rule's plain circuit read back as it
pub rule_held : (s : List ℕ) (b : Block) (n : ℕ) → read_rule s ≡ parsed b n → (quads : List ℕ)
    → take (4 * gate_count s) quads ≡ quads_of s (gates_of s) → gates_in quads (gate_count s) ≡ gates_of s
rule_held s b n read quads held = gates_held s quads (gates_of s) (rule_shaped s b n read) held
