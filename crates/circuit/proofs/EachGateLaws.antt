-- What holds of whatever gate is made holds of every gate of a rule's plain circuit: the one induction over making. So gates 0 to V−1 are the variables' starting values,
-- and no later gate is one.
use Rattle.std.specs.Prelude.{ℕ, ◌≤◌, ◌<◌, ◌≡◌, ◌⊎◌, ltb, length, get_or}
use Rattle.std.proofs.Common.{zero-add, arith, sym, ap, ◌∙◌, inl, inr, ltb-true, ltb-false}
use mathlib.Core.List.{List, [], ◌∷◌, ◌++◌, map}
use Rattle.std.proofs.lemmas.List.{length-map}
use Rattle.std.proofs.Math.ListN.{get_or-append, get_or-eq_default}
use Rattle.base.specs.Lists.{upto}
use Rattle.base.specs.ListLaws.{length_from}
use Rattle.base.specs.TestLaws.{split}
use Rattle.base.specs.Codes.{entry_of}
use Rattle.base.specs.declared.Kind.{Kind}
use Rattle.base.specs.declared.Operation.{Operation}
use Rattle.base.specs.Parsing.{parsed}
use Rattle.rule.specs.Header.{variables, kind_at}
use Rattle.rule.specs.Tree.{Expr, variable, word, bit, one, two, Statement, assign, skip, branch, Block, end, then}
use Rattle.rule.specs.Rule.{read_rule}
use Rattle.circuit.specs.Gates.{Gate, start, operation, choice, Gates, gate_at}
use Rattle.circuit.specs.Gates as gate
use Rattle.rule.specs.Kinds.{Typed, TypedStatement, TypedBlock}
use Rattle.circuit.specs.PlainCircuit.{Making, apply_gate, make_expr, choose, choices, assigned_in, as_before, make_statement, make_block, condition_made, first_made, second_made, starts, gates_of}
use Rattle.circuit.specs.PlainLaws.{extends_length, block_extends}
use Rattle.circuit.proofs.ApplyLaws.{apply_cases}
use Rattle.circuit.specs.EarlierLaws.{gate_add}
use Rattle.rule.proofs.FoundRuleLaws.{read_typed}
use Rattle.circuit.proofs.StartLaws.{start_at, read_plain}

module _ (P : Gate → Type 0) where
  -- P holds of whatever gate is made for v variables: a starting value of one of them, a constant, an operation of as many arguments
  -- as the table says, two of them in the order that `apply_gate` gives, a choice
  pub record OfMade (v : ℕ) : Type 0 where
    pub of_start : (x : ℕ) → x < v → P (start x)
    pub of_word : (n : ℕ) → P (gate.word n)
    pub of_bit : (b : ℕ) → P (gate.bit b)
    pub of_one : (op : Operation) (a : ℕ) → (entry_of op).arity ≡ 1 → P (operation op (a ∷ []))
    pub of_two : (op : Operation) (a b : ℕ) → (entry_of op).arity ≡ 2 → P (apply_gate op a b)
    pub of_choice : (c a b : ℕ) → P (choice c a b)

  -- of any arguments, as many as the table says: so in either order
  module _ (h : (op : Operation) (l : List ℕ) → length l ≡ (entry_of op).arity → P (operation op l)) where
    pub any_one : (op : Operation) (a : ℕ) → (entry_of op).arity ≡ 1 → P (operation op (a ∷ []))
    any_one op a e = h op (a ∷ []) (sym e)

    pub any_two : (op : Operation) (a b : ℕ) → (entry_of op).arity ≡ 2 → P (apply_gate op a b)
    any_two op a b e = apply_cases P op a b (h op (a ∷ b ∷ []) (sym e)) (λ c. h op (b ∷ a ∷ []) (sym e))

  -- P holds of every gate
  abbrev pub EachGate : Gates → Type 0
  EachGate C = (i : ℕ) → P (gate_at C i)

  -- and of every gate from `low` on
  abbrev EachFrom : ℕ → Gates → Type 0
  EachFrom low C = (i : ℕ) → low ≤ i → P (gate_at C i)

  each_add : (low : ℕ) (C : Gates) (k : Gate) → EachFrom low C → P k → EachFrom low (C ++ (k ∷ []))
  each_add low C k h g i l = go (gate_add C k i)
    where
      go : (gate_at (C ++ (k ∷ [])) i ≡ gate_at C i) ⊎ ((i ≡ length C) × (gate_at (C ++ (k ∷ [])) i ≡ k)) → P (gate_at (C ++ (k ∷ [])) i)
      go (inl e) = rw e (h i l)
      go (inr (e, f)) = rw f g

  -- a block makes no starting value, so of however few of these, n, P is known to hold
  module _ (low n v : ℕ) (kinds : ℕ → Kind) (o : OfMade n) where
    choices_each : (c : ℕ) (p q l : List ℕ) (m : Making) → EachFrom low m.gates → EachFrom low (choices c p q l m).gates
    unfolding choices
    choices_each c p q [] m h = h
    choices_each c p q (x ∷ l) m h =
        choices_each c p q l (choose c p q x m) (each_add low m.gates (choice c (get_or p x 0) (get_or q x 0)) h (o.of_choice c (get_or p x 0) (get_or q x 0)))

    expr_each : (e : Expr) (k : Kind) → Typed v kinds e k → (p : List ℕ) (C : Gates) → EachFrom low C → EachFrom low (make_expr e p C).gates
    unfolding make_expr
    expr_each (variable x) k t p C h = h
    expr_each (word n) k t p C h = each_add low C (gate.word n) h (o.of_word n)
    expr_each (bit b) k t p C h = each_add low C (gate.bit b) h (o.of_bit b)
    expr_each (one op e) k (a, g, t) p C h =
        let m = make_expr e p C in
        each_add low m.gates (operation op (m.place ∷ [])) (expr_each e _ t p C h) (o.of_one op m.place a)
    expr_each (two op d e) k (a, g, t, u) p C h =
        let m = make_expr d p C in
        let n = make_expr e p m.gates in
        each_add low n.gates (apply_gate op m.place n.place) (expr_each e _ u p m.gates (expr_each d _ t p C h)) (o.of_two op m.place n.place a)

    mutual
      unfolding make_statement

      statement_each : (t : Statement) → TypedStatement v kinds t → (m : Making) → EachFrom low m.gates → EachFrom low (make_statement t m).gates
      statement_each (assign x e) (l, t) m h = expr_each e _ t m.present m.gates h
      statement_each skip t m h = h
      statement_each (branch c b d) (t, u, w) m h =
          choices_each (condition_made c m).place (first_made c b m).present (second_made c b d m).present (assigned_in b d (length m.present))
          (as_before m (second_made c b d m).gates)
          (block_each d w (as_before m (first_made c b m).gates)
          (block_each b u (as_before m (condition_made c m).gates) (expr_each c _ t m.present m.gates h)))

      block_each : (b : Block) → TypedBlock v kinds b → (m : Making) → EachFrom low m.gates → EachFrom low (make_block b m).gates
      block_each end t m h = h
      block_each (then s b) (t, u) m h = block_each b u (make_statement s m) (statement_each s t m h)

  -- past the starting values there is no gate yet
  starts_past : (v : ℕ) → P (gate.word 0) → EachFrom v (starts v).gates
  starts_past v h j l = rw (get_or-eq_default (map start (upto v)) (gate.word 0) {n = j} (rw (length-map, length_from 0 v) l)) h

  starts_each : (v : ℕ) → OfMade v → EachGate (starts v).gates
  starts_each v o j =
      split (ltb j v) (λ t. let l = ltb-true j v t in rw (start_at 0 v j l, zero-add) (o.of_start j l))
      (λ t. starts_past v (o.of_word 0) j (ltb-false j v t))

  -- what holds of whatever gate is made holds of every gate of a rule that is read
  pub rule_gates : (s : List ℕ) (b : Block) (n : ℕ) → read_rule s ≡ parsed b n → OfMade (variables s) → EachGate (gates_of s)
  rule_gates s b n read o i =
      rw (gates_of, read_plain s b n read)
      (block_each 0 (variables s) (variables s) (kind_at s) o b (read_typed s b n read) (starts (variables s)) (λ j _. starts_each (variables s) o j) i (omega arith))

  -- and what holds of whatever gate is made, starting values apart, of every gate past these
  rule_past : (s : List ℕ) (b : Block) (n : ℕ) → read_rule s ≡ parsed b n → OfMade 0 → (i : ℕ) → variables s ≤ i → P (gate_at (gates_of s) i)
  rule_past s b n read o =
      rw (gates_of, read_plain s b n read)
      (block_each (variables s) 0 (variables s) (kind_at s) o b (read_typed s b n read) (starts (variables s)) (starts_past (variables s) (o.of_word 0)))

-- of v variables: a starting value is a variable's
abbrev pub StartGate : ℕ → Gate → Type 0
StartGate v (start x) = x < v
StartGate v (gate.word n) = Unit {0}
StartGate v (gate.bit b) = Unit {0}
StartGate v (operation op l) = Unit {0}
StartGate v (choice c a b) = Unit {0}

abbrev pub Starting : ℕ → Gates → Type 0
Starting v C = EachGate (StartGate v) C

-- no starting value
abbrev pub NotStart : Gate → Type 0
NotStart (start x) = ⊥
NotStart (gate.word n) = Unit {0}
NotStart (gate.bit b) = Unit {0}
NotStart (operation op l) = Unit {0}
NotStart (choice c a b) = Unit {0}

module _ (s : List ℕ) (b : Block) (n : ℕ) (read : read_rule s ≡ parsed b n) where
  -- every starting value is a variable's
  pub rule_starting : Starting (variables s) (gates_of s)
  rule_starting =
      rule_gates (StartGate (variables s)) s b n read
      (record {
        of_start = λ x h. h;
        of_word = λ n. tt;
        of_bit = λ b. tt;
        of_one = λ op a e. tt;
        of_two = any_two (StartGate (variables s)) (λ op l e. tt);
        of_choice = λ c a b. tt;
      })

  -- gates 0 to V−1 are the variables' starting values
  pub rule_start : (x : ℕ) → x < variables s → gate_at (gates_of s) x ≡ start x
  rule_start x h =
      let e = block_extends b (starts (variables s)) in
      rw (gates_of, read_plain s b n read, e.grown)
      (get_or-append (map start (upto (variables s))) e.more (gate.word 0) x (rw (length-map, length_from 0 (variables s)) h)
      ∙ start_at 0 (variables s) x h ∙ ap start (omega arith))

  -- no later gate is a starting value
  pub rule_no_start : (i : ℕ) → variables s ≤ i → NotStart (gate_at (gates_of s) i)
  rule_no_start =
      rule_past NotStart s b n read
      (record {
        of_start = λ x h. omega arith;
        of_word = λ n. tt;
        of_bit = λ b. tt;
        of_one = λ op a e. tt;
        of_two = any_two NotStart (λ op l e. tt);
        of_choice = λ c a b. tt;
      })

  -- there are at least as many gates as variables
  pub rule_gates_many : variables s ≤ length (gates_of s)
  rule_gates_many =
      rw (gates_of, read_plain s b n read)
      (omega (arith, extends_length (block_extends b (starts (variables s))), length-map (upto (variables s)) start, length_from 0 (variables s)))
