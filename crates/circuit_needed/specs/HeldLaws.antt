-- Gates read back from quads: each by its code, all of them one after the other, and their cost.
use Rattle.std.specs.Prelude.{ℕ, zero, suc, ◌+◌, ◌*◌, ◌≤◌, ◌<◌, ◌≡◌, refl, List, [], ◌∷◌, ◌++◌, Bool, true, false, cond, ◌&&◌, ◌⊎◌, length, get_or, eqb, leb}
use Rattle.std.proofs.Common.{sym, ap, ◌∙◌, inl, inr, arith, length-append, eq-eqb, ne_eqb}
use Rattle.std.proofs.Math.ListN.{get_or-append}
use Rattle.std.proofs.lemmas.List.{get_or_at}
use Rattle.base.specs.Lists.{◌∈◌}
use Rattle.base.specs.ListLaws.{get_or_upto}
use Rattle.base.specs.TestLaws.{same?}
use Rattle.base.specs.Codes.{plain, entry_of, operation_of, code_of, choice_cost}
use Rattle.base.specs.CodeLaws.{code_unknown}
use Rattle.base.specs.declared.Code.{Code}
use Rattle.base.specs.declared.Kind.TheVariants as kind
use Rattle.base.specs.declared.Form.TheVariants.{End, Assign, Skip, Branch, Variable, Word, Bit, Unknown}
use Rattle.base.specs.declared.Operation.{Operation}
use Rattle.base.specs.declared.Operation.TheVariants.{Sum, Difference, Product, LessThan, Equal, And, Or, Not}
use Rattle.circuit.specs.Gates.{word, choice, gate_at, arguments, Earlier, cost_of, costs}
use Rattle.circuit.specs.CostLaws.{costs_add, costs_most}
use Rattle.circuit_needed.specs.Held.{choice_code, of_form, arguments_of, gate_of, gate_in, gates_in, code_cost, cost_table}

-- what holds of every entry of the table and of every plain code holds of the code of any number
cond_each : (Q : Code → Type 0) (t : Bool) (a b : Code) → Q a → Q b → Q (cond t a b)
cond_each Q true a b p q = p
cond_each Q false a b p q = q

pub record EachCode (Q : Code → Type 0) : Type 0 where
  pub of_entry : (op : Operation) → Q (entry_of op)
  pub of_end : Q (plain End kind.Word)
  pub of_assign : Q (plain Assign kind.Word)
  pub of_skip : Q (plain Skip kind.Word)
  pub of_branch : Q (plain Branch kind.Word)
  pub of_variable : Q (plain Variable kind.Word)
  pub of_word : Q (plain Word kind.Word)
  pub of_bit : Q (plain Bit kind.Bit)
  pub of_unknown : Q (plain Unknown kind.Word)

pub each_code : (Q : Code → Type 0) → EachCode Q → (b : ℕ) → Q (code_of b)
unfolding code_of
each_code Q e b =
    cond_each Q (eqb b 0x00) _ _ e.of_end
    (cond_each Q (eqb b 0x01) _ _ e.of_assign
    (cond_each Q (eqb b 0x02) _ _ e.of_skip
    (cond_each Q (eqb b 0x03) _ _ e.of_branch
    (cond_each Q (eqb b 0x10) _ _ e.of_variable
    (cond_each Q (eqb b 0x11) _ _ e.of_word
    (cond_each Q (eqb b 0x12) _ _ e.of_bit
    (cond_each Q (leb 0x20 b && leb b 0x27) _ _ (e.of_entry (operation_of b)) e.of_unknown)))))))

-- what holds of the entries holds of each operation's
pub each_entry : (Q : Code → Operation → Type 0) → Q (entry_of Sum) Sum → Q (entry_of Difference) Difference → Q (entry_of Product) Product
    → Q (entry_of LessThan) LessThan → Q (entry_of Equal) Equal → Q (entry_of And) And → Q (entry_of Or) Or → Q (entry_of Not) Not → (op : Operation) → Q (entry_of op) op
each_entry Q a b c d e f g h Sum = a
each_entry Q a b c d e f g h Difference = b
each_entry Q a b c d e f g h Product = c
each_entry Q a b c d e f g h LessThan = d
each_entry Q a b c d e f g h Equal = e
each_entry Q a b c d e f g h And = f
each_entry Q a b c d e f g h Or = g
each_entry Q a b c d e f g h Not = h

-- a number that is no byte is no code, as FF is none
pub code_above : (code : ℕ) → 256 ≤ code → code_of 0xFF ≡ code_of code
unfolding code_of
code_above code h =
    sym (code_unknown code (λ e. omega arith) (λ e. omega arith) (λ e. omega arith) (λ e. omega arith) (λ e. omega arith) (λ e. omega arith) (λ e. omega arith)
    (inr (omega arith)))

-- a gate of code 30 is a choice
pub gate_choice : (code a b c : ℕ) → code ≡ choice_code → gate_of code a b c ≡ choice a b c
unfolding gate_of
gate_choice code a b c h = rw (eq-eqb code choice_code h)

pub gate_other : (code a b c : ℕ) → (code ≡ choice_code → ⊥) → gate_of code a b c ≡ of_form (code_of code).form a (arguments_of (code_of code) a b)
unfolding gate_of
gate_other code a b c h = rw (ne_eqb code choice_code h)

-- its arguments, by its code
pub arguments_other : (code a b : ℕ) → arguments (of_form (code_of code).form a (arguments_of (code_of code) a b)) ≡ arguments_of (code_of code) a b
arguments_other code a b = each_code (λ r. arguments (of_form r.form a (arguments_of r a b)) ≡ arguments_of r a b) each code
  where
    each : EachCode (λ r. arguments (of_form r.form a (arguments_of r a b)) ≡ arguments_of r a b)
    each = record {
      of_entry = each_entry (λ r op. arguments (of_form r.form a (arguments_of r a b)) ≡ arguments_of r a b) refl refl refl refl refl refl refl refl;
      of_end = refl;
      of_assign = refl;
      of_skip = refl;
      of_branch = refl;
      of_variable = refl;
      of_word = refl;
      of_bit = refl;
      of_unknown = refl;
    }

-- its cost, by its code
pub cost_code : (code a b c : ℕ) → cost_of (gate_of code a b c) ≡ code_cost code
unfolding gate_of code_cost
cost_code code a b c = go (eqb code choice_code) (each_code (λ r. cost_of (of_form r.form a (arguments_of r a b)) ≡ r.cost) each code)
  where
    each : EachCode (λ r. cost_of (of_form r.form a (arguments_of r a b)) ≡ r.cost)
    each = record {
      of_entry = each_entry (λ r op. cost_of (of_form r.form a (arguments_of r a b)) ≡ r.cost) refl refl refl refl refl refl refl refl;
      of_end = refl;
      of_assign = refl;
      of_skip = refl;
      of_branch = refl;
      of_variable = refl;
      of_word = refl;
      of_bit = refl;
      of_unknown = refl;
    }

    go : (t : Bool) → cost_of (of_form (code_of code).form a (arguments_of (code_of code) a b)) ≡ (code_of code).cost
        → cost_of (cond t (choice a b c) (of_form (code_of code).form a (arguments_of (code_of code) a b))) ≡ cond t choice_cost (code_of code).cost
    go true e = refl
    go false e = e

-- The gates of the quads.

pub gates_length : (quads : List ℕ) (n : ℕ) → length (gates_in quads n) ≡ n
unfolding gates_in
gates_length quads zero = refl
gates_length quads (suc n) = length-append (gates_in quads n) _ ∙ rw (gates_length quads n) (omega arith)

pub gates_at : (quads : List ℕ) (n i : ℕ) → i < n → gate_at (gates_in quads n) i ≡ gate_in quads i
unfolding gates_in
gates_at quads zero i h = absurd (omega arith)
gates_at quads (suc n) i h = go (same? i n) (λ l. gates_at quads n i l)
  where
    go : (i ≡ n) ⊎ (i ≡ n → ⊥) → (i < n → gate_at (gates_in quads n) i ≡ gate_in quads i) → gate_at (gates_in quads n ++ (gate_in quads n ∷ [])) i ≡ gate_in quads i
    go (inl e) ih = rw e (get_or_at (gates_in quads n) (gate_in quads n) [] (word 0) n (gates_length quads n))
    go (inr m) ih = get_or-append (gates_in quads n) _ (word 0) i (rw (gates_length quads n) (omega arith)) ∙ ih (omega arith)

-- the arguments of a gate of the quads come before it
pub earlier_in : (quads : List ℕ) (n : ℕ) → Earlier (gates_in quads n) → (i a : ℕ) → i < n → a ∈ arguments (gate_in quads i) → a < i
earlier_in quads n e i a h m = e i a (rw (gates_at quads n i h) m)

-- one gate more, and its cost
pub costs_more : (quads : List ℕ) (i : ℕ) → costs (gates_in quads (suc i)) ≡ costs (gates_in quads i) + code_cost (get_or quads (4 * i) 0)
unfolding gates_in gate_in
costs_more quads i = costs_add (gates_in quads i) _ ∙ rw
    (cost_code (get_or quads (4 * i) 0) (get_or quads (4 * i + 1) 0) (get_or quads (4 * i + 2) 0) (get_or quads (4 * i + 3) 0))

pub costs_none : (quads : List ℕ) → costs (gates_in quads 0) ≡ 0
unfolding gates_in costs
costs_none quads = refl

pub costs_below : (quads : List ℕ) (i : ℕ) → costs (gates_in quads i) ≤ 40 * i
costs_below quads i = rw (gates_length quads i) at (costs_most (gates_in quads i))

-- of a loop that adds them up: one turn
pub costs_step : (quads : List ℕ) (i n k : ℕ) → n ≡ costs (gates_in quads i) → k ≡ code_cost (get_or quads (4 * i) 0) → n + k ≡ costs (gates_in quads (i + 1))
costs_step quads i n k p q = rw (p, q) (sym (ap (λ (j : ℕ). costs (gates_in quads j)) (omega arith) ∙ costs_more quads i))

-- The costs by the table, and of a code past it.

pub cost_listed : (costs : List ℕ) (code : ℕ) → costs ≡ cost_table → code < 64 → get_or costs code 0 ≡ code_cost code
unfolding cost_table
cost_listed costs code e h = rw e (get_or_upto code_cost 0 64 code h)

pub cost_past : (code : ℕ) → 64 ≤ code → 0 ≡ code_cost code
unfolding code_cost
cost_past code h =
    rw (
      ne_eqb code choice_code (λ e. omega arith),
      code_unknown code (λ e. omega arith) (λ e. omega arith) (λ e. omega arith) (λ e. omega arith) (λ e. omega arith) (λ e. omega arith) (λ e. omega arith)
          (inr (omega arith)),
    ) refl

pub cost_other : (code : ℕ) → (code ≡ choice_code → ⊥) → code_cost code ≡ (code_of code).cost
unfolding code_cost
cost_other code h = rw (ne_eqb code choice_code h)

pub cost_choice : (code : ℕ) → code ≡ choice_code → code_cost code ≡ choice_cost
unfolding code_cost
cost_choice code h = rw (eq-eqb code choice_code h)
