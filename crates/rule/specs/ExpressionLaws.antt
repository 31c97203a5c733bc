-- Reading an expression: by its code, and that reading goes forward.
use Prim.Native.Nat.{ℕ, zero, suc, ◌+◌, ◌-◌, ◌<◌, ◌≤◌}
use Rattle.std.proofs.Common.{arith, sub-one, ap, ◌∙◌}
use Rattle.std.specs.Prelude.{◌≡◌, refl, List, Bool, true, false, length, get_or, ltb, leb, eqb}
use Rattle.std.proofs.Math.Path.{sym}
use borrow.Author.Tests.{le-ltb, lt-ltb, eq-eqb, ne_eqb}
use Rattle.base.specs.Codes.{code_of, entry_of, same_kind}
use Rattle.base.specs.CodeLaws.{code_entry, code_variable}
use Rattle.base.specs.declared.Kind.{Kind}
use Rattle.base.specs.declared.Kind.TheVariants as kind
use Rattle.base.specs.declared.Operation.{Operation}
use Rattle.base.specs.declared.Code.{Code}
use Rattle.base.specs.declared.Form.{Form}
use Rattle.base.specs.declared.Form.TheVariants.{End, Assign, Skip, Branch, Variable, Word, Bit, Apply, Unknown}
use Rattle.base.specs.Parsing.{Parsed, refused, step_of}
use Rattle.base.specs.ParsingLaws.{past_then, refused_then, then_parsed, none_left, some_left, Forward, forward_unless, forward_later, forward_then}
use Rattle.base.specs.Parsing.{Step}
use Rattle.base.specs.Parsing.{Past, Refused}
use Rattle.rule.specs.Header.{variables, kind_at}
use Rattle.rule.specs.Tree.{Expr, two}
use Rattle.rule.specs.Expressions.{read_variable, read_word, read_bit, second_with, arguments_with, operation_with, expr_form, expr_with, read_expr}

-- what reads an argument, with `deep` levels left for the whole
unfoldable pub below : ℕ → List ℕ → Kind → ℕ → Parsed Expr
below zero s = λ takes place. refused 8 place
below (suc deep) s = read_expr deep s

pub expr_is : (deep : ℕ) (s : List ℕ) (want : Kind) (at : ℕ) → read_expr deep s want at ≡ expr_with (below deep s) s want deep at
unfolding read_expr below
expr_is zero s want at = refl
expr_is (suc deep) s want at = refl

pub below_is : (deep : ℕ) (s : List ℕ) → (deep ≡ 0 → ⊥) → below deep s ≡ read_expr (deep - 1) s
unfolding below
below_is zero s h = absurd (h refl)
below_is (suc deep) s h = ap (λ (k : ℕ). read_expr k s) (sym (sub-one (suc deep)))

-- the arguments of an operation, by what reads each
module _ (argument : Kind → ℕ → Parsed Expr) (op : Operation) (at : ℕ) where
  arguments_refused : {k p : ℕ} → Refused k p ≡ step_of (argument (entry_of op).takes at) → Refused k p ≡ step_of (arguments_with argument op at)
  arguments_refused h = refused_then (argument (entry_of op).takes at) _ h

  arguments_one : {n : ℕ} → Past n ≡ step_of (argument (entry_of op).takes at) → (entry_of op).arity ≡ 1 → Past n ≡ step_of (arguments_with argument op at)
  arguments_one h e = past_then (argument (entry_of op).takes at) _ h (λ x. rw (eq-eqb _ _ e))

  arguments_two : {n : ℕ} {r : Step} → Past n ≡ step_of (argument (entry_of op).takes at) → ((entry_of op).arity ≡ 1 → ⊥) → r ≡ step_of (argument (entry_of op).takes n)
      → r ≡ step_of (arguments_with argument op at)
  arguments_two {n} h e g =
      past_then (argument (entry_of op).takes at) _ h
      (λ x. rw (ne_eqb _ _ e) (then_parsed (argument (entry_of op).takes n) (λ y. two op x y) g))

module _ (deep : ℕ) (s : List ℕ) (want : Kind) (at : ℕ) where
  pub expr_short : length s ≤ at → Refused 4 (length s) ≡ step_of (read_expr deep s want at)
  unfolding expr_with
  expr_short h = rw (expr_is deep s want at, le-ltb _ _ h)

  -- c is the code that stands there
  module _ (c : Code) (inside : at < length s) (e : c ≡ code_of (get_or s at 0)) where
    pub expr_as : (f : Form) → c.form ≡ f → read_expr deep s want at ≡ expr_form f s (below deep s) want deep at
    unfolding expr_with
    expr_as f q =
        expr_is deep s want at
        ∙ (rw (← e, lt-ltb _ _ inside) (ap (λ (g : Form). expr_form g s (below deep s) want deep at) q))

    -- the code is an operation's
    module _ (op : Operation) (o : c.form ≡ Apply op) where
      is_entry : c ≡ entry_of op
      is_entry = code_entry (get_or s at 0) c op e o

      gives : same_kind c.gives want ≡ same_kind (entry_of op).gives want
      gives = ap (λ (x : Code). same_kind x.gives want) is_entry

      pub expr_kind : same_kind c.gives want ≡ false → Refused 7 at ≡ step_of (read_expr deep s want at)
      unfolding operation_with
      expr_kind h = rw (expr_as (Apply op) o, sym gives ∙ h)

      module _ (k : same_kind c.gives want ≡ true) where
        pub expr_deep : deep ≡ 0 → Refused 8 at ≡ step_of (read_expr deep s want at)
        unfolding operation_with
        expr_deep z = rw (expr_as (Apply op) o, sym gives ∙ k, none_left deep z)

        module _ (z : deep ≡ 0 → ⊥) where
          pub expr_arguments : read_expr deep s want at ≡ arguments_with (read_expr (deep - 1) s) op (at + 1)
          unfolding operation_with
          expr_arguments =
              expr_as (Apply op) o
              ∙ (rw (sym gives ∙ k, some_left deep z) (ap (λ (g : Kind → ℕ → Parsed Expr). arguments_with g op (at + 1)) (below_is deep s z)))

          first : {r : Step} → r ≡ step_of (read_expr (deep - 1) s c.takes (at + 1)) → r ≡ step_of (read_expr (deep - 1) s (entry_of op).takes (at + 1))
          first h = h ∙ ap (λ (x : Code). step_of (read_expr (deep - 1) s x.takes (at + 1))) is_entry

          pub expr_refused : {n p : ℕ} → Refused n p ≡ step_of (read_expr (deep - 1) s c.takes (at + 1)) → Refused n p ≡ step_of (read_expr deep s want at)
          expr_refused h = arguments_refused (read_expr (deep - 1) s) op (at + 1) (first h) ∙ ap step_of (sym expr_arguments)

          pub expr_one : {n : ℕ} → Past n ≡ step_of (read_expr (deep - 1) s c.takes (at + 1)) → c.arity ≡ 1 → Past n ≡ step_of (read_expr deep s want at)
          expr_one h a = arguments_one (read_expr (deep - 1) s) op (at + 1) (first h) (ap (λ (x : Code). x.arity) (sym is_entry) ∙ a) ∙ ap step_of (sym expr_arguments)

          pub expr_two : {n : ℕ} {r : Step} → Past n ≡ step_of (read_expr (deep - 1) s c.takes (at + 1)) → (c.arity ≡ 1 → ⊥) → r ≡ step_of
              (read_expr (deep - 1) s c.takes n) → r ≡ step_of (read_expr deep s want at)
          expr_two {n} h a g =
              arguments_two (read_expr (deep - 1) s) op (at + 1) (first h) (λ q. a (ap (λ (x : Code). x.arity) is_entry ∙ q))
              (g ∙ ap (λ (x : Code). step_of (read_expr (deep - 1) s x.takes n)) is_entry)
              ∙ ap step_of (sym expr_arguments)

  -- a variable is known by its byte, before its code is asked for
  pub expr_variable : at < length s → get_or s at 0 ≡ 0x10 → read_expr deep s want at ≡ read_variable s want deep at
  expr_variable inside b = expr_as (code_of (get_or s at 0)) inside refl Variable (code_variable (get_or s at 0) b)

-- Reading goes forward.

variable_forward : (s : List ℕ) (want : Kind) (deep at : ℕ) → Forward (read_variable s want deep at) at
unfolding read_variable
variable_forward s want deep at =
    forward_unless (ltb 0 deep) 8 at _ at
    (forward_unless (ltb (at + 1) (length s)) 4 (length s) _ at
    (forward_unless (ltb (get_or s (at + 1) 0) (variables s)) 6 (at + 1) _ at
    (forward_unless (same_kind (kind_at s (get_or s (at + 1) 0)) want) 7 (at + 1) _ at (omega arith))))

word_forward : (s : List ℕ) (want : Kind) (deep at : ℕ) → Forward (read_word s want deep at) at
unfolding read_word
word_forward s want deep at =
    forward_unless (same_kind kind.Word want) 7 at _ at
    (forward_unless (ltb 0 deep) 8 at _ at
    (forward_unless (leb 5 (length s - at)) 4 (length s) _ at (omega arith)))

bit_forward : (s : List ℕ) (want : Kind) (deep at : ℕ) → Forward (read_bit s want deep at) at
unfolding read_bit
bit_forward s want deep at =
    forward_unless (same_kind kind.Bit want) 7 at _ at
    (forward_unless (ltb 0 deep) 8 at _ at
    (forward_unless (ltb (at + 1) (length s)) 4 (length s) _ at
    (forward_unless (leb (get_or s (at + 1) 0) 1) 5 (at + 1) _ at (omega arith))))

module _ (argument : Kind → ℕ → Parsed Expr) (goes : (k : Kind) (a : ℕ) → Forward (argument k a) a) where
  second_forward : (t : Bool) (op : Operation) (x : Expr) (at n : ℕ) → at < n → Forward (second_with t argument op x n) at
  second_forward true op x at n l = l
  second_forward false op x at n l =
      forward_then (argument (entry_of op).takes n) _ at (forward_later (argument (entry_of op).takes n) at n l (goes (entry_of op).takes n)) (λ y m h. h)

  operation_forward : (op : Operation) (want : Kind) (deep at : ℕ) → Forward (operation_with argument op want deep at) at
  unfolding operation_with
  operation_forward op want deep at =
      forward_unless (same_kind (entry_of op).gives want) 7 at _ at
      (forward_unless (ltb 0 deep) 8 at _ at
      (forward_then (argument (entry_of op).takes (at + 1)) _ at
      (forward_later (argument (entry_of op).takes (at + 1)) at (at + 1) (omega arith) (goes (entry_of op).takes (at + 1)))
      (λ x n l. second_forward (eqb (entry_of op).arity 1) op x at n l)))

  form_forward : (f : Form) (s : List ℕ) (want : Kind) (deep at : ℕ) → Forward (expr_form f s argument want deep at) at
  form_forward End s want deep at = tt
  form_forward Assign s want deep at = tt
  form_forward Skip s want deep at = tt
  form_forward Branch s want deep at = tt
  form_forward Variable s want deep at = variable_forward s want deep at
  form_forward Word s want deep at = word_forward s want deep at
  form_forward Bit s want deep at = bit_forward s want deep at
  form_forward (Apply op) s want deep at = operation_forward op want deep at
  form_forward Unknown s want deep at = tt

  with_forward : (s : List ℕ) (want : Kind) (deep at : ℕ) → Forward (expr_with argument s want deep at) at
  unfolding expr_with
  with_forward s want deep at = forward_unless (ltb at (length s)) 4 (length s) _ at (form_forward (code_of (get_or s at 0)).form s want deep at)

-- an expression that was read ends after its code
pub expr_forward : (deep : ℕ) (s : List ℕ) (want : Kind) (at : ℕ) → Forward (read_expr deep s want at) at
unfolding read_expr
expr_forward zero s want at = with_forward (λ k a. refused 8 a) (λ k a. tt) s want 0 at
expr_forward (suc deep) s want at = with_forward (read_expr deep s) (λ k a. expr_forward deep s k a) s want (suc deep) at
