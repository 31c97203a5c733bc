-- Working out an expression over the rule's bytes, by its form: its arguments were read too, and its figure and its end are the direct run's and reading's.
use Rattle.std.specs.Prelude.{ℕ, ◌+◌, ◌-◌, ◌<◌, ◌≡◌, List, get_or}
use Rattle.std.proofs.Common.{sym, ap, subst, ◌∙◌}
use Rattle.std.proofs.Math.Path.{subst⁻¹}
use Rattle.base.specs.Numbers.{number_at}
use Rattle.base.specs.Codes.{code_of, entry_of}
use Rattle.base.specs.CodeLaws.{code_entry}
use Rattle.base.specs.Results.{result_of}
use Rattle.base.specs.declared.Kind.{Kind}
use Rattle.base.specs.declared.Operation.{Operation}
use Rattle.base.specs.declared.Code.{Code}
use Rattle.base.specs.declared.Form.TheVariants.{Variable, Word, Bit, Apply}
use Rattle.base.specs.Parsing.{Parsed, parsed, IsRead}
use Rattle.rule.specs.Tree.{Expr, variable, word, bit, one, two}
use Rattle.rule.specs.Expressions.{arguments_with, read_expr}
use Rattle.rule.specs.FirstByte.{as_variable, as_word, as_bit, as_operation, first_argument, second_argument, arguments_one, arguments_two}
use Rattle.circuit.specs.Running.{figure_of}
use Rattle.circuit.specs.StepLaws.{figure_variable, figure_word, figure_bit, figure_one, figure_two}
use Rattle.run_walk.specs.Walking.{WorkedOut}
use Rattle.run_walk.specs.declared.Value.{Value}

-- c is the code of the expression that was read at `at`
module _ (f : List ℕ) (deep : ℕ) (s : List ℕ) (want : Kind) (at : ℕ) (h : IsRead (read_expr deep s want at)) (c : Code) (e : c ≡ code_of (get_or s at 0)) where
  pub variable_out : c.form ≡ Variable → WorkedOut f (read_expr deep s want at) (record { figure = get_or f (get_or s (at + 1) 0) 0; next = at + 2 })
  variable_out q = record { what = variable (get_or s (at + 1) 0); read = (as_variable deep s want at h c e q).is; is = sym (figure_variable f (get_or s (at + 1) 0)) }

  pub word_out : c.form ≡ Word → {n : ℕ} → n ≡ number_at 4 s (at + 1) → WorkedOut f (read_expr deep s want at) (record { figure = n; next = at + 5 })
  word_out q r = record { what = word (number_at 4 s (at + 1)); read = (as_word deep s want at h c e q).is; is = r ∙ sym (figure_word f (number_at 4 s (at + 1))) }

  pub bit_out : c.form ≡ Bit → WorkedOut f (read_expr deep s want at) (record { figure = get_or s (at + 1) 0; next = at + 2 })
  bit_out q = record { what = bit (get_or s (at + 1) 0); read = (as_bit deep s want at h c e q).is; is = sym (figure_bit f (get_or s (at + 1) 0)) }

  -- an operation: its arguments one level below, each of the kind that it takes
  module _ (op : Operation) (q : c.form ≡ Apply op) where
    abbrev argument : Kind → ℕ → Parsed Expr
    argument = read_expr (deep - 1) s

    is_entry : c ≡ entry_of op
    is_entry = code_entry (get_or s at 0) c op e q

    whole : read_expr deep s want at ≡ arguments_with argument op (at + 1)
    whole = (as_operation deep s want at h c e op q).is

    taken : IsRead (arguments_with argument op (at + 1))
    taken = subst IsRead whole h

    pub level : 0 < deep
    level = (as_operation deep s want at h c e op q).level

    pub first_taken : IsRead (argument c.takes (at + 1))
    first_taken = subst⁻¹ (λ (x : Code). IsRead (argument x.takes (at + 1))) is_entry (first_argument argument op (at + 1) taken)

    module _ (v : Value) (w : WorkedOut f (argument c.takes (at + 1)) v) where
      first : argument (entry_of op).takes (at + 1) ≡ parsed w.what v.next
      first = ap (λ (x : Code). argument x.takes (at + 1)) (sym is_entry) ∙ w.read

      pub one_out : c.arity ≡ 1 → {n : ℕ} → n ≡ result_of op v.figure 0 → WorkedOut f (read_expr deep s want at) (record { figure = n; next = v.next })
      one_out a r = record {
        what = one op w.what;
        read = whole ∙ arguments_one argument op (at + 1) w.what v.next first (ap (λ (x : Code). x.arity) (sym is_entry) ∙ a);
        is = r ∙ ap (λ (k : ℕ). result_of op k 0) w.is ∙ sym (figure_one f op w.what);
      }

      module _ (a : c.arity ≡ 1 → ⊥) where
        more : (entry_of op).arity ≡ 1 → ⊥
        more z = a (ap (λ (x : Code). x.arity) is_entry ∙ z)

        pub second_taken : IsRead (argument c.takes v.next)
        second_taken =
            subst⁻¹ (λ (x : Code). IsRead (argument x.takes v.next)) is_entry
            (second_argument argument op (at + 1) w.what v.next first more taken)

        pub two_out : (u : Value) (z : WorkedOut f (argument c.takes v.next) u) {n : ℕ} → n ≡ result_of op v.figure u.figure
            → WorkedOut f (read_expr deep s want at) (record { figure = n; next = u.next })
        two_out u z r = record {
          what = two op w.what z.what;
          read =
              whole
              ∙ arguments_two argument op (at + 1) w.what v.next first more z.what u.next
              (ap (λ (x : Code). argument x.takes v.next) (sym is_entry) ∙ z.read);
          is = r ∙ (ap (λ (k : ℕ). result_of op k u.figure) w.is ∙ ap (result_of op (figure_of f w.what)) z.is) ∙ sym (figure_two f op w.what z.what);
        }
