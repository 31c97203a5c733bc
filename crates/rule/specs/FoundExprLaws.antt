-- What reading finds, expressions: what was read is typed, not too deep, and its bytes stand in the file from its first place to the place after it.
use Prim.Native.Nat.{ℕ, zero, suc, ◌+◌, ◌-◌, ◌≤◌, ◌<◌}
use native.Mathlib.Omega.{arith}
use Rattle.std.specs.Prelude.{◌≡◌, Bool, true, false, ltb, leb, eqb, get_or}
use Rattle.std.proofs.Math.Path.{refl, sym, ap}
use Rattle.std.proofs.Common.{◌∙◌, ⊎_elim}
use mathlib.Core.List.{List, ◌∷◌, ◌++◌, append_assoc}
use borrow.Author.Tests.{ltb-true, leb-true, eqb-true, eqb-false}
use Rattle.std.proofs.Math.ListN.{length, drop}
use Rattle.base.specs.Numbers.{number_at, bytes_of, Bytes}
use Rattle.base.specs.NumberLaws.{number_small, number_back}
use Rattle.base.specs.ListLaws.{drop_one, drop_two}
use Rattle.base.specs.Codes.{code_of, entry_of, byte_of, same_kind}
use Rattle.base.specs.CodeLaws.{same_kind_lem, one_or_two, Opens, code_opens}
use Rattle.base.specs.declared.Kind.{Kind}
use Rattle.base.specs.declared.Kind.TheVariants as kind
use Rattle.base.specs.declared.Operation.{Operation}
use Rattle.base.specs.declared.Form.{Form}
use Rattle.base.specs.declared.Form.TheVariants as form
use Rattle.base.specs.Parsing.{Parsed, refused}
use Rattle.base.specs.ParsingLaws.{Finds, found, none, finds_unless, finds_then}
use Rattle.rule.specs.Header.{variables, kind_at}
use Rattle.rule.specs.Tree.{Expr, one, two}
use Rattle.rule.specs.Expressions.{read_variable, read_word, read_bit, second_with, operation_with, expr_form, expr_with, read_expr}
use Rattle.rule.specs.Kinds.{Typed, WordsFit}
use Rattle.rule.specs.Format.{expr_bytes, depth}

-- an operation that has not one argument has two
arity_two : (op : Operation) → ((entry_of op).arity ≡ 1 → ⊥) → (entry_of op).arity ≡ 2
arity_two op h = ⊎_elim (λ e. absurd (h e)) (λ e. e) (one_or_two op)

-- what is found of an expression that was read at `at`, with `deep` levels left, up to n
pub record ExprFound (s : List ℕ) (want : Kind) (deep at : ℕ) (e : Expr) (n : ℕ) : Type 0 where
  pub typed : Typed (variables s) (kind_at s) e want
  pub words : Bytes s → WordsFit e want
  pub shallow : depth e ≤ deep
  pub bytes : Bytes s → drop at s ≡ expr_bytes e ++ drop n s

module _ (s : List ℕ) where
  -- a reader of expressions finds them so
  abbrev FindsExpr : ℕ → (Kind → ℕ → Parsed Expr) → Type 0
  FindsExpr deep argument = (k : Kind) (at : ℕ) → Finds (ExprFound s k deep at) (argument k at)

  of_variable : (want : Kind) (deep at : ℕ) → get_or s at 0 ≡ 0x10 → Finds (ExprFound s want deep at) (read_variable s want deep at)
  unfolding read_variable depth expr_bytes
  of_variable want deep at c =
      finds_unless (ltb 0 deep) 8 at _
      (λ d. finds_unless (ltb (at + 1) (length s)) 4 (length s) _
      (λ i. finds_unless (ltb (get_or s (at + 1) 0) (variables s)) 6 (at + 1) _
      (λ x. finds_unless (same_kind (kind_at s (get_or s (at + 1) 0)) want) 7 (at + 1) _
      (λ k. found (record {
        typed = (ltb-true _ _ x, same_kind_lem _ _ k);
        words = λ b. tt;
        shallow = ltb-true _ _ d;
        bytes = λ b. drop_two s at 0x10 (ltb-true _ _ i) c;
      })))))

  of_word : (want : Kind) (deep at : ℕ) → at < length s → get_or s at 0 ≡ 0x11 → Finds (ExprFound s want deep at) (read_word s want deep at)
  unfolding read_word depth expr_bytes
  of_word want deep at l c =
      finds_unless (same_kind kind.Word want) 7 at _
      (λ k. finds_unless (ltb 0 deep) 8 at _
      (λ d. finds_unless (leb 5 (length s - at)) 4 (length s) _
      (λ i. let inside : at + 1 + 4 ≤ length s = omega (arith, leb-true 5 (length s - at) i) in
      let q : at + 1 + 4 ≡ at + 5 = omega arith in
      found (record {
        typed = same_kind_lem _ _ k;
        words = λ b. number_small 4 s (at + 1) b inside;
        shallow = ltb-true _ _ d;
        bytes = λ b. drop_one s at 0x11 l c ∙ ap (λ (r : List ℕ). 0x11 ∷ r)
            (number_back 4 s (at + 1) b inside ∙ ap (λ (n : ℕ). bytes_of 4 (number_at 4 s (at + 1)) ++ drop n s) q);
      }))))

  of_bit : (want : Kind) (deep at : ℕ) → get_or s at 0 ≡ 0x12 → Finds (ExprFound s want deep at) (read_bit s want deep at)
  unfolding read_bit depth expr_bytes
  of_bit want deep at c =
      finds_unless (same_kind kind.Bit want) 7 at _
      (λ k. finds_unless (ltb 0 deep) 8 at _
      (λ d. finds_unless (ltb (at + 1) (length s)) 4 (length s) _
      (λ i. finds_unless (leb (get_or s (at + 1) 0) 1) 5 (at + 1) _
      (λ x. found (record {
        typed = (leb-true _ _ x, same_kind_lem _ _ k);
        words = λ b. tt;
        shallow = ltb-true _ _ d;
        bytes = λ b. drop_two s at 0x12 (ltb-true _ _ i) c;
      })))))

  -- an operation, from its arguments, each read with `level` levels left
  module _ (op : Operation) (want : Kind) (level deep at : ℕ) (up : level < deep) (k : (entry_of op).gives ≡ want) (here : drop at s ≡ byte_of op ∷ drop (at + 1) s) where
    is_one_lem : (x : Expr) (n : ℕ) → (entry_of op).arity ≡ 1 → ExprFound s (entry_of op).takes level (at + 1) x n → ExprFound s want deep at (one op x) n
    unfolding depth expr_bytes
    is_one_lem x n a r =
        record {
          typed = (a, k, r.typed);
          words = r.words;
          shallow = omega (arith, r.shallow);
          bytes = λ b. here ∙ ap (λ (l : List ℕ). byte_of op ∷ l) (r.bytes b);
        }

    is_two : (x y : Expr) (n m : ℕ) → (entry_of op).arity ≡ 2 → ExprFound s (entry_of op).takes level (at + 1) x n → ExprFound s (entry_of op).takes level n y m
        → ExprFound s want deep at (two op x y) m
    unfolding depth expr_bytes
    is_two x y n m a r q =
        record {
          typed = (a, k, r.typed, q.typed);
          words = λ b. (r.words b, q.words b);
          shallow = omega (arith, r.shallow, q.shallow);
          bytes = λ b. here ∙ ap (λ (l : List ℕ). byte_of op ∷ l)
              (r.bytes b ∙ ap (λ (l : List ℕ). expr_bytes x ++ l) (q.bytes b) ∙ sym (append_assoc (expr_bytes x) (expr_bytes y) (drop m s)));
        }

    of_second : (argument : Kind → ℕ → Parsed Expr) → FindsExpr level argument → (t : Bool) → eqb (entry_of op).arity 1 ≡ t → (x : Expr) (n : ℕ)
        → ExprFound s (entry_of op).takes level (at + 1) x n → Finds (ExprFound s want deep at) (second_with t argument op x n)
    of_second argument g true t x n r = found (is_one_lem x n (eqb-true _ _ t) r)
    of_second argument g false t x n r =
        finds_then (argument (entry_of op).takes n) _ (g (entry_of op).takes n) (λ y m q. found (is_two x y n m (arity_two op (eqb-false _ _ t)) r q))

  module _ (want : Kind) (level deep at : ℕ) (up : 0 < deep → level < deep) (inside : at < length s) (argument : Kind → ℕ → Parsed Expr)
      (g : FindsExpr level argument) where
    of_operation : (op : Operation) → get_or s at 0 ≡ byte_of op → Finds (ExprFound s want deep at) (operation_with argument op want deep at)
    unfolding operation_with
    of_operation op c =
        finds_unless (same_kind (entry_of op).gives want) 7 at _
        (λ k. finds_unless (ltb 0 deep) 8 at _
        (λ d. finds_then (argument (entry_of op).takes (at + 1)) _ (g (entry_of op).takes (at + 1))
        (λ x n r. of_second op want level deep at (up (ltb-true _ _ d)) (same_kind_lem _ _ k) (drop_one s at (byte_of op) inside c) argument g _ refl x n r)))

    of_form_lem : (f : Form) → Opens (get_or s at 0) f → Finds (ExprFound s want deep at) (expr_form f s argument want deep at)
    of_form_lem form.End c = none
    of_form_lem form.Assign c = none
    of_form_lem form.Skip c = none
    of_form_lem form.Branch c = none
    of_form_lem form.Variable c = of_variable want deep at c
    of_form_lem form.Word c = of_word want deep at inside c
    of_form_lem form.Bit c = of_bit want deep at c
    of_form_lem (form.Apply op) c = of_operation op c
    of_form_lem form.Unknown c = none

  -- an expression that was read
  pub expr_found : (deep : ℕ) → FindsExpr deep (read_expr deep s)
  unfolding read_expr expr_with
  expr_found zero k at =
      finds_unless (ltb at (length s)) 4 (length s) _
      (λ i. of_form_lem k 0 0 at (λ z. absurd (omega arith)) (ltb-true _ _ i) (λ takes place. refused 8 place) (λ takes place. none)
      (code_of (get_or s at 0)).form (code_opens (get_or s at 0)))
  expr_found (suc deep) k at =
      finds_unless (ltb at (length s)) 4 (length s) _
      (λ i. of_form_lem k deep (suc deep) at (λ z. omega arith) (ltb-true _ _ i) (read_expr deep s) (expr_found deep) (code_of (get_or s at 0)).form (code_opens (get_or s at 0)))
