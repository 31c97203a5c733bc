-- What was read, by its first byte: for the passes that walk the bytes of an accepted rule again.
use Rattle.std.specs.Prelude.{ℕ, ◌+◌, ◌-◌, ◌<◌, ◌≤◌, ◌≡◌, refl, List, length, get_or, ltb, leb, eqb}
use Rattle.std.proofs.Common.{arith, ap, subst, ◌∙◌, eq-eqb, ne_eqb, ltb-true, leb-true}
use Rattle.base.specs.Numbers.{number_at}
use Rattle.base.specs.Codes.{code_of, entry_of, same_kind}
use Rattle.base.specs.CodeLaws.{same_kind_lem, code_variable}
use Rattle.base.specs.declared.Kind.{Kind}
use Rattle.base.specs.declared.Kind.TheVariants as kind
use Rattle.base.specs.declared.Operation.{Operation}
use Rattle.base.specs.declared.Code.{Code}
use Rattle.base.specs.declared.Form.{Form}
use Rattle.base.specs.declared.Form.TheVariants.{Variable, Word, Bit, Apply}
use Rattle.base.specs.Parsing.{Parsed, parsed, unless, IsRead}
use Rattle.base.specs.ParsingLaws.{unless_read, first_read, rest_read}
use Rattle.rule.specs.Header.{variables, kind_at}
use Rattle.rule.specs.Tree.{Expr, variable, word, bit, one, two}
use Rattle.rule.specs.Expressions.{read_variable, read_word, read_bit, second_with, arguments_with, operation_with, expr_form, expr_with, read_expr}
use Rattle.rule.specs.ExpressionLaws.{below, below_is, expr_is, expr_as}

-- An expression.

-- its code lies in the file
pub expr_inside : (deep : ℕ) (s : List ℕ) (want : Kind) (at : ℕ) → IsRead (read_expr deep s want at) → at < length s
unfolding expr_with
expr_inside deep s want at h =
    ltb-true at (length s)
    (unless_read (ltb at (length s)) 4 (length s) (expr_form (code_of (get_or s at 0)).form s (below deep s) want deep at) (subst IsRead (expr_is deep s want at) h)).0

-- a variable in range and of the kind wanted
pub record VariableRead (s : List ℕ) (want : Kind) (at : ℕ) (m : Parsed Expr) : Type 0 where
  pub inside : at + 1 < length s
  pub range : get_or s (at + 1) 0 < variables s
  pub kind : kind_at s (get_or s (at + 1) 0) ≡ want
  pub is : m ≡ parsed (variable (get_or s (at + 1) 0)) (at + 2)

variable_read : (s : List ℕ) (want : Kind) (deep at : ℕ) → IsRead (read_variable s want deep at) → VariableRead s want at (read_variable s want deep at)
unfolding read_variable
variable_read s want deep at h =
    let x = get_or s (at + 1) 0 in
    let last : Parsed Expr = parsed (variable x) (at + 2) in
    let third = unless (same_kind (kind_at s x) want) 7 (at + 1) last in
    let second = unless (ltb x (variables s)) 6 (at + 1) third in
    let a = unless_read (ltb 0 deep) 8 at (unless (ltb (at + 1) (length s)) 4 (length s) second) h in
    let b = unless_read (ltb (at + 1) (length s)) 4 (length s) second a.1 in
    let c = unless_read (ltb x (variables s)) 6 (at + 1) third b.1 in
    let d = unless_read (same_kind (kind_at s x) want) 7 (at + 1) last c.1 in
    record { inside = ltb-true _ _ b.0; range = ltb-true _ _ c.0; kind = same_kind_lem _ _ d.0; is = rw (a.0, b.0, c.0, d.0) }

-- a word constant
pub record WordRead (s : List ℕ) (want : Kind) (at : ℕ) (m : Parsed Expr) : Type 0 where
  pub inside : at + 5 ≤ length s
  pub kind : kind.Word ≡ want
  pub is : m ≡ parsed (word (number_at 4 s (at + 1))) (at + 5)

word_read : (s : List ℕ) (want : Kind) (deep at : ℕ) → at < length s → IsRead (read_word s want deep at) → WordRead s want at (read_word s want deep at)
unfolding read_word
word_read s want deep at i h =
    let last : Parsed Expr = parsed (word (number_at 4 s (at + 1))) (at + 5) in
    let second = unless (leb 5 (length s - at)) 4 (length s) last in
    let a = unless_read (same_kind kind.Word want) 7 at (unless (ltb 0 deep) 8 at second) h in
    let b = unless_read (ltb 0 deep) 8 at second a.1 in
    let c = unless_read (leb 5 (length s - at)) 4 (length s) last b.1 in
    record { inside = omega (arith, leb-true 5 (length s - at) c.0); kind = same_kind_lem _ _ a.0; is = rw (a.0, b.0, c.0) }

-- a bit constant
pub record BitRead (s : List ℕ) (want : Kind) (at : ℕ) (m : Parsed Expr) : Type 0 where
  pub inside : at + 1 < length s
  pub low : get_or s (at + 1) 0 ≤ 1
  pub kind : kind.Bit ≡ want
  pub is : m ≡ parsed (bit (get_or s (at + 1) 0)) (at + 2)

bit_read : (s : List ℕ) (want : Kind) (deep at : ℕ) → IsRead (read_bit s want deep at) → BitRead s want at (read_bit s want deep at)
unfolding read_bit
bit_read s want deep at h =
    let last : Parsed Expr = parsed (bit (get_or s (at + 1) 0)) (at + 2) in
    let third = unless (leb (get_or s (at + 1) 0) 1) 5 (at + 1) last in
    let second = unless (ltb (at + 1) (length s)) 4 (length s) third in
    let a = unless_read (same_kind kind.Bit want) 7 at (unless (ltb 0 deep) 8 at second) h in
    let b = unless_read (ltb 0 deep) 8 at second a.1 in
    let c = unless_read (ltb (at + 1) (length s)) 4 (length s) third b.1 in
    let d = unless_read (leb (get_or s (at + 1) 0) 1) 5 (at + 1) last c.1 in
    record { inside = ltb-true _ _ c.0; low = leb-true _ _ d.0; kind = same_kind_lem _ _ a.0; is = rw (a.0, b.0, c.0, d.0) }

-- an operation, before its arguments
pub record OperationRead (deep : ℕ) (s : List ℕ) (op : Operation) (want : Kind) (at : ℕ) (m : Parsed Expr) : Type 0 where
  pub level : 0 < deep
  pub kind : (entry_of op).gives ≡ want
  pub is : m ≡ arguments_with (read_expr (deep - 1) s) op (at + 1)

operation_read : (s : List ℕ) (op : Operation) (want : Kind) (deep at : ℕ) → IsRead (operation_with (below deep s) op want deep at) → OperationRead deep s op want at
    (operation_with (below deep s) op want deep at)
unfolding operation_with
operation_read s op want deep at h =
    let last = arguments_with (below deep s) op (at + 1) in
    let a = unless_read (same_kind (entry_of op).gives want) 7 at (unless (ltb 0 deep) 8 at last) h in
    let b = unless_read (ltb 0 deep) 8 at last a.1 in
    let l : 0 < deep = ltb-true 0 deep b.0 in
    record {
      level = l;
      kind = same_kind_lem _ _ a.0;
      is = rw (a.0, b.0)
          (ap (λ (g : Kind → ℕ → Parsed Expr). arguments_with g op (at + 1)) (below_is deep s (omega arith)));
    }

-- by the code c that stands there
module _ (deep : ℕ) (s : List ℕ) (want : Kind) (at : ℕ) (h : IsRead (read_expr deep s want at)) (c : Code) (e : c ≡ code_of (get_or s at 0)) where
  formed : (f : Form) → c.form ≡ f → read_expr deep s want at ≡ expr_form f s (below deep s) want deep at
  formed f q = expr_as deep s want at c (expr_inside deep s want at h) e f q

  -- a form that no expression has was not read
  pub expr_taken : (f : Form) → c.form ≡ f → IsRead (expr_form f s (below deep s) want deep at)
  expr_taken f q = subst IsRead (formed f q) h

  pub as_variable : c.form ≡ Variable → VariableRead s want at (read_expr deep s want at)
  as_variable q =
      let r = variable_read s want deep at (expr_taken Variable q) in
      record { inside = r.inside; range = r.range; kind = r.kind; is = formed Variable q ∙ r.is }

  pub as_word : c.form ≡ Word → WordRead s want at (read_expr deep s want at)
  as_word q =
      let r = word_read s want deep at (expr_inside deep s want at h) (expr_taken Word q) in
      record { inside = r.inside; kind = r.kind; is = formed Word q ∙ r.is }

  pub as_bit : c.form ≡ Bit → BitRead s want at (read_expr deep s want at)
  as_bit q =
      let r = bit_read s want deep at (expr_taken Bit q) in
      record { inside = r.inside; low = r.low; kind = r.kind; is = formed Bit q ∙ r.is }

  pub as_operation : (op : Operation) → c.form ≡ Apply op → OperationRead deep s op want at (read_expr deep s want at)
  as_operation op q =
      let r = operation_read s op want deep at (expr_taken (Apply op) q) in
      record { level = r.level; kind = r.kind; is = formed (Apply op) q ∙ r.is }

-- by its byte: a variable is known before its code is asked for
pub byte_variable : (deep : ℕ) (s : List ℕ) (want : Kind) (at : ℕ) → IsRead (read_expr deep s want at) → get_or s at 0 ≡ 0x10 → VariableRead s want at
    (read_expr deep s want at)
byte_variable deep s want at h b = as_variable deep s want at h (code_of (get_or s at 0)) refl (code_variable (get_or s at 0) b)

-- the arguments of an operation that was read
module _ (argument : Kind → ℕ → Parsed Expr) (op : Operation) (at : ℕ) where
  pub first_argument : IsRead (arguments_with argument op at) → IsRead (argument (entry_of op).takes at)
  first_argument h = first_read (argument (entry_of op).takes at) (λ x n. second_with (eqb (entry_of op).arity 1) argument op x n) h

  module _ (x : Expr) (n : ℕ) (p : argument (entry_of op).takes at ≡ parsed x n) where
    pub arguments_one : (entry_of op).arity ≡ 1 → arguments_with argument op at ≡ parsed (one op x) n
    arguments_one a = rw (p, eq-eqb _ _ a)

    pub second_argument : ((entry_of op).arity ≡ 1 → ⊥) → IsRead (arguments_with argument op at) → IsRead (argument (entry_of op).takes n)
    second_argument a h =
        let r = rest_read (argument (entry_of op).takes at) (λ x n. second_with (eqb (entry_of op).arity 1) argument op x n) x n p h in
        first_read (argument (entry_of op).takes n) (λ y m. parsed (two op x y) m) (rw (ne_eqb _ _ a) at r)

    pub arguments_two : ((entry_of op).arity ≡ 1 → ⊥) → (y : Expr) (m : ℕ) → argument (entry_of op).takes n ≡ parsed y m → arguments_with argument op at ≡ parsed
        (two op x y) m
    arguments_two a y m q = rw (p, ne_eqb _ _ a, q)
