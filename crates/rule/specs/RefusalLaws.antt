-- What a reader may refuse: any fact of its refusals, part by part; of an expression's, that none is below 4 and none with 8 lies on a 03.
use Prim.Native.Nat.{ℕ, zero, suc, ◌+◌, ◌-◌, ◌≤◌, ◌<◌}
use Rattle.std.proofs.Common.{arith, ltb-true, leb-true, eqb-true}
use Rattle.std.specs.Prelude.{◌≡◌, Bool, true, false, ◌&&◌, List, length, get_or, ltb, leb, eqb}
use Rattle.std.proofs.Math.Path.{refl, subst⁻¹}
use Rattle.std.proofs.Math.Bool.{and-eq-true_iff}
use Rattle.std.proofs.lemmas.Bool.{eqb-false}
use Rattle.base.specs.TestLaws.{split}
use Rattle.base.specs.Codes.{code_of, entry_of, same_kind}
use Rattle.base.specs.declared.Kind.{Kind}
use Rattle.base.specs.declared.Kind.TheVariants as kind
use Rattle.base.specs.declared.Operation.{Operation}
use Rattle.base.specs.declared.Form.{Form}
use Rattle.base.specs.declared.Form.TheVariants.{End, Assign, Skip, Branch, Variable, Word, Bit, Apply, Unknown}
use Rattle.base.specs.Parsing.{Parsed, parsed, refused, unless, ◌>>=◌}
use Rattle.rule.specs.Header.{variables, kind_at}
use Rattle.rule.specs.Tree.{Expr}
use Rattle.rule.specs.Expressions.{read_variable, read_word, read_bit, second_with, operation_with, expr_form, expr_with, read_expr}

-- it was read, or is refused by a number and place of which R holds
module _ (R : ℕ → ℕ → Type 0) where
  abbrev pub Refuses : {A : Type 0} → Parsed A → Type 0
  Refuses (parsed a n) = Unit {0}
  Refuses (refused k p) = R k p

  pub test : {A : Type 0} (t : Bool) (k p : ℕ) (m : Parsed A) → (t ≡ false → R k p) → (t ≡ true → Refuses m) → Refuses (unless t k p m)
  test true k p m r h = h refl
  test false k p m r h = r refl

  pub after : {A B : Type 0} (m : Parsed A) (f : A → ℕ → Parsed B) → Refuses m → ((a : A) (n : ℕ) → m ≡ parsed a n → Refuses (f a n)) → Refuses (m >>= f)
  after (parsed a n) f h g = g a n refl
  after (refused k p) f h g = h

-- of one relation follows another
pub refuses_too : (R Q : ℕ → ℕ → Type 0) → ((k p : ℕ) → R k p → Q k p) → {A : Type 0} (m : Parsed A) → Refuses R m → Refuses Q m
refuses_too R Q to (parsed a n) h = tt
refuses_too R Q to (refused k p) h = to k p h

module _ (s : List ℕ) where
  -- what is said of an expression's refusals
  pub record InExpr (k p : ℕ) : Type 0 where
    pub least : 4 ≤ k
    pub deep : k ≡ 8 → get_or s p 0 ≡ 0x03 → ⊥

  low : (k p : ℕ) → (leb 4 k && leb k 7) ≡ true → InExpr k p
  low k p t =
      let h = (and-eq-true_iff (leb 4 k) (leb k 7)).0 t in
      record { least = leb-true 4 k h.0; deep = λ e. absurd (let l = leb-true k 7 h.1 in omega arith) }

  tested : {A : Type 0} (t : Bool) (k p : ℕ) (m : Parsed A) → (leb 4 k && leb k 7) ≡ true → Refuses InExpr m → Refuses InExpr (unless t k p m)
  tested t k p m l h = test InExpr t k p m (λ e. low k p l) (λ e. h)

  -- an expression whose code is not 03
  module _ (at : ℕ) (other : get_or s at 0 ≡ 0x03 → ⊥) where
    levelled : {A : Type 0} (deep : ℕ) (m : Parsed A) → (0 < deep → Refuses InExpr m) → Refuses InExpr (unless (ltb 0 deep) 8 at m)
    levelled deep m h = test InExpr (ltb 0 deep) 8 at m (λ e. record { least = omega arith; deep = λ z b. other b }) (λ e. h (ltb-true 0 deep e))

    variable_row : (want : Kind) (deep : ℕ) → Refuses InExpr (read_variable s want deep at)
    unfolding read_variable
    variable_row want deep =
        levelled deep _
        (λ l. tested (ltb (at + 1) (length s)) 4 (length s) _ refl
        (tested (ltb (get_or s (at + 1) 0) (variables s)) 6 (at + 1) _ refl (tested (same_kind (kind_at s (get_or s (at + 1) 0)) want) 7 (at + 1) _ refl tt)))

    word_row : (want : Kind) (deep : ℕ) → Refuses InExpr (read_word s want deep at)
    unfolding read_word
    word_row want deep = tested (same_kind kind.Word want) 7 at _ refl (levelled deep _ (λ l. tested (leb 5 (length s - at)) 4 (length s) _ refl tt))

    bit_row : (want : Kind) (deep : ℕ) → Refuses InExpr (read_bit s want deep at)
    unfolding read_bit
    bit_row want deep =
        tested (same_kind kind.Bit want) 7 at _ refl
        (levelled deep _ (λ l. tested (ltb (at + 1) (length s)) 4 (length s) _ refl (tested (leb (get_or s (at + 1) 0) 1) 5 (at + 1) _ refl tt)))

    -- where a level is left, arguments are read
    module _ (argument : Kind → ℕ → Parsed Expr) (deep : ℕ) (rows : 0 < deep → (k : Kind) (a : ℕ) → Refuses InExpr (argument k a)) where
      second_row : 0 < deep → (t : Bool) (op : Operation) (x : Expr) (n : ℕ) → Refuses InExpr (second_with t argument op x n)
      second_row l true op x n = tt
      second_row l false op x n = after InExpr (argument (entry_of op).takes n) _ (rows l (entry_of op).takes n) (λ y m e. tt)

      operation_row : (op : Operation) (want : Kind) → Refuses InExpr (operation_with argument op want deep at)
      unfolding operation_with
      operation_row op want =
          tested (same_kind (entry_of op).gives want) 7 at _ refl
          (levelled deep _
          (λ l. after InExpr (argument (entry_of op).takes (at + 1)) _ (rows l (entry_of op).takes (at + 1)) (λ x n e. second_row l (eqb (entry_of op).arity 1) op x n)))

      form_row : (f : Form) (want : Kind) → Refuses InExpr (expr_form f s argument want deep at)
      form_row End want = low 5 at refl
      form_row Assign want = low 5 at refl
      form_row Skip want = low 5 at refl
      form_row Branch want = low 5 at refl
      form_row Variable want = variable_row want deep
      form_row Word want = word_row want deep
      form_row Bit want = bit_row want deep
      form_row (Apply op) want = operation_row op want
      form_row Unknown want = low 5 at refl

  -- 03 is the code of no expression
  if_row : (argument : Kind → ℕ → Parsed Expr) (want : Kind) (deep at : ℕ) → get_or s at 0 ≡ 0x03 → Refuses InExpr (expr_form (code_of (get_or s at 0)).form s argument want deep at)
  unfolding code_of
  if_row argument want deep at e = subst⁻¹ (λ (b : ℕ). Refuses InExpr (expr_form (code_of b).form s argument want deep at)) e (low 5 at refl)

  with_row : (argument : Kind → ℕ → Parsed Expr) (deep : ℕ) → (0 < deep → (k : Kind) (a : ℕ) → Refuses InExpr (argument k a)) → (want : Kind) (at : ℕ)
      → Refuses InExpr (expr_with argument s want deep at)
  unfolding expr_with
  with_row argument deep rows want at =
      tested (ltb at (length s)) 4 (length s) _ refl
      (split (eqb (get_or s at 0) 0x03) (λ t. if_row argument want deep at (eqb-true _ _ t))
      (λ t. form_row at (eqb-false _ _ t) argument deep rows (code_of (get_or s at 0)).form want))

  pub expr_row : (deep : ℕ) (want : Kind) (at : ℕ) → Refuses InExpr (read_expr deep s want at)
  unfolding read_expr
  expr_row zero want at = with_row (λ k a. refused 8 a) 0 (λ l k a. absurd (omega arith)) want at
  expr_row (suc deep) want at = with_row (read_expr deep s) (suc deep) (λ l k a. expr_row deep k a) want at
