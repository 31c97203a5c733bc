-- Refusals byte by byte: each is a row of document 01's table, its number 1 to 9 and its place where that row lies.
use Prim.Native.Nat.{ℕ, zero, suc, ◌+◌, ◌-◌, ◌≤◌, ◌<◌}
use Rattle.std.proofs.Common.{arith, sym, ap}
use Rattle.std.specs.Prelude.{◌≡◌, Bool, ◌&&◌, length, get_or, ltb, leb, eqb}
use Rattle.std.proofs.Math.Path.{refl}
use mathlib.Core.List.{List, [], ◌∷◌}
use Rattle.std.proofs.Math.Bool.{true, false, and-eq-true_iff}
use borrow.Author.Tests.{ltb-true, leb-true, leb-false}
use Rattle.base.specs.Codes.{code_of, entry_of, same_kind}
use Rattle.base.specs.declared.Kind.{Kind}
use Rattle.base.specs.declared.Kind.TheVariants as kind
use Rattle.base.specs.declared.Operation.{Operation}
use Rattle.base.specs.declared.Form.{Form}
use Rattle.base.specs.declared.Form.TheVariants.{End, Assign, Skip, Branch, Variable, Word, Bit, Apply, Unknown}
use Rattle.base.specs.Parsing.{Parsed, refused, step_of, unless, read_mark}
use Rattle.base.specs.ParsingLaws.{mark_past}
use Rattle.rule.specs.Limits.{least_rule_bytes, most_rule_bytes, most_variables, last_kind, deepest, nested}
use Rattle.rule.specs.Header.{mark, variables, kind_at, read_count, read_kinds, read_header}
use Rattle.rule.specs.Tree.{Expr, Block}
use Rattle.rule.specs.Expressions.{read_variable, read_word, read_bit, second_with, operation_with, expr_form, expr_with, read_expr}
use Rattle.rule.specs.Blocks.{read_assign, branch_with, statement_form, statement_with, closed_or, block_with, block_fuel, read_block}
use Rattle.rule.specs.Rule.{read_rule}
use Rattle.rule.specs.RefusalLaws.{Refuses, test, after}

-- a refusal byte by byte: 1 lies at 0, 4 at the file's length, every other on a byte of the file
pub record ByteRow (s : List ℕ) (number place : ℕ) : Type 0 where
  pub least : 1 ≤ number
  pub most : number ≤ 9
  pub sized : number ≡ 1 → place ≡ 0
  pub ended : number ≡ 4 → place ≡ length s
  pub inside : (number ≡ 1 → ⊥) → (number ≡ 4 → ⊥) → place < length s

-- any list of bytes, and what is read of it
module _ (s : List ℕ) where
  abbrev pub ByteRows : {A : Type 0} → Parsed A → Type 0
  ByteRows m = Refuses (ByteRow s) m

  -- the three sorts of rows
  by_size : ByteRow s 1 0
  by_size = record { least = omega arith; most = omega arith; sized = λ e. refl; ended = λ e. absurd (omega arith); inside = λ n m. absurd (n refl) }

  at_end : ByteRow s 4 (length s)
  at_end = record { least = omega arith; most = omega arith; sized = λ e. absurd (omega arith); ended = λ e. refl; inside = λ n m. absurd (m refl) }

  on_byte_lem : (k p : ℕ) → (leb 2 k && leb k 9) ≡ true → (k ≡ 4 → ⊥) → p < length s → ByteRow s k p
  on_byte_lem k p t n i =
      let h = (and-eq-true_iff (leb 2 k) (leb k 9)).0 t in
      let lo : 2 ≤ k = leb-true 2 k h.0 in
      record { least = omega arith; most = leb-true k 9 h.1; sized = λ e. absurd (omega arith); ended = λ e. absurd (n e); inside = λ _ _. i }

  -- 4 where a byte is wanted past the end; else what follows may go by that byte
  wanted : {A : Type 0} (at : ℕ) (m : Parsed A) → (at < length s → ByteRows m) → ByteRows (unless (ltb at (length s)) 4 (length s) m)
  wanted at m h = test (ByteRow s) (ltb at (length s)) 4 (length s) m (λ e. at_end) (λ e. h (ltb-true at (length s) e))

  -- a test whose row lies on a byte of the file
  tested : {A : Type 0} (t : Bool) (k p : ℕ) (m : Parsed A) → (leb 2 k && leb k 9) ≡ true → (k ≡ 4 → ⊥) → p < length s → ByteRows m → ByteRows (unless t k p m)
  tested t k p m r n i h = test (ByteRow s) t k p m (λ e. on_byte_lem k p r n i) (λ e. h)

  -- expressions, their code at `at`
  variable_rows : (want : Kind) (deep at : ℕ) → at < length s → ByteRows (read_variable s want deep at)
  unfolding read_variable
  variable_rows want deep at i =
      tested (ltb 0 deep) 8 at _ refl (λ e. omega arith) i
      (wanted (at + 1) _
      (λ j. tested (ltb (get_or s (at + 1) 0) (variables s)) 6 (at + 1) _ refl (λ e. omega arith) j
      (tested (same_kind (kind_at s (get_or s (at + 1) 0)) want) 7 (at + 1) _ refl (λ e. omega arith) j tt)))

  word_rows : (want : Kind) (deep at : ℕ) → at < length s → ByteRows (read_word s want deep at)
  unfolding read_word
  word_rows want deep at i =
      tested (same_kind kind.Word want) 7 at _ refl (λ e. omega arith) i
      (tested (ltb 0 deep) 8 at _ refl (λ e. omega arith) i (test (ByteRow s) (leb 5 (length s - at)) 4 (length s) _ (λ e. at_end) (λ e. tt)))

  bit_rows : (want : Kind) (deep at : ℕ) → at < length s → ByteRows (read_bit s want deep at)
  unfolding read_bit
  bit_rows want deep at i =
      tested (same_kind kind.Bit want) 7 at _ refl (λ e. omega arith) i
      (tested (ltb 0 deep) 8 at _ refl (λ e. omega arith) i
      (wanted (at + 1) _ (λ j. tested (leb (get_or s (at + 1) 0) 1) 5 (at + 1) _ refl (λ e. omega arith) j tt)))

  -- where a level is left, arguments are read
  module _ (argument : Kind → ℕ → Parsed Expr) (deep : ℕ) (rows : 0 < deep → (k : Kind) (a : ℕ) → ByteRows (argument k a)) where
    second_rows : 0 < deep → (t : Bool) (op : Operation) (x : Expr) (n : ℕ) → ByteRows (second_with t argument op x n)
    second_rows l true op x n = tt
    second_rows l false op x n = after (ByteRow s) (argument (entry_of op).takes n) _ (rows l (entry_of op).takes n) (λ y m e. tt)

    operation_rows : (op : Operation) (want : Kind) (at : ℕ) → at < length s → ByteRows (operation_with argument op want deep at)
    unfolding operation_with
    operation_rows op want at i =
        tested (same_kind (entry_of op).gives want) 7 at _ refl (λ e. omega arith) i
        (test (ByteRow s) (ltb 0 deep) 8 at _ (λ e. on_byte_lem 8 at refl (λ z. omega arith) i)
        (λ e. let l : 0 < deep = ltb-true 0 deep e in
        after (ByteRow s) (argument (entry_of op).takes (at + 1)) _ (rows l (entry_of op).takes (at + 1)) (λ x n q. second_rows l (eqb (entry_of op).arity 1) op x n)))

    form_rows : (f : Form) (want : Kind) (at : ℕ) → at < length s → ByteRows (expr_form f s argument want deep at)
    form_rows End want at i = on_byte_lem 5 at refl (λ e. omega arith) i
    form_rows Assign want at i = on_byte_lem 5 at refl (λ e. omega arith) i
    form_rows Skip want at i = on_byte_lem 5 at refl (λ e. omega arith) i
    form_rows Branch want at i = on_byte_lem 5 at refl (λ e. omega arith) i
    form_rows Variable want at i = variable_rows want deep at i
    form_rows Word want at i = word_rows want deep at i
    form_rows Bit want at i = bit_rows want deep at i
    form_rows (Apply op) want at i = operation_rows op want at i
    form_rows Unknown want at i = on_byte_lem 5 at refl (λ e. omega arith) i

    with_rows : (want : Kind) (at : ℕ) → ByteRows (expr_with argument s want deep at)
    unfolding expr_with
    with_rows want at = wanted at _ (form_rows (code_of (get_or s at 0)).form want at)

  expr_rows : (deep : ℕ) (want : Kind) (at : ℕ) → ByteRows (read_expr deep s want at)
  unfolding read_expr
  expr_rows zero want at = with_rows (λ k a. refused 8 a) 0 (λ l k a. absurd (omega arith)) want at
  expr_rows (suc deep) want at = with_rows (read_expr deep s) (suc deep) (λ l k a. expr_rows deep k a) want at

  -- statements and blocks
  assign_rows : (at : ℕ) → ByteRows (read_assign s at)
  unfolding read_assign
  assign_rows at =
      wanted (at + 1) _
      (λ j. tested (ltb (get_or s (at + 1) 0) (variables s)) 6 (at + 1) _ refl (λ e. omega arith) j
      (after (ByteRow s) (read_expr deepest s (kind_at s (get_or s (at + 1) 0)) (at + 2)) _ (expr_rows deepest (kind_at s (get_or s (at + 1) 0)) (at + 2)) (λ e n q. tt)))

  module _ (block : ℕ → ℕ → Parsed Block) (rows : (k a : ℕ) → ByteRows (block k a)) where
    branch_rows : (nest at : ℕ) → at < length s → ByteRows (branch_with block s nest at)
    unfolding branch_with
    branch_rows nest at i =
        tested (ltb 0 nest) 8 at _ refl (λ e. omega arith) i
        (after (ByteRow s) (read_expr deepest s kind.Bit (at + 1)) _ (expr_rows deepest kind.Bit (at + 1))
        (λ c n p. after (ByteRow s) (block (nest - 1) n) _ (rows (nest - 1) n) (λ x m q. after (ByteRow s) (block (nest - 1) m) _ (rows (nest - 1) m) (λ y l r. tt))))

    statement_rows : (f : Form) (nest at : ℕ) → at < length s → ByteRows (statement_form f block s nest at)
    statement_rows End nest at i = on_byte_lem 5 at refl (λ e. omega arith) i
    statement_rows Assign nest at i = assign_rows at
    statement_rows Skip nest at i = tt
    statement_rows Branch nest at i = branch_rows nest at i
    statement_rows Variable nest at i = on_byte_lem 5 at refl (λ e. omega arith) i
    statement_rows Word nest at i = on_byte_lem 5 at refl (λ e. omega arith) i
    statement_rows Bit nest at i = on_byte_lem 5 at refl (λ e. omega arith) i
    statement_rows (Apply op) nest at i = on_byte_lem 5 at refl (λ e. omega arith) i
    statement_rows Unknown nest at i = on_byte_lem 5 at refl (λ e. omega arith) i

    closed_rows : (t : Bool) (nest at : ℕ) → at < length s → ByteRows (closed_or t block s nest at)
    unfolding statement_with
    closed_rows true nest at i = tt
    closed_rows false nest at i =
        after (ByteRow s) (statement_form (code_of (get_or s at 0)).form block s nest at) _ (statement_rows (code_of (get_or s at 0)).form nest at i)
        (λ x n p. after (ByteRow s) (block nest n) _ (rows nest n) (λ b m q. tt))

    block_rows : (nest at : ℕ) → ByteRows (block_with block s nest at)
    unfolding block_with
    block_rows nest at = wanted at _ (closed_rows (eqb (get_or s at 0) 0x00) nest at)

  fuel_rows : (fuel nest at : ℕ) → ByteRows (block_fuel fuel s nest at)
  unfolding block_fuel
  fuel_rows zero nest at = at_end
  fuel_rows (suc fuel) nest at = block_rows (block_fuel fuel s) (λ k a. fuel_rows fuel k a) nest at

  -- the header and the whole
  mark_rows : (m : List ℕ) (at : ℕ) → at + length m ≤ length s → ByteRows (read_mark 2 m s at)
  unfolding read_mark
  mark_rows [] at i = tt
  mark_rows (b ∷ m) at i = tested (eqb (get_or s at 0) b) 2 at _ refl (λ e. omega arith) (omega arith) (mark_rows m (at + 1) (omega arith))

  kinds_rows : (n at : ℕ) → ByteRows (read_kinds n s at)
  unfolding read_kinds
  kinds_rows zero at = tt
  kinds_rows (suc n) at = wanted at _ (λ i. tested (leb (get_or s at 0) last_kind) 3 at _ refl (λ e. omega arith) i (kinds_rows n (at + 1)))

  count_rows : (at : ℕ) → at < length s → ByteRows (read_count s at)
  unfolding read_count
  count_rows at i =
      tested (ltb 0 (get_or s at 0)) 3 at _ refl (λ e. omega arith) i (tested (leb (get_or s at 0) most_variables) 3 at _ refl (λ e. omega arith) i tt)

  header_rows : least_rule_bytes ≤ length s → ByteRows (read_header s)
  unfolding read_header
  header_rows six =
      after (ByteRow s) (read_mark 2 mark s 0) _ (mark_rows mark 0 (omega arith))
      (λ u at e. let five : at ≡ 5 = mark_past 2 mark s 0 (sym (ap step_of e)) in
      after (ByteRow s) (read_count s at) _ (count_rows at (omega arith)) (λ v k q. kinds_rows v k))

  pub rule_rows_lem : ByteRows (read_rule s)
  unfolding read_rule read_block
  rule_rows_lem =
      test (ByteRow s) (leb least_rule_bytes (length s)) 1 0 _ (λ e. by_size)
      (λ six. test (ByteRow s) (leb (length s) most_rule_bytes) 1 0 _ (λ e. by_size)
      (λ e. after (ByteRow s) (read_header s) _ (header_rows (leb-true least_rule_bytes (length s) six))
      (λ u at p. after (ByteRow s) (block_fuel (suc (length s)) s nested at) _ (fuel_rows (suc (length s)) nested at)
      (λ b n q. test (ByteRow s) (leb (length s) n) 9 n _ (λ f. on_byte_lem 9 n refl (λ z. omega arith) (leb-false (length s) n f)) (λ f. tt)))))
