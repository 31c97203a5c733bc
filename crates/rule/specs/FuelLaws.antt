-- Reading blocks: reading goes forward, and more fuel than the file has bytes changes nothing.
use Rattle.std.specs.Prelude.{ℕ, zero, suc, ◌+◌, ◌-◌, ◌<◌, ◌≤◌, ◌≡◌, refl, List, Bool, true, false, length, get_or, ltb, eqb}
use Rattle.std.proofs.Common.{arith, le-ltb}
use Rattle.std.proofs.Math.Path.{ap}
use Rattle.base.specs.Codes.{code_of}
use Rattle.base.specs.declared.Kind.TheVariants as kind
use Rattle.base.specs.declared.Form.{Form}
use Rattle.base.specs.declared.Form.TheVariants.{End, Assign, Skip, Branch, Variable, Word, Bit, Apply, Unknown}
use Rattle.base.specs.Parsing.{Parsed, unless}
use Rattle.base.specs.ParsingLaws.{Forward, forward_unless, forward_later, forward_then, then_same}
use Rattle.rule.specs.Limits.{deepest}
use Rattle.rule.specs.Header.{variables, kind_at}
use Rattle.rule.specs.Tree.{Block}
use Rattle.rule.specs.Expressions.{read_expr}
use Rattle.rule.specs.ExpressionLaws.{expr_forward}
use Rattle.rule.specs.Blocks.{read_assign, branch_with, statement_form, statement_with, closed_or, block_with, block_fuel, read_block, read_statement}

assign_forward : (s : List ℕ) (at : ℕ) → Forward (read_assign s at) at
unfolding read_assign
assign_forward s at =
    let e = read_expr deepest s (kind_at s (get_or s (at + 1) 0)) (at + 2) in
    forward_unless (ltb (at + 1) (length s)) 4 (length s) _ at
    (forward_unless (ltb (get_or s (at + 1) 0) (variables s)) 6 (at + 1) _ at
    (forward_then e _ at (forward_later e at (at + 2) (omega arith) (expr_forward deepest s (kind_at s (get_or s (at + 1) 0)) (at + 2))) (λ e n h. h)))

-- a condition ends after the code of its if
test_forward : (s : List ℕ) (at : ℕ) → Forward (read_expr deepest s kind.Bit (at + 1)) at
test_forward s at = forward_later (read_expr deepest s kind.Bit (at + 1)) at (at + 1) (omega arith) (expr_forward deepest s kind.Bit (at + 1))

-- with a reader of blocks that goes forward
module _ (block : ℕ → ℕ → Parsed Block) (goes : (k a : ℕ) → Forward (block k a) a) (s : List ℕ) where
  later : (k at n : ℕ) → at < n → Forward (block k n) at
  later k at n h = forward_later (block k n) at n h (goes k n)

  branch_forward : (nest at : ℕ) → Forward (branch_with block s nest at) at
  unfolding branch_with
  branch_forward nest at =
      forward_unless (ltb 0 nest) 8 at _ at
      (forward_then (read_expr deepest s kind.Bit (at + 1)) _ at (test_forward s at)
      (λ c n h. forward_then (block (nest - 1) n) _ at (later (nest - 1) at n h)
      (λ x m i. forward_then (block (nest - 1) m) _ at (later (nest - 1) at m i) (λ y l q. q))))

  form_forward : (f : Form) (nest at : ℕ) → Forward (statement_form f block s nest at) at
  form_forward End nest at = tt
  form_forward Assign nest at = assign_forward s at
  form_forward Skip nest at = omega arith
  form_forward Branch nest at = branch_forward nest at
  form_forward Variable nest at = tt
  form_forward Word nest at = tt
  form_forward Bit nest at = tt
  form_forward (Apply op) nest at = tt
  form_forward Unknown nest at = tt

  with_forward : (nest at : ℕ) → Forward (statement_with block s nest at) at
  unfolding statement_with
  with_forward nest at = form_forward (code_of (get_or s at 0)).form nest at

  closed_forward : (t : Bool) (nest at : ℕ) → Forward (closed_or t block s nest at) at
  closed_forward true nest at = omega arith
  closed_forward false nest at =
      forward_then (statement_with block s nest at) _ at (with_forward nest at)
      (λ x n h. forward_then (block nest n) _ at (later nest at n h) (λ b m q. q))

  block_with_forward : (nest at : ℕ) → Forward (block_with block s nest at) at
  unfolding block_with
  block_with_forward nest at = forward_unless (ltb at (length s)) 4 (length s) _ at (closed_forward (eqb (get_or s at 0) 0x00) nest at)

fuel_forward : (fuel : ℕ) (s : List ℕ) (nest at : ℕ) → Forward (block_fuel fuel s nest at) at
unfolding block_fuel
fuel_forward zero s nest at = tt
fuel_forward (suc fuel) s nest at = block_with_forward (block_fuel fuel s) (λ k a. fuel_forward fuel s k a) s nest at

pub block_forward : (s : List ℕ) (nest at : ℕ) → Forward (read_block s nest at) at
unfolding read_block
block_forward s nest at = fuel_forward (suc (length s)) s nest at

pub statement_forward : (s : List ℕ) (nest at : ℕ) → Forward (read_statement s nest at) at
unfolding read_statement
statement_forward s nest at = with_forward (read_block s) (λ k a. block_forward s k a) s nest at

-- two readers of blocks that agree after `at`
module _ (block other : ℕ → ℕ → Parsed Block) (goes : (k a : ℕ) → Forward (other k a) a) (s : List ℕ) (at : ℕ) (same : (k n : ℕ) → at < n → block k n ≡ other k n) where
  branch_same : (nest : ℕ) → branch_with block s nest at ≡ branch_with other s nest at
  unfolding branch_with
  branch_same nest =
      ap (unless (ltb 0 nest) 8 at)
      (then_same (read_expr deepest s kind.Bit (at + 1)) _ _ at (test_forward s at)
      (λ c n h. rw (same (nest - 1) n h) (then_same (other (nest - 1) n) _ _ at (later other goes s (nest - 1) at n h)
      (λ x m i. rw (same (nest - 1) m i)))))

  form_same : (f : Form) (nest : ℕ) → statement_form f block s nest at ≡ statement_form f other s nest at
  form_same End nest = refl
  form_same Assign nest = refl
  form_same Skip nest = refl
  form_same Branch nest = branch_same nest
  form_same Variable nest = refl
  form_same Word nest = refl
  form_same Bit nest = refl
  form_same (Apply op) nest = refl
  form_same Unknown nest = refl

  statement_same : (nest : ℕ) → statement_with block s nest at ≡ statement_with other s nest at
  unfolding statement_with
  statement_same nest = form_same (code_of (get_or s at 0)).form nest

  closed_same : (t : Bool) (nest : ℕ) → closed_or t block s nest at ≡ closed_or t other s nest at
  closed_same true nest = refl
  closed_same false nest =
      rw (statement_same nest)
      (then_same (statement_with other s nest at) _ _ at (with_forward other goes s nest at) (λ x n h. rw (same nest n h)))

  block_same : (nest : ℕ) → block_with block s nest at ≡ block_with other s nest at
  unfolding block_with
  block_same nest = ap (unless (ltb at (length s)) 4 (length s)) (closed_same (eqb (get_or s at 0) 0x00) nest)

-- fuel for as many statements as bytes are left is enough
pub enough : (f g : ℕ) (s : List ℕ) (nest at : ℕ) → length s ≤ at + f → length s ≤ at + g → block_fuel f s nest at ≡ block_fuel g s nest at
unfolding block_fuel block_with
enough zero zero s nest at h k = refl
enough zero (suc g) s nest at h k = rw (le-ltb at (length s) (omega arith))
enough (suc f) zero s nest at h k = rw (le-ltb at (length s) (omega arith))
enough (suc f) (suc g) s nest at h k =
    block_same (block_fuel f s) (block_fuel g s) (λ k a. fuel_forward g s k a) s at (λ n a l. enough f g s n a (omega arith) (omega arith)) nest

-- so a block is read with no fuel in sight
pub block_is : (s : List ℕ) (nest at : ℕ) → read_block s nest at ≡ block_with (read_block s) s nest at
unfolding read_block block_fuel
block_is s nest at =
    block_same (block_fuel (length s) s) (read_block s) (λ k a. fuel_forward (suc (length s)) s k a) s at
    (λ k n l. enough (length s) (suc (length s)) s k n (omega arith) (omega arith)) nest
