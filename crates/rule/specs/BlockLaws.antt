-- Reading statements and blocks, as steps: an assignment's expression decides it; an if is 8 where it is nested too deep, else its bit and its two blocks decide; a block goes on up to 00.
use Rattle.std.specs.Prelude.{ℕ, ◌+◌, ◌-◌, ◌<◌, ◌≤◌, ◌≡◌, refl, List, length, get_or}
use Rattle.std.proofs.Common.{sym, ◌∙◌}
use Rattle.std.proofs.Math.Path.{ap}
use borrow.Author.Tests.{le-ltb, lt-ltb, eq-eqb, ne_eqb}
use Rattle.base.specs.Codes.{code_of}
use Rattle.base.specs.declared.Kind.TheVariants as kind
use Rattle.base.specs.declared.Code.{Code}
use Rattle.base.specs.declared.Form.{Form}
use Rattle.base.specs.declared.Form.TheVariants.{Branch}
use Rattle.base.specs.Parsing.{refused, step_of}
use Rattle.base.specs.ParsingLaws.{past_then, refused_then, then_parsed, none_left, some_left}
use Rattle.base.specs.Parsing.{Step}
use Rattle.base.specs.Parsing.{Past, Refused}
use Rattle.rule.specs.Limits.{deepest}
use Rattle.rule.specs.Header.{variables, kind_at}
use Rattle.rule.specs.Tree.{assign, branch, then}
use Rattle.rule.specs.Expressions.{read_expr}
use Rattle.rule.specs.Blocks.{read_assign, branch_with, statement_form, statement_with, block_with, read_block, read_statement}
use Rattle.rule.specs.FuelLaws.{block_is}

-- an assignment's expression decides
pub assign_past : (s : List ℕ) (at : ℕ) {r : Step} → at + 1 < length s → get_or s (at + 1) 0 < variables s → r ≡ step_of
    (read_expr deepest s (kind_at s (get_or s (at + 1) 0)) (at + 2)) → r ≡ step_of (read_assign s at)
unfolding read_assign
assign_past s at h v q =
    rw (lt-ltb _ _ h, lt-ltb _ _ v) (then_parsed (read_expr deepest s (kind_at s (get_or s (at + 1) 0)) (at + 2)) (assign (get_or s (at + 1) 0)) q)

module _ (s : List ℕ) (nest at : ℕ) where
  -- by the form of the code c that stands there
  pub statement_as : (c : Code) (f : Form) → c ≡ code_of (get_or s at 0) → c.form ≡ f → read_statement s nest at ≡ statement_form f (read_block s) s nest at
  unfolding read_statement statement_with
  statement_as c f e q = ap (λ (g : Form). statement_form g (read_block s) s nest at) (ap (λ (d : Code). d.form) (sym e) ∙ q)

  module _ (c : Code) (e : c ≡ code_of (get_or s at 0)) (b : c.form ≡ Branch) where
    as_branch : read_statement s nest at ≡ branch_with (read_block s) s nest at
    as_branch = statement_as c Branch e b

    pub branch_deep : nest ≡ 0 → Refused 8 at ≡ step_of (read_statement s nest at)
    unfolding branch_with
    branch_deep z = rw (as_branch, none_left nest z)

    module _ (z : nest ≡ 0 → ⊥) where
      pub branch_refused : {k p : ℕ} → Refused k p ≡ step_of (read_expr deepest s kind.Bit (at + 1)) → Refused k p ≡ step_of (read_statement s nest at)
      unfolding branch_with
      branch_refused h = rw (as_branch, some_left nest z) (refused_then (read_expr deepest s kind.Bit (at + 1)) _ h)

      pub branch_first : {n k p : ℕ} → Past n ≡ step_of (read_expr deepest s kind.Bit (at + 1)) → Refused k p ≡ step_of (read_block s (nest - 1) n) → Refused k p ≡ step_of
          (read_statement s nest at)
      unfolding branch_with
      branch_first {n} h g =
          rw (as_branch, some_left nest z)
          (past_then (read_expr deepest s kind.Bit (at + 1)) _ h (λ c. refused_then (read_block s (nest - 1) n) _ g))

      pub branch_second : {n m : ℕ} {r : Step} → Past n ≡ step_of (read_expr deepest s kind.Bit (at + 1)) → Past m ≡ step_of (read_block s (nest - 1) n) → r ≡ step_of
          (read_block s (nest - 1) m) → r ≡ step_of (read_statement s nest at)
      unfolding branch_with
      branch_second {n} {m} h g q =
          rw (as_branch, some_left nest z)
          (past_then (read_expr deepest s kind.Bit (at + 1)) _ h
          (λ c. past_then (read_block s (nest - 1) n) _ g (λ x. then_parsed (read_block s (nest - 1) m) (branch c x) q)))

  pub block_short : length s ≤ at → read_block s nest at ≡ refused 4 (length s)
  unfolding block_with
  block_short h = rw (block_is s nest at, le-ltb _ _ h)

  module _ (inside : at < length s) where
    pub block_end : get_or s at 0 ≡ 0 → Past (at + 1) ≡ step_of (read_block s nest at)
    unfolding block_with
    block_end e = rw (block_is s nest at, lt-ltb _ _ inside, eq-eqb _ _ e)

    module _ (going : get_or s at 0 ≡ 0 → ⊥) where
      pub block_refused : {k p : ℕ} → Refused k p ≡ step_of (read_statement s nest at) → Refused k p ≡ step_of (read_block s nest at)
      unfolding block_with read_statement
      block_refused q = rw (block_is s nest at, lt-ltb _ _ inside, ne_eqb _ _ going) (refused_then (statement_with (read_block s) s nest at) _ q)

      -- past a statement, the rest of the block decides
      pub block_more : {n : ℕ} → Past n ≡ step_of (read_statement s nest at) → step_of (read_block s nest n) ≡ step_of (read_block s nest at)
      unfolding block_with read_statement
      block_more {n} q =
          rw (block_is s nest at, lt-ltb _ _ inside, ne_eqb _ _ going)
          (past_then (statement_with (read_block s) s nest at) _ q (λ x. then_parsed (read_block s nest n) (then x) refl))
