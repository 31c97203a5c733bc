-- What reading finds, statements and blocks: every expression is good, ifs nest no deeper than asked, and the bytes stand in the file.
use Prim.Native.Nat.{ℕ, zero, suc, ◌+◌, ◌-◌, ◌≤◌, ◌<◌}
use Rattle.std.proofs.Common.{arith, ◌∙◌, ltb-true, eqb-true}
use Rattle.std.specs.Prelude.{◌≡◌, refl, Bool, ltb, eqb, length, get_or, drop}
use Rattle.std.proofs.Math.Path.{sym, ap}
use mathlib.Core.List.{List, ◌∷◌, ◌++◌, append_assoc}
use Rattle.std.proofs.Math.Bool.{true, false}
use Rattle.base.specs.Numbers.{Bytes}
use Rattle.base.specs.ListLaws.{drop_one, drop_two}
use Rattle.base.specs.Codes.{code_of}
use Rattle.base.specs.CodeLaws.{Opens, code_opens}
use Rattle.base.specs.declared.Kind.{Kind}
use Rattle.base.specs.declared.Kind.TheVariants as kind
use Rattle.base.specs.declared.Form.{Form}
use Rattle.base.specs.declared.Form.TheVariants as form
use Rattle.base.specs.Parsing.{Parsed}
use Rattle.base.specs.ParsingLaws.{Finds, found, none, finds_unless, finds_then}
use Rattle.rule.specs.Limits.{deepest}
use Rattle.rule.specs.Header.{variables, kind_at}
use Rattle.rule.specs.Tree.{Expr, Statement, skip, branch, Block, end, then}
use Rattle.rule.specs.Expressions.{read_expr}
use Rattle.rule.specs.Blocks.{read_assign, branch_with, statement_form, statement_with, closed_or, block_with, block_fuel, read_block, read_statement}
use Rattle.rule.specs.Kinds.{Typed, WordsFit, EachExprIn, EachExpr}
use Rattle.rule.specs.Format.{expr_bytes, statement_bytes, block_bytes, depth, nesting_in, nesting}
use Rattle.rule.specs.FoundExprLaws.{ExprFound, expr_found}

-- what is found of every expression
pub record Good (s : List ℕ) (e : Expr) (k : Kind) : Type 0 where
  pub typed : Typed (variables s) (kind_at s) e k
  pub words : Bytes s → WordsFit e k
  pub shallow : depth e ≤ deepest

-- what is found of a statement and of a block that was read at `at`, with `nest` ifs left, up to n
pub record StatementFound (s : List ℕ) (nest at : ℕ) (t : Statement) (n : ℕ) : Type 0 where
  pub each : EachExprIn (variables s) (kind_at s) (Good s) t
  pub nests : nesting_in t ≤ nest
  pub bytes : Bytes s → drop at s ≡ statement_bytes t ++ drop n s

pub record BlockFound (s : List ℕ) (nest at : ℕ) (b : Block) (n : ℕ) : Type 0 where
  pub each : EachExpr (variables s) (kind_at s) (Good s) b
  pub nests : nesting b ≤ nest
  pub bytes : Bytes s → drop at s ≡ block_bytes b ++ drop n s

module _ (s : List ℕ) where
  pub good : (k : Kind) (at : ℕ) (e : Expr) (n : ℕ) → ExprFound s k deepest at e n → Good s e k
  good k at e n r = record { typed = r.typed; words = r.words; shallow = r.shallow }

  -- a reader of blocks finds them so
  abbrev FindsBlock : (ℕ → ℕ → Parsed Block) → Type 0
  FindsBlock block = (nest at : ℕ) → Finds (BlockFound s nest at) (block nest at)

  of_assign : (nest at : ℕ) → get_or s at 0 ≡ 0x01 → Finds (StatementFound s nest at) (read_assign s at)
  unfolding read_assign nesting_in statement_bytes
  of_assign nest at c =
      finds_unless (ltb (at + 1) (length s)) 4 (length s) _
      (λ i. finds_unless (ltb (get_or s (at + 1) 0) (variables s)) 6 (at + 1) _
      (λ x. finds_then (read_expr deepest s (kind_at s (get_or s (at + 1) 0)) (at + 2)) _ (expr_found s deepest (kind_at s (get_or s (at + 1) 0)) (at + 2))
      (λ e n r. found (record {
        each = (ltb-true _ _ x, good (kind_at s (get_or s (at + 1) 0)) (at + 2) e n r);
        nests = omega arith;
        bytes = λ b. drop_two s at 0x01 (ltb-true _ _ i) c ∙ ap (λ (l : List ℕ). 0x01 ∷ (get_or s (at + 1) 0 ∷ l)) (r.bytes b);
      }))))

  -- an if, from its parts
  is_branch : (nest at : ℕ) (c : Expr) (x y : Block) (n m l : ℕ) → 0 < nest → drop at s ≡ 0x03 ∷ drop (at + 1) s
      → ExprFound s kind.Bit deepest (at + 1) c n → BlockFound s (nest - 1) n x m → BlockFound s (nest - 1) m y l → StatementFound s nest at (branch c x y) l
  unfolding nesting_in statement_bytes
  is_branch nest at c x y n m l z here r p q =
      record {
        each = (good kind.Bit (at + 1) c n r, p.each, q.each);
        nests = omega (arith, p.nests, q.nests);
        bytes = λ b.
            here ∙ ap (λ (u : List ℕ). 0x03 ∷ u) (r.bytes b
            ∙ ap (λ (u : List ℕ). expr_bytes c ++ u)
            (p.bytes b ∙ ap (λ (u : List ℕ). block_bytes x ++ u) (q.bytes b) ∙ sym (append_assoc (block_bytes x) (block_bytes y) (drop l s)))
            ∙ sym (append_assoc (expr_bytes c) (block_bytes x ++ block_bytes y) (drop l s)));
      }

  module _ (block : ℕ → ℕ → Parsed Block) (g : FindsBlock block) (nest at : ℕ) (inside : at < length s) where
    of_branch : get_or s at 0 ≡ 0x03 → Finds (StatementFound s nest at) (branch_with block s nest at)
    unfolding branch_with
    of_branch c =
        finds_unless (ltb 0 nest) 8 at _
        (λ z. finds_then (read_expr deepest s kind.Bit (at + 1)) _ (expr_found s deepest kind.Bit (at + 1))
        (λ e n r. finds_then (block (nest - 1) n) _ (g (nest - 1) n)
        (λ x m p. finds_then (block (nest - 1) m) _ (g (nest - 1) m)
        (λ y l q. found (is_branch nest at e x y n m l (ltb-true _ _ z) (drop_one s at 0x03 inside c) r p q)))))

    of_statement : (f : Form) → Opens (get_or s at 0) f → Finds (StatementFound s nest at) (statement_form f block s nest at)
    unfolding nesting_in statement_bytes
    of_statement form.End c = none
    of_statement form.Assign c = of_assign nest at c
    of_statement form.Skip c = found {a = skip} (record { each = tt; nests = omega arith; bytes = λ b. drop_one s at 0x02 inside c })
    of_statement form.Branch c = of_branch c
    of_statement form.Variable c = none
    of_statement form.Word c = none
    of_statement form.Bit c = none
    of_statement (form.Apply op) c = none
    of_statement form.Unknown c = none

    is_then : (t : Statement) (b : Block) (n m : ℕ) → StatementFound s nest at t n → BlockFound s nest n b m → BlockFound s nest at (then t b) m
    unfolding nesting block_bytes
    is_then t b n m r p =
        record {
          each = (r.each, p.each);
          nests = omega (arith, r.nests, p.nests);
          bytes = λ y. r.bytes y ∙ ap (λ (u : List ℕ). statement_bytes t ++ u) (p.bytes y) ∙ sym (append_assoc (statement_bytes t) (block_bytes b) (drop m s));
        }

    of_closed : (z : Bool) → eqb (get_or s at 0) 0x00 ≡ z → Finds (BlockFound s nest at) (closed_or z block s nest at)
    unfolding statement_with nesting block_bytes
    of_closed true z = found {a = end} (record { each = tt; nests = omega arith; bytes = λ b. drop_one s at 0x00 inside (eqb-true _ _ z) })
    of_closed false z =
        finds_then (statement_with block s nest at) _ (of_statement (code_of (get_or s at 0)).form (code_opens (get_or s at 0)))
        (λ t n r. finds_then (block nest n) _ (g nest n) (λ b m p. found (is_then t b n m r p)))

  fuel_found : (fuel : ℕ) → FindsBlock (block_fuel fuel s)
  unfolding block_fuel block_with
  fuel_found zero nest at = none
  fuel_found (suc fuel) nest at =
      finds_unless (ltb at (length s)) 4 (length s) _ (λ i. of_closed (block_fuel fuel s) (fuel_found fuel) nest at (ltb-true _ _ i) (eqb (get_or s at 0) 0x00) refl)

  -- a block that was read
  pub block_found : FindsBlock (read_block s)
  unfolding read_block
  block_found = fuel_found (suc (length s))

  -- and a statement
  pub statement_found : (nest at : ℕ) → at < length s → Finds (StatementFound s nest at) (read_statement s nest at)
  unfolding read_statement statement_with
  statement_found nest at inside = of_statement (read_block s) block_found nest at inside (code_of (get_or s at 0)).form (code_opens (get_or s at 0))
