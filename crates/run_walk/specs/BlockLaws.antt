-- Running statements and blocks over the rule's bytes: what comes next was read too, and the figures after an assignment, a skip, an if, a block are the direct run's.
use Rattle.std.specs.Prelude.{ℕ, ◌+◌, ◌-◌, ◌<◌, ◌≡◌, refl, List, length, get_or, set}
use Rattle.std.proofs.Common.{sym, ap, subst, ◌∙◌, eq-eqb, ne_eqb}
use Rattle.base.specs.Codes.{code_of}
use Rattle.base.specs.declared.Kind.{Kind}
use Rattle.base.specs.declared.Kind.TheVariants as kind
use Rattle.base.specs.declared.Code.{Code}
use Rattle.base.specs.declared.Form.{Form}
use Rattle.base.specs.Parsing.{Parsed, parsed, ◌>>=◌, IsRead}
use Rattle.base.specs.ParsingLaws.{is_read, read_is, same_what, same_next}
use Rattle.rule.specs.Limits.{deepest}
use Rattle.rule.specs.Header.{kind_at}
use Rattle.rule.specs.Tree.{Expr, Statement, assign, skip, branch, Block}
use Rattle.rule.specs.Expressions.{read_expr}
use Rattle.rule.specs.Blocks.{read_assign, branch_with, statement_form, read_statement, read_block}
use Rattle.rule.specs.BlockLaws.{statement_as}
use Rattle.rule.specs.FirstStatement.{assign_read, branch_read, branch_parts, block_inside, block_closed, block_read}
use Rattle.circuit.specs.Running.{run_statement, run_block}
use Rattle.circuit.specs.StepLaws.{run_assign, run_skip, run_first, run_second, run_end, run_then}
use Rattle.run_walk.specs.Walking.{WorkedOut, Ran, Passed, AmidBlock}
use Rattle.run_walk.specs.declared.Value.{Value}

-- an assignment, its expression read at the kind of its variable
module _ (s : List ℕ) (at : ℕ) (h : IsRead (read_assign s at)) (want : Kind) (k : want ≡ kind_at s (get_or s (at + 1) 0)) where
  pub assign_taken : IsRead (read_expr deepest s want (at + 2))
  assign_taken = subst (λ (z : Kind). IsRead (read_expr deepest s z (at + 2))) (sym k) (assign_read s at h).value

  pub assign_ran : (f : List ℕ) (v : Value) → WorkedOut f (read_expr deepest s want (at + 2)) v
      → Ran run_statement (read_assign s at) f v.next (set f (get_or s (at + 1) 0) v.figure)
  assign_ran f v w = record {
    what = assign (get_or s (at + 1) 0) w.what;
    read =
        (assign_read s at h).is
        ∙ ap (λ (g : Parsed Expr). g >>= λ e n. parsed (assign (get_or s (at + 1) 0) e) n)
        (ap (λ (z : Kind). read_expr deepest s z (at + 2)) (sym k) ∙ w.read);
    figures = ap (set f (get_or s (at + 1) 0)) w.is ∙ sym (run_assign (get_or s (at + 1) 0) w.what f);
  }

-- a statement, by the form of the code c that stands there
module _ (s : List ℕ) (nest at : ℕ) (h : IsRead (read_statement s nest at)) (c : Code) (e : c ≡ code_of (get_or s at 0)) (g : Form) (q : c.form ≡ g) where
  pub statement_taken : IsRead (statement_form g (read_block s) s nest at)
  statement_taken = subst IsRead (statement_as s nest at c g e q) h

  pub statement_ran : {f k : List ℕ} {n : ℕ} → Ran run_statement (statement_form g (read_block s) s nest at) f n k → Ran run_statement (read_statement s nest at) f n k
  statement_ran r = record { what = r.what; read = statement_as s nest at c g e q ∙ r.read; figures = r.figures }

pub skip_ran : (at : ℕ) (f : List ℕ) → Ran run_statement (parsed skip (at + 1)) f (at + 1) f
skip_ran at f = record { what = skip; read = refl; figures = sym (run_skip f) }

-- an if: its bit was worked out
module _ (s : List ℕ) (nest at : ℕ) (h : IsRead (branch_with (read_block s) s nest at)) where
  pub branch_level : 0 < nest
  branch_level = (branch_read s nest at h).level

  pub test_taken : IsRead (read_expr deepest s kind.Bit (at + 1))
  test_taken = read_is _ (branch_read s nest at h).test

  module _ (f : List ℕ) (v : Value) (w : WorkedOut f (read_expr deepest s kind.Bit (at + 1)) v) where
    after_test : (branch_read s nest at h).first ≡ v.next
    after_test = same_next (sym (branch_read s nest at h).test ∙ w.read)

    first_is : read_block s (nest - 1) v.next ≡ parsed (branch_read s nest at h).x (branch_read s nest at h).second
    first_is = ap (read_block s (nest - 1)) (sym after_test) ∙ (branch_read s nest at h).yes

    pub first_taken : IsRead (read_block s (nest - 1) v.next)
    first_taken = read_is _ first_is

    pub second_taken : (x : Block) (m : ℕ) → read_block s (nest - 1) v.next ≡ parsed x m → IsRead (read_block s (nest - 1) m)
    second_taken x m p = subst (λ (k : ℕ). IsRead (read_block s (nest - 1) k)) (same_next (sym first_is ∙ p)) (read_is _ (branch_read s nest at h).no)

    -- the bit names the first block
    pub branch_yes : v.figure ≡ 1 → {m l : ℕ} {g : List ℕ} → Ran run_block (read_block s (nest - 1) v.next) f m g → Passed (read_block s (nest - 1) m) l
        → Ran run_statement (branch_with (read_block s) s nest at) f l g
    branch_yes b {m} {l} r p = record {
      what = branch w.what r.what p.what;
      read = branch_parts s nest at branch_level w.what r.what p.what v.next m l w.read r.read p.read;
      figures = r.figures ∙ sym (run_first w.what r.what p.what f (eq-eqb _ 1 (sym w.is ∙ b)));
    }

    -- the bit names the second block
    pub branch_no : (v.figure ≡ 1 → ⊥) → {m l : ℕ} {g : List ℕ} → Passed (read_block s (nest - 1) v.next) m → Ran run_block (read_block s (nest - 1) m) f l g
        → Ran run_statement (branch_with (read_block s) s nest at) f l g
    branch_no b {m} {l} p r = record {
      what = branch w.what p.what r.what;
      read = branch_parts s nest at branch_level w.what p.what r.what v.next m l w.read p.read r.read;
      figures = r.figures ∙ sym (run_second w.what p.what r.what f (ne_eqb _ 1 (λ z. b (w.is ∙ z))));
    }

-- a block, statement by statement
pub amid_start : (s : List ℕ) (nest at : ℕ) (f : List ℕ) → IsRead (read_block s nest at) → AmidBlock s nest at f at f
amid_start s nest at f h =
    let b = is_read (read_block s nest at) h in
    record { whole = b.0; rest = b.0; last = b.1; read = b.2; left = b.2; same = refl }

module _ (s : List ℕ) (nest at : ℕ) (f : List ℕ) (here : ℕ) (g : List ℕ) (a : AmidBlock s nest at f here g) where
  pub amid_inside : here < length s
  amid_inside = block_inside s nest here (read_is _ a.left)

  -- closed here
  pub amid_end : get_or s here 0 ≡ 0 → Ran run_block (read_block s nest at) f (here + 1) g
  amid_end z =
      let e = sym a.left ∙ block_closed s nest here amid_inside z in
      record {
        what = a.whole;
        read = a.read ∙ ap (parsed a.whole) (same_next e);
        figures = sym (a.same ∙ ap (λ (b : Block). run_block b g) (same_what e) ∙ run_end g);
      }

  -- a statement here
  module _ (z : get_or s here 0 ≡ 0 → ⊥) where
    pub amid_taken : IsRead (read_statement s nest here)
    amid_taken = read_is _ (block_read s nest here a.rest a.last a.left z).statement

    pub amid_more : {n : ℕ} {k : List ℕ} → Ran run_statement (read_statement s nest here) g n k → AmidBlock s nest at f n k
    amid_more {n} {k} r =
        let b = block_read s nest here a.rest a.last a.left z in
        let e = sym b.statement ∙ r.read in
        record {
          whole = a.whole;
          rest = b.rest;
          last = a.last;
          read = a.read;
          left = ap (read_block s nest) (sym (same_next e)) ∙ b.block;
          same =
              a.same ∙ ap (λ (d : Block). run_block d g) b.is ∙ run_then b.x b.rest g
              ∙ ap (run_block b.rest) (ap (λ (t : Statement). run_statement t g) (same_what e) ∙ sym r.figures);
        }
