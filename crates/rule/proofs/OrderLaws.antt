-- Rules that differ only in the order of such variables (document 02, C-12), written by the format: if one is well-formed, so is the other, and the two files are OnlyOrder.
use Rattle.std.specs.Prelude.{ℕ, suc, ◌+◌, ◌≡◌, refl, List, length}
use Rattle.std.proofs.Common.{arith, sym, ap, ◌∙◌, length-append, take_at}
use Rattle.base.specs.Codes.{entry_of}
use Rattle.base.specs.declared.Kind.{Kind}
use Rattle.base.specs.declared.Kind.TheVariants as kind
use Rattle.base.specs.Parsing.{Parsed, parsed, refused, IsRead}
use Rattle.rule.specs.Tree.{Expr, Statement, Block}
use Rattle.rule.specs.Rule.{read_rule}
use Rattle.rule.specs.Kinds.{Typed, WordsFit, EachExprIn, EachExpr}
use Rattle.rule.specs.Format.{expr_bytes, statement_bytes, block_bytes, header_bytes, rule_bytes, kind_in, depth, Shallow, nesting_in, nesting, WellFormed}
use Rattle.rule.proofs.RuleFormat.{rule_back}
use Rattle.rule.specs.OnlyOrder.{ExprUpToOrder, same, turned, in_one, in_two, StatementUpToOrder, assign, skip, branch, BlockUpToOrder, end, then, ReadUpToOrder, OnlyOrder}

-- two files that differ only so are both read
trees_read : (r q : Parsed Block) → ReadUpToOrder r q → IsRead r × IsRead q
trees_read (parsed b n) (parsed d m) h = (tt, tt)
trees_read (parsed b n) (refused number place) h = absurd h
trees_read (refused number place) q h = absurd h

pub both_read : (s t : List ℕ) → OnlyOrder s t → IsRead (read_rule s) × IsRead (read_rule t)
both_read s t o = trees_read (read_rule s) (read_rule t) o.blocks

-- expressions: kinds, word constants, depth and size stay

module _ (v : ℕ) (kinds : ℕ → Kind) where
  typed_order : {d e : Expr} → ExprUpToOrder d e → (k : Kind) → Typed v kinds d k → Typed v kinds e k
  typed_order same k h = h
  typed_order (turned c) k h = (h.0, h.1, h.3, h.2)
  typed_order (in_one {op = op} o) k h = (h.0, h.1, typed_order o (entry_of op).takes h.2)
  typed_order (in_two {op = op} o p) k h = (h.0, h.1, typed_order o (entry_of op).takes h.2, typed_order p (entry_of op).takes h.3)

words_order : {d e : Expr} → ExprUpToOrder d e → (k : Kind) → WordsFit d k → WordsFit e k
words_order same k h = h
words_order (turned c) k h = (tt, tt)
words_order (in_one {op = op} o) k h = words_order o (entry_of op).takes h
words_order (in_two {op = op} o p) k h = (words_order o (entry_of op).takes h.0, words_order p (entry_of op).takes h.1)

depth_order : {d e : Expr} → ExprUpToOrder d e → depth d ≡ depth e
unfolding depth
depth_order same = refl
depth_order (turned c) = refl
depth_order (in_one o) = ap suc (depth_order o)
depth_order (in_two o p) = rw (depth_order o, depth_order p)

expr_size : {d e : Expr} → ExprUpToOrder d e → length (expr_bytes d) ≡ length (expr_bytes e)
unfolding expr_bytes
expr_size same = refl
expr_size (turned c) = refl
expr_size (in_one o) = ap suc (expr_size o)
expr_size (in_two o p) = simp (length-append, expr_size o, expr_size p)

-- blocks: what such an order keeps of every expression stays of all, and nesting and size stay

module _ (v : ℕ) (kinds : ℕ → Kind) (P : Expr → Kind → Type 0) (keeps : (d e : Expr) → ExprUpToOrder d e → (k : Kind) → P d k → P e k) where
  mutual
    statement_order : {t u : Statement} → StatementUpToOrder t u → EachExprIn v kinds P t → EachExprIn v kinds P u
    statement_order (assign {x = x} {d = d} {e = e} o) h = (h.0, keeps d e o (kinds x) h.1)
    statement_order skip h = tt
    statement_order (branch {c = c} {c' = c'} o p q) h = (keeps c c' o kind.Bit h.0, block_order p h.1, block_order q h.2)

    block_order : {b d : Block} → BlockUpToOrder b d → EachExpr v kinds P b → EachExpr v kinds P d
    block_order end h = tt
    block_order (then o p) h = (statement_order o h.0, block_order p h.1)

mutual
  unfolding nesting_in nesting

  statement_nesting : {t u : Statement} → StatementUpToOrder t u → nesting_in t ≡ nesting_in u
  statement_nesting (assign o) = refl
  statement_nesting skip = refl
  statement_nesting (branch o p q) = rw (block_nesting p, block_nesting q)

  block_nesting : {b d : Block} → BlockUpToOrder b d → nesting b ≡ nesting d
  block_nesting end = refl
  block_nesting (then o p) = rw (statement_nesting o, block_nesting p)

mutual
  unfolding statement_bytes block_bytes

  statement_size : {t u : Statement} → StatementUpToOrder t u → length (statement_bytes t) ≡ length (statement_bytes u)
  statement_size (assign o) = ap (λ (n : ℕ). suc (suc n)) (expr_size o)
  statement_size skip = refl
  statement_size (branch o p q) = simp (length-append, expr_size o, block_size p, block_size q)

  block_size : {b d : Block} → BlockUpToOrder b d → length (block_bytes b) ≡ length (block_bytes d)
  block_size end = refl
  block_size (then o p) = simp (length-append, statement_size o, block_size p)

module _ (kinds : List ℕ) (b d : Block) (w : WellFormed kinds b) (o : BlockUpToOrder b d) where
  pub well_order : WellFormed kinds d
  well_order =
      let size : length (rule_bytes kinds b) ≡ length (rule_bytes kinds d) = simp (length-append, block_size o) in
      record {
        some = w.some;
        few = w.few;
        known = w.known;
        typed = block_order (length kinds) (kind_in kinds) (Typed (length kinds) (kind_in kinds)) (λ d e. typed_order (length kinds) (kind_in kinds)) o w.typed;
        words = block_order (length kinds) (kind_in kinds) WordsFit (λ d e. words_order) o w.words;
        shallow = block_order (length kinds) (kind_in kinds) Shallow (λ d e p k h. rw (depth_order p) at h) o w.shallow;
        nests = rw (block_nesting o) at w.nests;
        size = rw size at w.size;
      }

  -- the two files
  pub rules_order : OnlyOrder (rule_bytes kinds b) (rule_bytes kinds d)
  rules_order =
      let q : length (header_bytes kinds) ≡ 6 + length kinds = omega arith in
      record {
        headers = take_at (header_bytes kinds) (block_bytes b) (6 + length kinds) q ∙ sym (take_at (header_bytes kinds) (block_bytes d) (6 + length kinds) q);
        blocks = rw (rule_back kinds b w, rule_back kinds d well_order) o;
      }
