-- Where an expression stands: the block's bytes are those before it, its own and those after it; and another can stand in its place.
use Rattle.std.specs.Prelude.{ℕ, ◌≡◌, List, ◌∷◌, ◌++◌}
use Rattle.std.proofs.Common.{sym, ap, append_assoc, append-nil}
use Rattle.base.specs.Codes.{byte_of}
use Rattle.rule.specs.Tree.{Expr, one, two, Statement, Block}
use Rattle.rule.specs.Tree as tree
use Rattle.rule.specs.Format.{expr_bytes, statement_bytes, block_bytes}
use Rattle.rule.specs.OnlyOrder.{ExprUpToOrder, same, in_one, in_two, StatementUpToOrder, assign, skip, branch, BlockUpToOrder, end, then}
use Rattle.rule.specs.Standing.{InExpr, whole, in_only, in_left, in_right, InBlock, in_assign, in_test, in_first, in_second, in_rest}

-- the bytes

expr_split : {e d : Expr} {pre post : List ℕ} → InExpr e d pre post → expr_bytes d ≡ pre ++ (expr_bytes e ++ post)
unfolding expr_bytes
expr_split {e} whole = sym (append-nil (expr_bytes e))
expr_split (in_only {op = op} i) = ap (λ (l : List ℕ). byte_of op ∷ l) (expr_split i)
expr_split (in_left {op = op} i) = rw (expr_split i) (simp append_assoc)
expr_split (in_right {op = op} i) = rw (expr_split i) (simp append_assoc)

-- the parts of an if, bracketed to the right
join_first : (c pre e post y b : List ℕ) → (c ++ ((pre ++ (e ++ post)) ++ y)) ++ b ≡ (c ++ pre) ++ (e ++ (post ++ (y ++ b)))
join_first c pre e post y b = simp append_assoc

join_second : (c x pre e post b : List ℕ) → (c ++ (x ++ (pre ++ (e ++ post)))) ++ b ≡ (c ++ (x ++ pre)) ++ (e ++ (post ++ b))
join_second c x pre e post b = simp append_assoc

pub block_split : {e : Expr} {b : Block} {pre post : List ℕ} → InBlock e b pre post → block_bytes b ≡ pre ++ (expr_bytes e ++ post)
unfolding statement_bytes block_bytes
block_split (in_assign i) = rw (expr_split i) (simp append_assoc)
block_split (in_test i) = rw (expr_split i) (simp append_assoc)
block_split {e} (in_first {c = c} {second = y} {b = b} {pre = pre} {post = post} i) =
    rw (block_split i) (ap (λ (l : List ℕ). 0x03 ∷ l) (join_first (expr_bytes c) pre (expr_bytes e) post (block_bytes y) (block_bytes b)))
block_split {e} (in_second {c = c} {first = x} {b = b} {pre = pre} {post = post} i) =
    rw (block_split i) (ap (λ (l : List ℕ). 0x03 ∷ l) (join_second (expr_bytes c) (block_bytes x) pre (expr_bytes e) post (block_bytes b)))
block_split (in_rest i) = rw (block_split i) (simp append_assoc)

-- what is the same differs in no place

mutual
  statement_self : (t : Statement) → StatementUpToOrder t t
  statement_self (tree.assign x e) = assign same
  statement_self tree.skip = skip
  statement_self (tree.branch c b d) = branch same (block_self b) (block_self d)

  block_self : (b : Block) → BlockUpToOrder b b
  block_self tree.end = end
  block_self (tree.then t b) = then (statement_self t) (block_self b)

-- f in the place of e, when the two differ only in such an order

expr_turned : {e f d : Expr} {pre post : List ℕ} → ExprUpToOrder e f → InExpr e d pre post → (d' : Expr) × ExprUpToOrder d d' × InExpr f d' pre post
expr_turned {f = f} o whole = (f, o, whole)
expr_turned o (in_only {op = op} i) = let r = expr_turned o i in (one op r.0, in_one r.1, in_only r.2)
expr_turned o (in_left {op = op} {f = g} i) = let r = expr_turned o i in (two op r.0 g, in_two r.1 same, in_left r.2)
expr_turned o (in_right {op = op} {d = g} i) = let r = expr_turned o i in (two op g r.0, in_two same r.1, in_right r.2)

pub block_turned : {e f : Expr} {b : Block} {pre post : List ℕ} → ExprUpToOrder e f → InBlock e b pre post → (d : Block) × BlockUpToOrder b d × InBlock f d pre post
block_turned o (in_assign {x = x} {b = b} i) =
    let r = expr_turned o i in
    (tree.then (tree.assign x r.0) b, then (assign r.1) (block_self b), in_assign r.2)
block_turned o (in_test {first = x} {second = y} {b = b} i) =
    let r = expr_turned o i in
    (tree.then (tree.branch r.0 x y) b, then (branch r.1 (block_self x) (block_self y)) (block_self b), in_test r.2)
block_turned o (in_first {c = c} {second = y} {b = b} i) =
    let r = block_turned o i in
    (tree.then (tree.branch c r.0 y) b, then (branch same r.1 (block_self y)) (block_self b), in_first r.2)
block_turned o (in_second {c = c} {first = x} {b = b} i) =
    let r = block_turned o i in
    (tree.then (tree.branch c x r.0) b, then (branch same (block_self x) r.1) (block_self b), in_second r.2)
block_turned o (in_rest {t = t} i) =
    let r = block_turned o i in
    (tree.then t r.0, then (statement_self t) r.1, in_rest r.2)
