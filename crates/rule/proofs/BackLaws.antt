-- Reading what the format writes, statements and blocks: the bytes of a well-formed block are read back to it.
use Rattle.std.specs.Prelude.{ℕ, suc, ◌+◌, ◌-◌, ◌≤◌, ◌<◌, ◌≡◌, List, ◌∷◌, ◌++◌, length, get_or, drop}
use Rattle.std.proofs.Common.{arith, sym, ap, ◌∙◌, append_assoc, length-append}
use Rattle.std.proofs.Math.Path.{refl}
use borrow.Author.Tests.{lt-ltb, ne_eqb}
use Rattle.base.specs.Codes.{code_of}
use Rattle.base.specs.declared.Kind.TheVariants as kind
use Rattle.base.specs.declared.Form.TheVariants as form
use Rattle.base.specs.Parsing.{parsed}
use Rattle.rule.specs.Limits.{deepest}
use Rattle.rule.specs.Header.{variables, kind_at}
use Rattle.rule.specs.Tree.{Expr, Statement, assign, skip, branch, Block, end, then}
use Rattle.rule.specs.Expressions.{read_expr}
use Rattle.rule.specs.Blocks.{read_assign, branch_with, block_with, read_block, read_statement}
use Rattle.rule.specs.FuelLaws.{block_is}
use Rattle.rule.specs.BlockLaws.{statement_as}
use Rattle.rule.specs.FirstStatement.{block_closed}
use Rattle.rule.specs.Kinds.{TypedStatement, TypedBlock, WordsStatement, WordsBlock, EachExprIn, EachExpr}
use Rattle.rule.specs.Format.{expr_bytes, statement_bytes, block_bytes, nesting_in, nesting, Shallow}
use Rattle.rule.specs.BackExprLaws.{byte_at, bytes_after, expr_back}

module _ (s : List ℕ) where
  -- a statement's code is not 00
  record Open (at : ℕ) : Type 0 where
    inside : at < length s
    going : get_or s at 0 ≡ 0 → ⊥

  open_by : (at x : ℕ) (rest : List ℕ) → 0 < x → drop at s ≡ x ∷ rest → Open at
  open_by at x rest l h = let c = byte_at s at x rest h in record { inside = c.inside; going = λ z. omega (arith, c.byte, z) }

  opens : (t : Statement) (at : ℕ) (rest : List ℕ) → drop at s ≡ statement_bytes t ++ rest → Open at
  unfolding statement_bytes
  opens (assign x e) at rest h = open_by at 0x01 _ (omega arith) h
  opens skip at rest h = open_by at 0x02 rest (omega arith) h
  opens (branch c x y) at rest h = open_by at 0x03 _ (omega arith) h

  then_back : (nest at : ℕ) (t : Statement) (n : ℕ) (b : Block) (m : ℕ) → Open at → read_statement s nest at ≡ parsed t n
      → read_block s nest n ≡ parsed b m → read_block s nest at ≡ parsed (then t b) m
  unfolding block_with read_statement
  then_back nest at t n b m o p q = rw (block_is s nest at, lt-ltb _ _ o.inside, ne_eqb _ _ o.going, p, q)

  assign_back : (nest x : ℕ) (e : Expr) (at n : ℕ) (rest : List ℕ) → x < variables s → drop at s ≡ 0x01 ∷ (x ∷ rest)
      → read_expr deepest s (kind_at s x) (at + 2) ≡ parsed e n → read_statement s nest at ≡ parsed (assign x e) n
  unfolding code_of read_assign
  assign_back nest x e at n rest v h r =
      let c = byte_at s at 0x01 (x ∷ rest) h in
      let y = byte_at s (at + 1) x rest c.next in
      statement_as s nest at (code_of 0x01) form.Assign (ap code_of (sym c.byte)) refl
      ∙ rw (lt-ltb _ _ y.inside, y.byte, lt-ltb _ _ v, r)

  skip_back : (nest at : ℕ) (rest : List ℕ) → drop at s ≡ 0x02 ∷ rest → read_statement s nest at ≡ parsed skip (at + 1)
  unfolding code_of
  skip_back nest at rest h = statement_as s nest at (code_of 0x02) form.Skip (ap code_of (sym (byte_at s at 0x02 rest h).byte)) refl

  branch_back : (nest : ℕ) (c : Expr) (x y : Block) (at n m l : ℕ) (rest : List ℕ) → 0 < nest → drop at s ≡ 0x03 ∷ rest → read_expr deepest s kind.Bit
      (at + 1) ≡ parsed c n
      → read_block s (nest - 1) n ≡ parsed x m → read_block s (nest - 1) m ≡ parsed y l → read_statement s nest at ≡ parsed (branch c x y) l
  unfolding code_of branch_with
  branch_back nest c x y at n m l rest z h r p q =
      statement_as s nest at (code_of 0x03) form.Branch (ap code_of (sym (byte_at s at 0x03 rest h).byte)) refl
      ∙ rw (lt-ltb _ _ z, r, p, q)

  mutual
    unfolding statement_bytes block_bytes nesting_in nesting

    pub statement_back : (t : Statement) (nest at : ℕ) (rest : List ℕ) → TypedStatement (variables s) (kind_at s) t → WordsStatement (variables s) (kind_at s) t
        → EachExprIn (variables s) (kind_at s) Shallow t → nesting_in t ≤ nest → drop at s ≡ statement_bytes t ++ rest
        → read_statement s nest at ≡ parsed t (at + length (statement_bytes t))
    statement_back (assign x e) nest at rest t w d z h =
        let q : at + 2 + length (expr_bytes e) ≡ at + suc (suc (length (expr_bytes e))) = omega arith in
        let two : at + 1 + 1 ≡ at + 2 = omega arith in
        let c = byte_at s at 0x01 (x ∷ (expr_bytes e ++ rest)) h in
        let y = byte_at s (at + 1) x (expr_bytes e ++ rest) c.next in
        let r = expr_back s e deepest (kind_at s x) (at + 2) rest t.1 w.1 d.1 (rw two at y.next) in
        assign_back nest x e at (at + 2 + length (expr_bytes e)) (expr_bytes e ++ rest) t.0 h r ∙ ap (parsed (assign x e)) q
    statement_back skip nest at rest t w d z h = skip_back nest at rest h
    statement_back (branch c x y) nest at rest t w d z h =
        let n = at + 1 + length (expr_bytes c) in
        let m = n + length (block_bytes x) in
        let q : m + length (block_bytes y) ≡ at + suc (length (expr_bytes c ++ (block_bytes x ++ block_bytes y))) = simp length-append (omega arith) in
        let after = block_bytes x ++ (block_bytes y ++ rest) in
        let h' : drop at s ≡ 0x03 ∷ (expr_bytes c ++ after) = h ∙ ap (λ (l : List ℕ). 0x03 ∷ l) (simp append_assoc) in
        let i = (byte_at s at 0x03 (expr_bytes c ++ after) h').next in
        let j = bytes_after s (at + 1) (expr_bytes c) after i in
        let k = bytes_after s n (block_bytes x) (block_bytes y ++ rest) j in
        let r = expr_back s c deepest kind.Bit (at + 1) after t.0 w.0 d.0 i in
        let p = block_back x (nest - 1) n (block_bytes y ++ rest) t.1 w.1 d.1 (omega arith) j in
        let o = block_back y (nest - 1) m rest t.2 w.2 d.2 (omega arith) k in
        branch_back nest c x y at n m (m + length (block_bytes y)) (expr_bytes c ++ after) (omega arith) h' r p o ∙ ap (parsed (branch c x y)) q

    pub block_back : (b : Block) (nest at : ℕ) (rest : List ℕ) → TypedBlock (variables s) (kind_at s) b → WordsBlock (variables s) (kind_at s) b
        → EachExpr (variables s) (kind_at s) Shallow b → nesting b ≤ nest → drop at s ≡ block_bytes b ++ rest → read_block s nest at ≡ parsed b (at + length (block_bytes b))
    block_back end nest at rest t w d z h = let c = byte_at s at 0x00 rest h in block_closed s nest at c.inside c.byte
    block_back (then x b) nest at rest t w d z h =
        let q : at + length (statement_bytes x) + length (block_bytes b) ≡ at + length (statement_bytes x ++ block_bytes b) = simp length-append (omega arith) in
        let h' : drop at s ≡ statement_bytes x ++ (block_bytes b ++ rest) = h ∙ append_assoc (statement_bytes x) (block_bytes b) rest in
        let n = at + length (statement_bytes x) in
        let r = statement_back x nest at (block_bytes b ++ rest) t.0 w.0 d.0 (omega arith) h' in
        let p = block_back b nest n rest t.1 w.1 d.1 (omega arith) (bytes_after s at (statement_bytes x) (block_bytes b ++ rest) h') in
        then_back nest at x n b (n + length (block_bytes b)) (opens x at (block_bytes b ++ rest) h') r p ∙ ap (parsed (then x b)) q
