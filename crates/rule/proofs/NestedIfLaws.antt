-- Laws for document 02, C-17: a refusal inside ifs is the whole block's, and an if inside eight is 8 at its code.
use Rattle.std.specs.Prelude.{ℕ, suc, ◌+◌, ◌-◌, ◌≤◌, ◌<◌, ◌≡◌, List, ◌∷◌, ◌++◌, get_or, drop}
use Rattle.std.proofs.Common.{arith, sym, ap, ◌∙◌, append_assoc, length-append}
use Rattle.std.proofs.Math.Path.{refl}
use Rattle.std.proofs.Math.ListN.{length}
use Rattle.base.specs.Codes.{code_of}
use Rattle.base.specs.declared.Kind.{Kind}
use Rattle.base.specs.declared.Kind.TheVariants as kind
use Rattle.base.specs.Parsing.{refused, step_of}
use Rattle.base.specs.ParsingLaws.{read_refused}
use Rattle.base.specs.Parsing.{Past, Refused}
use Rattle.rule.specs.Limits.{most_rule_bytes, most_variables, last_kind, deepest, nested}
use Rattle.rule.specs.Header.{variables, kind_at}
use Rattle.rule.specs.Tree.{Expr, Statement, assign, skip, branch, Block, end, then}
use Rattle.rule.specs.Kinds.{Typed, WordsFit, EachExpr}
use Rattle.rule.specs.Expressions.{read_expr}
use Rattle.rule.specs.Blocks.{read_block, read_statement}
use Rattle.rule.specs.BlockLaws.{branch_deep, branch_first, branch_second, block_refused, block_more}
use Rattle.rule.specs.Format.{expr_bytes, statement_bytes, block_bytes, header_bytes, kind_in, Shallow}
use Rattle.rule.specs.EachLaws.{each_same, typed_same}
use Rattle.rule.specs.BackExprLaws.{byte_at, bytes_after, expr_back}
use Rattle.rule.proofs.BackLaws.{statement_back, block_back}
use Rattle.rule.specs.Rule.{read_rule}
use Rattle.rule.specs.RuleLaws.{rule_block}
use Rattle.rule.proofs.BackRuleLaws.{same_kinds, size_is, body_at, header_back}
use Rattle.rule.specs.NestedIfs.{WellExpr, WellStatement, WellBlock, Leads, outset, past, into_first, into_second}

-- a file that has these kind bytes
module _ (s kinds : List ℕ) (v : variables s ≡ length kinds) (same : (x : ℕ) → x < length kinds → kind_in kinds x ≡ kind_at s x) where
  -- what is well-formed by them is so by the file
  typed_there : (e : Expr) (k : Kind) → WellExpr kinds e k → Typed (variables s) (kind_at s) e k
  typed_there e k w = rw v (typed_same (length kinds) (kind_in kinds) (kind_at s) same e k w.0)

  by_file : (Q : Expr → Kind → Type 0) → ((e : Expr) (k : Kind) → WellExpr kinds e k → Q e k) → (b : Block) → EachExpr (length kinds) (kind_in kinds) (WellExpr kinds) b
      → EachExpr (variables s) (kind_at s) Q b
  by_file Q to b h = rw v (each_same (length kinds) (kind_in kinds) (kind_at s) same (WellExpr kinds) Q to b h)

  -- a statement, a condition and a block are read back where they stand
  module _ (at : ℕ) (rest : List ℕ) where
    well_statement : (t : Statement) (n nest : ℕ) → WellStatement kinds n t → nest + n ≡ nested → drop at s ≡ statement_bytes t ++ rest
        → Past (at + length (statement_bytes t)) ≡ step_of (read_statement s nest at)
    well_statement t n nest w e h =
        sym (ap step_of (statement_back s t nest at rest (by_file _ typed_there (then t end) (w.0, tt)).0 (by_file WordsFit (λ e k x. x.1) (then t end) (w.0, tt)).0
        (by_file Shallow (λ e k x. x.2) (then t end) (w.0, tt)).0 (omega (arith, e, w.1)) h))

    well_test : (c : Expr) → WellExpr kinds c kind.Bit → drop at s ≡ expr_bytes c ++ rest → Past (at + length (expr_bytes c)) ≡ step_of (read_expr deepest s kind.Bit at)
    well_test c w h = sym (ap step_of (expr_back s c deepest kind.Bit at rest (typed_there c kind.Bit w) w.1 w.2 h))

    well_block : (b : Block) (n nest : ℕ) → WellBlock kinds n b → nest + n ≡ nested → drop at s ≡ block_bytes b ++ rest
        → Past (at + length (block_bytes b)) ≡ step_of (read_block s nest at)
    well_block b n nest w e h =
        sym (ap step_of (block_back s b nest at rest (by_file _ typed_there b w.0) (by_file WordsFit (λ e k x. x.1) b w.0) (by_file Shallow (λ e k x. x.2) b w.0)
        (omega (arith, e, w.1)) h))

  -- no statement's code is 00
  opens : (t : Statement) (at : ℕ) (rest : List ℕ) → drop at s ≡ statement_bytes t ++ rest → (at < length s) × (get_or s at 0 ≡ 0 → ⊥)
  unfolding statement_bytes
  opens (assign x e) at rest h = let c = byte_at s at 0x01 _ h in (c.inside, λ z. omega (arith, c.byte, z))
  opens skip at rest h = let c = byte_at s at 0x02 _ h in (c.inside, λ z. omega (arith, c.byte, z))
  opens (branch c x y) at rest h = let c = byte_at s at 0x03 _ h in (c.inside, λ z. omega (arith, c.byte, z))

  -- a refusal in a block of an if is the if's, and of the block around it
  module _ (nest at : ℕ) (c : Expr) (w : WellExpr kinds c kind.Bit) (rest : List ℕ) (h : drop at s ≡ 0x03 ∷ (expr_bytes c ++ rest)) where
    less : suc nest - 1 ≡ nest
    less = omega arith

    coded : code_of 0x03 ≡ code_of (get_or s at 0)
    coded = ap code_of (sym (byte_at s at 0x03 _ h).byte)

    tested : Past (at + 1 + length (expr_bytes c)) ≡ step_of (read_expr deepest s kind.Bit (at + 1))
    tested = well_test (at + 1) rest c w (byte_at s at 0x03 _ h).next

    module _ (k p : ℕ) where
      around : Refused k p ≡ step_of (read_statement s (suc nest) at) → Refused k p ≡ step_of (read_block s (suc nest) at)
      around = let b = byte_at s at 0x03 _ h in block_refused s (suc nest) at b.inside (λ z. omega (arith, b.byte, z))

      in_first_lem : Refused k p ≡ step_of (read_block s nest (at + 1 + length (expr_bytes c))) → Refused k p ≡ step_of (read_block s (suc nest) at)
      unfolding code_of
      in_first_lem q = around (branch_first s (suc nest) at (code_of 0x03) coded refl (λ z. omega arith) tested (rw less q))

      in_second_lem : (m : ℕ) → Past m ≡ step_of (read_block s nest (at + 1 + length (expr_bytes c))) → Refused k p ≡ step_of (read_block s nest m)
          → Refused k p ≡ step_of (read_block s (suc nest) at)
      unfolding code_of
      in_second_lem m g q =
          let g' : Past m ≡ step_of (read_block s (suc nest - 1) (at + 1 + length (expr_bytes c))) = rw less g in
          let q' : Refused k p ≡ step_of (read_block s (suc nest - 1) m) = rw less q in
          around (branch_second s (suc nest) at (code_of 0x03) coded refl (λ z. omega arith) tested g' q')

  -- so a refusal where the bytes lead is the whole block's
  leads_out : (at k p : ℕ) {n : ℕ} {pre : List ℕ} → Leads kinds n pre → (rest : List ℕ) → drop at s ≡ pre ++ rest → (nest : ℕ) → nest + n ≡ nested
      → Refused k p ≡ step_of (read_block s nest (at + length pre)) → Refused k p ≡ step_of (read_block s nested at)
  leads_out at k p outset rest h nest e q =
      let a : nest ≡ nested = omega (arith, e) in
      let b : at + 0 ≡ at = omega arith in
      rw (a, b) at q
  leads_out at k p (past {n = n} {pre = pre} L t w) rest h nest e q =
      let here = at + length pre in
      let h' : drop at s ≡ pre ++ (statement_bytes t ++ rest) = h ∙ append_assoc pre (statement_bytes t) rest in
      let there = bytes_after s at pre (statement_bytes t ++ rest) h' in
      let o = opens t here rest there in
      let far : at + length (pre ++ statement_bytes t) ≡ here + length (statement_bytes t) = simp length-append (omega arith) in
      leads_out at k p L (statement_bytes t ++ rest) h' nest e
      ((rw far at q) ∙ block_more s nest here o.0 o.1 (well_statement here rest t n nest w e there))
  leads_out at k p (into_first {n = n} {pre = pre} L c w) rest h nest e q =
      let here = at + length pre in
      let h' : drop at s ≡ pre ++ (0x03 ∷ (expr_bytes c ++ rest)) = h ∙ append_assoc pre (0x03 ∷ expr_bytes c) rest in
      let there = bytes_after s at pre (0x03 ∷ (expr_bytes c ++ rest)) h' in
      let far : at + length (pre ++ (0x03 ∷ expr_bytes c)) ≡ here + 1 + length (expr_bytes c) = simp length-append (omega arith) in
      leads_out at k p L (0x03 ∷ (expr_bytes c ++ rest)) h' (suc nest) (omega (arith, e)) (in_first_lem nest here c w rest there k p (rw far at q))
  leads_out at k p (into_second {n = n} {pre = pre} L c w b x) rest h nest e q =
      let here = at + length pre in
      let h' : drop at s ≡ pre ++ (0x03 ∷ (expr_bytes c ++ (block_bytes b ++ rest))) =
      h ∙ append_assoc pre (0x03 ∷ (expr_bytes c ++ block_bytes b)) rest ∙ ap (λ (l : List ℕ). pre ++ (0x03 ∷ l)) (append_assoc (expr_bytes c) (block_bytes b) rest) in
      let there = bytes_after s at pre (0x03 ∷ (expr_bytes c ++ (block_bytes b ++ rest))) h' in
      let first = here + 1 + length (expr_bytes c) in
      let block = bytes_after s (here + 1) (expr_bytes c) (block_bytes b ++ rest) (byte_at s here 0x03 _ there).next in
      let far : at + length (pre ++ (0x03 ∷ (expr_bytes c ++ block_bytes b))) ≡ first + length (block_bytes b) = simp length-append (omega arith) in
      leads_out at k p L (0x03 ∷ (expr_bytes c ++ (block_bytes b ++ rest))) h' (suc nest) (omega (arith, e))
      (in_second_lem nest here c w (block_bytes b ++ rest) there k p (first + length (block_bytes b)) (well_block first rest b (suc n) nest x e block) (rw far at q))

-- an if where none may nest any more is 8 at its code
pub too_deep : (s : List ℕ) (at : ℕ) → get_or s at 0 ≡ 0x03 → Refused 8 at ≡ step_of (read_statement s 0 at)
unfolding code_of
too_deep s at e = branch_deep s 0 at (code_of 0x03) (ap code_of (sym e)) refl refl

-- a rule whose bytes lead into eight ifs, and then an if
module _ (kinds pre rest : List ℕ) (some : 1 ≤ length kinds) (few : length kinds ≤ most_variables) (known : (x : ℕ) → x < length kinds → get_or kinds x 0 ≤ last_kind)
    (leads : Leads kinds nested pre) where
  abbrev after : List ℕ
  after = pre ++ (0x03 ∷ rest)

  abbrev s : List ℕ
  s = header_bytes kinds ++ after

  abbrev there : ℕ
  there = 6 + length kinds + length pre

  -- the if there is one too deep
  deep : Refused 8 there ≡ step_of (read_block s 0 there)
  deep =
      let b = byte_at s there 0x03 rest (bytes_after s (6 + length kinds) pre (0x03 ∷ rest) (body_at kinds after)) in
      block_refused s 0 there b.inside (λ z. omega (arith, b.byte, z)) (too_deep s there b.byte)

  refused_there : Refused 8 there ≡ step_of (read_block s nested (6 + length kinds))
  refused_there = leads_out s kinds refl (same_kinds kinds after) (6 + length kinds) 8 there leads (0x03 ∷ rest) (body_at kinds after) 0 refl deep

  pub ninth_nested : length s ≤ most_rule_bytes → read_rule s ≡ refused 8 (length (header_bytes kinds ++ pre))
  ninth_nested size =
      read_refused (read_rule s) (rule_block s (omega (arith, size_is kinds after)) size (sym (ap step_of (header_back kinds after some few known))) refused_there)
      ∙ ap (refused 8) (let e = length-append kinds pre in omega (arith, e))
