-- Reading what the format writes, a whole rule: the file of a well-formed rule is read back to it.
use Rattle.std.specs.Prelude.{ℕ, ◌+◌, ◌≤◌, ◌<◌, ◌≡◌, refl, List, [], ◌∷◌, ◌++◌, length, get_or, drop}
use Rattle.std.proofs.Common.{arith, sym, ap, ◌∙◌, append-nil, le-leb, length-append, get_or-append-add}
use Rattle.std.proofs.Math.ListN.{get_or-append}
use Rattle.std.proofs.Math.Seq.{drop-append_seam}
use Rattle.base.specs.declared.Kind.{Kind}
use Rattle.base.specs.Parsing.{parsed}
use Rattle.rule.specs.Limits.{most_variables, last_kind, nested}
use Rattle.rule.specs.Header.{kind_of, mark, kind_at, read_header}
use Rattle.rule.specs.Tree.{Expr, Block}
use Rattle.rule.specs.Blocks.{read_block}
use Rattle.rule.specs.Rule.{read_rule}
use Rattle.rule.specs.RuleLaws.{header_right, rule_is}
use Rattle.rule.specs.Kinds.{Typed, WordsFit, EachExpr}
use Rattle.rule.specs.Format.{block_bytes, header_bytes, rule_bytes, kind_in, Shallow, WellFormed}
use Rattle.rule.specs.EachLaws.{each_same, typed_same}
use Rattle.rule.proofs.BackLaws.{block_back}

-- a header and any bytes after it
module _ (kinds body : List ℕ) where
  -- a kind byte stands where it was written
  pub kind_byte : (x : ℕ) → x < length kinds → get_or (header_bytes kinds ++ body) (6 + x) 0 ≡ get_or kinds x 0
  kind_byte x l = get_or-append-add (mark ++ (length kinds ∷ [])) (kinds ++ body) x 0 ∙ get_or-append kinds body 0 x l

  pub same_kinds : (x : ℕ) → x < length kinds → kind_in kinds x ≡ kind_at (header_bytes kinds ++ body) x
  same_kinds x l = ap kind_of (sym (kind_byte x l))

  pub size_is : length (header_bytes kinds ++ body) ≡ 6 + length kinds + length body
  size_is = omega (arith, length-append kinds body)

  pub body_at : drop (6 + length kinds) (header_bytes kinds ++ body) ≡ body
  body_at =
      let q : 6 + length kinds ≡ length (header_bytes kinds) = omega arith in
      rw q (drop-append_seam (header_bytes kinds) body)

  pub header_back : 1 ≤ length kinds → length kinds ≤ most_variables → ((x : ℕ) → x < length kinds → get_or kinds x 0 ≤ last_kind)
      → read_header (header_bytes kinds ++ body) ≡ parsed tt (6 + length kinds)
  header_back some few known = header_right (header_bytes kinds ++ body) refl some few (omega (arith, size_is)) (λ x l. rw (kind_byte x l) (known x l))

-- a well-formed rule
module _ (kinds : List ℕ) (b : Block) (w : WellFormed kinds b) where
  -- a fact of every expression, by the kinds that the file gives
  by_file : (P Q : Expr → Kind → Type 0) → ((e : Expr) (k : Kind) → P e k → Q e k) → EachExpr (length kinds) (kind_in kinds) P b
      → EachExpr (length kinds) (kind_at (rule_bytes kinds b)) Q b
  by_file P Q to h = each_same (length kinds) (kind_in kinds) (kind_at (rule_bytes kinds b)) (same_kinds kinds (block_bytes b)) P Q to b h

  body_back : read_block (rule_bytes kinds b) nested (6 + length kinds) ≡ parsed b (6 + length kinds + length (block_bytes b))
  body_back =
      block_back (rule_bytes kinds b) b nested (6 + length kinds) []
      (by_file (Typed (length kinds) (kind_in kinds)) (Typed (length kinds) (kind_at (rule_bytes kinds b)))
      (typed_same (length kinds) (kind_in kinds) (kind_at (rule_bytes kinds b)) (same_kinds kinds (block_bytes b))) w.typed)
      (by_file WordsFit WordsFit (λ e k h. h) w.words) (by_file Shallow Shallow (λ e k h. h) w.shallow) w.nests (body_at kinds (block_bytes b) ∙ sym (append-nil (block_bytes b)))

  pub well_back : read_rule (rule_bytes kinds b) ≡ parsed b (length (rule_bytes kinds b))
  well_back =
      let size = size_is kinds (block_bytes b) in
      rule_is (rule_bytes kinds b) (omega (arith, size)) w.size
      ∙ rw (header_back kinds (block_bytes b) w.some w.few w.known, body_back, le-leb (length (rule_bytes kinds b)) (6 + length kinds + length (block_bytes b)) (omega (arith, size)))
      (ap (parsed b) (sym size))
