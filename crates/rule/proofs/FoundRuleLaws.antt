-- What reading finds, a whole rule: what is read is well-formed, and it is the tree of the file's bytes.
use Rattle.std.specs.Prelude.{ℕ, ◌+◌, ◌≤◌, ◌<◌, ◌≡◌, refl, List, ◌∷◌, ◌++◌, leb, length, get_or, drop}
use Rattle.std.proofs.Common.{arith, sym, ap, subst, ◌∙◌, append-nil, leb-true, length-drop, take-append-drop, drop_of_length-le, drop-drop, get_or-take, get_or-drop, length-take-le}
use Rattle.std.proofs.Math.Path.{subst⁻¹}
use Rattle.base.specs.Numbers.{Bytes}
use Rattle.base.specs.ListLaws.{drop_one}
use Rattle.base.specs.declared.Kind.{Kind}
use Rattle.base.specs.Parsing.{Parsed, parsed, refused, ◌>>=◌}
use Rattle.base.specs.ParsingLaws.{Finds, found, none, finds_read, finds_unless, read_is}
use Rattle.rule.specs.Limits.{least_rule_bytes, most_rule_bytes, nested}
use Rattle.rule.specs.Header.{kind_of, mark, variables, kind_at, read_header}
use Rattle.rule.specs.Tree.{Expr, Block}
use Rattle.rule.specs.Blocks.{read_block}
use Rattle.rule.specs.Rule.{nothing_after, read_rule}
use Rattle.rule.specs.Kinds.{Typed, WordsFit, EachExpr, TypedBlock, WordsBlock}
use Rattle.rule.specs.Format.{block_bytes, header_bytes, rule_bytes, kind_bytes, kind_in, Shallow, WellFormed}
use Rattle.rule.specs.EachLaws.{each_same, typed_same}
use Rattle.rule.proofs.FoundLaws.{Good, BlockFound, block_found}
use Rattle.rule.specs.FirstStatement.{RuleRead, rule_read}
use Rattle.rule.specs.RuleLaws.{Headed}

-- a rule ends where its block does
block_ends : (s : List ℕ) (m : Parsed Block) → Finds (λ b n. length s ≤ n) (m >>= nothing_after s)
block_ends s (parsed b n) = finds_unless (leb (length s) n) 9 n _ (λ t. found (leb-true _ _ t))
block_ends s (refused k p) = none

header_ends : (s : List ℕ) (m : Parsed (Unit {0})) → Finds (λ b n. length s ≤ n) (m >>= λ _ at. read_block s nested at >>= nothing_after s)
header_ends s (parsed u at) = block_ends s (read_block s nested at)
header_ends s (refused k p) = none

rule_ends : (s : List ℕ) → Finds (λ b n. length s ≤ n) (read_rule s)
unfolding read_rule
rule_ends s = finds_unless (leb least_rule_bytes (length s)) 1 0 _ (λ l. finds_unless (leb (length s) most_rule_bytes) 1 0 _ (λ h. header_ends s (read_header s)))

-- a header that was read: its kind bytes, and the file is it and what stands after it
module _ (s : List ℕ) {body : ℕ} (h : Headed s body) where
  pub kinds_count : length (kind_bytes s) ≡ variables s
  kinds_count = length-take-le (variables s) (drop 6 s) (rw length-drop (omega (arith, h.kinds)))

  pub header_bytes_lem : s ≡ header_bytes (kind_bytes s) ++ drop (6 + variables s) s
  header_bytes_lem =
      h.marked
      ∙ ap (λ (l : List ℕ). mark ++ l)
      (drop_one s 5 (variables s) (omega (arith, h.kinds)) refl
      ∙ ap (λ (l : List ℕ). variables s ∷ l)
      (sym (take-append-drop (variables s) (drop 6 s)) ∙ ap (λ (l : List ℕ). kind_bytes s ++ l) (drop-drop (variables s) 6 s))
      ∙ ap (λ (v : ℕ). v ∷ (kind_bytes s ++ drop (6 + variables s) s)) (sym kinds_count))

kind_byte : (s : List ℕ) (x : ℕ) → x < variables s → get_or (kind_bytes s) x 0 ≡ get_or s (6 + x) 0
kind_byte s x l = get_or-take (variables s) (drop 6 s) x 0 l ∙ get_or-drop 6 s x 0

pub kinds_same : (s : List ℕ) (x : ℕ) → x < variables s → kind_at s x ≡ kind_in (kind_bytes s) x
kinds_same s x l = ap kind_of (sym (kind_byte s x l))

module _ (s : List ℕ) (b : Block) (n : ℕ) (h : read_rule s ≡ parsed b n) where
  abbrev whole : RuleRead s
  whole = rule_read s (read_is (read_rule s) h)

  body : BlockFound s nested (6 + variables s) b n
  body = finds_read (read_block s nested (6 + variables s)) (block_found s nested (6 + variables s)) (sym whole.block ∙ h)

  -- every rule that is read is typed by its kind bytes
  pub read_typed : TypedBlock (variables s) (kind_at s) b
  read_typed = each_same (variables s) (kind_at s) (kind_at s) (λ x l. refl) (Good s) (Typed (variables s) (kind_at s)) (λ e k g. g.typed) b body.each

  -- and of bytes its word constants are words
  pub read_words : Bytes s → WordsBlock (variables s) (kind_at s) b
  read_words bytes = each_same (variables s) (kind_at s) (kind_at s) (λ x l. refl) (Good s) WordsFit (λ e k g. g.words bytes) b body.each

  -- a fact of every expression, by those kind bytes
  by_kinds : (P : Expr → Kind → Type 0) → ((e : Expr) (k : Kind) → Good s e k → P e k) → EachExpr (length (kind_bytes s)) (kind_in (kind_bytes s)) P b
  by_kinds P to =
      subst⁻¹ (λ (v : ℕ). EachExpr v (kind_in (kind_bytes s)) P b) (kinds_count s whole.header)
      (each_same (variables s) (kind_at s) (kind_in (kind_bytes s)) (kinds_same s) (Good s) P to b body.each)

  typed_by : (e : Expr) (k : Kind) → Good s e k → Typed (length (kind_bytes s)) (kind_in (kind_bytes s)) e k
  typed_by e k g =
      subst⁻¹ (λ (v : ℕ). Typed v (kind_in (kind_bytes s)) e k) (kinds_count s whole.header) (typed_same (variables s) (kind_at s) (kind_in (kind_bytes s)) (kinds_same s) e k g.typed)

  module _ (bytes : Bytes s) where
    -- the file is that rule's bytes
    pub read_bytes : s ≡ rule_bytes (kind_bytes s) b
    read_bytes =
        header_bytes_lem s whole.header
        ∙ ap (λ (l : List ℕ). header_bytes (kind_bytes s) ++ l)
        (body.bytes bytes ∙ ap (λ (l : List ℕ). block_bytes b ++ l) (drop_of_length-le s (finds_read (read_rule s) (rule_ends s) h)) ∙ append-nil (block_bytes b))

    pub read_well : WellFormed (kind_bytes s) b
    read_well =
        record {
          some = omega (arith, kinds_count s whole.header, whole.header.some);
          few = omega (arith, kinds_count s whole.header, whole.header.few);
          known = λ x l. let i : x < variables s = omega (arith, kinds_count s whole.header) in rw (kind_byte s x i) (whole.header.known x i);
          typed = by_kinds (Typed (length (kind_bytes s)) (kind_in (kind_bytes s))) typed_by;
          words = by_kinds WordsFit (λ e k g. g.words bytes);
          shallow = by_kinds Shallow (λ e k g. g.shallow);
          nests = body.nests;
          size = subst (λ (l : List ℕ). length l ≤ most_rule_bytes) read_bytes whole.small;
        }
