-- What was read of statements, blocks and a whole rule: for the passes that walk the bytes of an accepted rule again.
use Rattle.std.specs.Prelude.{ℕ, ◌+◌, ◌-◌, ◌<◌, ◌≤◌, ◌≡◌, refl, List, Bool, length, get_or, ltb, leb, eqb}
use Rattle.std.proofs.Common.{sym, ap, subst, ◌∙◌, lt-ltb, eq-eqb, ne_eqb, ltb-true, leb-true}
use Rattle.base.specs.declared.Kind.TheVariants as kind
use Rattle.base.specs.Parsing.{Parsed, parsed, refused, step_of, unless, ◌>>=◌, IsRead}
use Rattle.base.specs.ParsingLaws.{is_read, unless_read, first_read, rest_read, parts_read}
use Rattle.rule.specs.Limits.{least_rule_bytes, most_rule_bytes, deepest, nested}
use Rattle.rule.specs.Header.{variables, kind_at, read_header}
use Rattle.rule.specs.Tree.{Expr, Statement, assign, branch, Block, end, then}
use Rattle.rule.specs.Expressions.{read_expr}
use Rattle.rule.specs.Blocks.{read_assign, branch_with, statement_with, closed_or, block_with, read_block, read_statement}
use Rattle.rule.specs.FuelLaws.{block_is}
use Rattle.rule.specs.Rule.{nothing_after, read_rule}
use Rattle.rule.specs.RuleLaws.{Headed, header_past, rule_is}

-- an assignment: its variable is in range, and its expression was read at that variable's kind
pub record AssignRead (s : List ℕ) (at : ℕ) : Type 0 where
  pub inside : at + 1 < length s
  pub range : get_or s (at + 1) 0 < variables s
  pub value : IsRead (read_expr deepest s (kind_at s (get_or s (at + 1) 0)) (at + 2))
  pub is : read_assign s at ≡ (read_expr deepest s (kind_at s (get_or s (at + 1) 0)) (at + 2) >>= λ e n. parsed (assign (get_or s (at + 1) 0) e) n)

pub assign_read : (s : List ℕ) (at : ℕ) → IsRead (read_assign s at) → AssignRead s at
unfolding read_assign
assign_read s at h =
    let x = get_or s (at + 1) 0 in
    let value = read_expr deepest s (kind_at s x) (at + 2) in
    let last = value >>= λ e n. parsed (assign x e) n in
    let a = unless_read (ltb (at + 1) (length s)) 4 (length s) (unless (ltb x (variables s)) 6 (at + 1) last) h in
    let b = unless_read (ltb x (variables s)) 6 (at + 1) last a.1 in
    record {
      inside = ltb-true _ _ a.0;
      range = ltb-true _ _ b.0;
      value = first_read value (λ e n. parsed (assign x e) n) b.1;
      is = rw (a.0, b.0);
    }

-- an if: a level is left, and its three parts were read one after another
pub record BranchRead (s : List ℕ) (nest at : ℕ) : Type 0 where
  pub level : 0 < nest
  pub c : Expr
  pub first : ℕ
  pub test : read_expr deepest s kind.Bit (at + 1) ≡ parsed c first
  pub x : Block
  pub second : ℕ
  pub yes : read_block s (nest - 1) first ≡ parsed x second
  pub y : Block
  pub next : ℕ
  pub no : read_block s (nest - 1) second ≡ parsed y next
  pub is : branch_with (read_block s) s nest at ≡ parsed (branch c x y) next

pub branch_read : (s : List ℕ) (nest at : ℕ) → IsRead (branch_with (read_block s) s nest at) → BranchRead s nest at
unfolding branch_with
branch_read s nest at h =
    let afterSecond : Expr → Block → Block → ℕ → Parsed Statement = λ c x y n. parsed (branch c x y) n in
    let afterFirst : Expr → Block → ℕ → Parsed Statement = λ c x n. read_block s (nest - 1) n >>= afterSecond c x in
    let after_test : Expr → ℕ → Parsed Statement = λ c n. read_block s (nest - 1) n >>= afterFirst c in
    let test = read_expr deepest s kind.Bit (at + 1) in
    let a = unless_read (ltb 0 nest) 8 at (test >>= after_test) h in
    let c = is_read test (first_read test after_test a.1) in
    let h1 : IsRead (after_test c.0 c.1) = rest_read test after_test c.0 c.1 c.2 a.1 in
    let x = is_read (read_block s (nest - 1) c.1) (first_read (read_block s (nest - 1) c.1) (afterFirst c.0) h1) in
    let h2 : IsRead (afterFirst c.0 x.0 x.1) = rest_read (read_block s (nest - 1) c.1) (afterFirst c.0) x.0 x.1 x.2 h1 in
    let y = is_read (read_block s (nest - 1) x.1) (first_read (read_block s (nest - 1) x.1) (afterSecond c.0 x.0) h2) in
    record {
      level = ltb-true _ _ a.0;
      c = c.0;
      first = c.1;
      test = c.2;
      x = x.0;
      second = x.1;
      yes = x.2;
      y = y.0;
      next = y.1;
      no = y.2;
      is =
          ap (λ (t : Bool). unless t 8 at (test >>= after_test)) a.0
          ∙ (ap (λ (g : Parsed Expr). g >>= after_test) c.2
          ∙ (ap (λ (g : Parsed Block). g >>= afterFirst c.0) x.2 ∙ ap (λ (g : Parsed Block). g >>= afterSecond c.0 x.0) y.2));
    }

-- and where a level is left and its three parts are read, an if is read
pub branch_parts : (s : List ℕ) (nest at : ℕ) → 0 < nest → (c : Expr) (x y : Block) (first second next : ℕ)
    → read_expr deepest s kind.Bit (at + 1) ≡ parsed c first → read_block s (nest - 1) first ≡ parsed x second → read_block s (nest - 1) second ≡ parsed y next
    → branch_with (read_block s) s nest at ≡ parsed (branch c x y) next
unfolding branch_with
branch_parts s nest at level c x y first second next p q r = rw (lt-ltb 0 nest level, p, q, r)

-- a block lies in the file; closed here it is the end
pub block_inside : (s : List ℕ) (nest at : ℕ) → IsRead (read_block s nest at) → at < length s
unfolding block_with
block_inside s nest at h =
    ltb-true _ _ (unless_read (ltb at (length s)) 4 (length s) (closed_or (eqb (get_or s at 0) 0) (read_block s) s nest at) (subst IsRead (block_is s nest at) h)).0

pub block_closed : (s : List ℕ) (nest at : ℕ) → at < length s → get_or s at 0 ≡ 0 → read_block s nest at ≡ parsed end (at + 1)
unfolding block_with
block_closed s nest at l e = rw (block_is s nest at, lt-ltb _ _ l, eq-eqb _ _ e)

-- else a statement that was read, and the block after it
pub record BlockRead (s : List ℕ) (nest at : ℕ) (b : Block) (last : ℕ) : Type 0 where
  pub x : Statement
  pub next : ℕ
  pub statement : read_statement s nest at ≡ parsed x next
  pub rest : Block
  pub block : read_block s nest next ≡ parsed rest last
  pub is : b ≡ then x rest

pub block_read : (s : List ℕ) (nest at : ℕ) (b : Block) (last : ℕ) → read_block s nest at ≡ parsed b last → (get_or s at 0 ≡ 0 → ⊥) → BlockRead s nest at b last
unfolding block_with read_statement
block_read s nest at b last e z =
    let h : block_with (read_block s) s nest at ≡ parsed b last = sym (block_is s nest at) ∙ e in
    let u = unless_read (ltb at (length s)) 4 (length s) (closed_or (eqb (get_or s at 0) 0) (read_block s) s nest at) (subst IsRead (sym h) tt) in
    let q = rw (u.0, ne_eqb _ _ z) at h in
    let v = parts_read (statement_with (read_block s) s nest at) (λ x n. read_block s nest n >>= λ r l. parsed (then x r) l) q in
    let w = parts_read (read_block s nest v.1) (λ r l. parsed (then v.0 r) l) v.3 in
    let same : w.1 ≡ last = cc in
    record { x = v.0; next = v.1; statement = v.2; rest = w.0; block = w.2 ∙ ap (parsed w.0) same; is = cc }

-- an accepted rule: its header was read, and it is the block after it
pub record RuleRead (s : List ℕ) : Type 0 where
  pub small : length s ≤ most_rule_bytes
  pub header : Headed s (6 + variables s)
  pub block : read_rule s ≡ read_block s nested (6 + variables s)

last_same : (s : List ℕ) (m : Parsed Block) → IsRead (m >>= nothing_after s) → (m >>= nothing_after s) ≡ m
last_same s (parsed b n) h = rw (unless_read (leb (length s) n) 9 n (parsed b n) h).0
last_same s (refused k p) h = absurd h

pub rule_read : (s : List ℕ) → IsRead (read_rule s) → RuleRead s
unfolding read_rule
rule_read s h =
    let body : Unit {0} → ℕ → Parsed Block = λ _ at. read_block s nested at >>= nothing_after s in
    let a = unless_read (leb least_rule_bytes (length s)) 1 0 (unless (leb (length s) most_rule_bytes) 1 0 (read_header s >>= body)) h in
    let b = unless_read (leb (length s) most_rule_bytes) 1 0 (read_header s >>= body) a.1 in
    let k = is_read (read_header s) (first_read (read_header s) body b.1) in
    let g = header_past s (leb-true _ _ a.0) (sym (ap step_of k.2)) in
    let r : IsRead (body k.0 k.1) = rest_read (read_header s) body k.0 k.1 k.2 b.1 in
    record {
      small = leb-true _ _ b.0;
      header = record { marked = g.marked; some = g.some; few = g.few; kinds = g.kinds; known = g.known; after = refl };
      block =
          rule_is s (leb-true _ _ a.0) (leb-true _ _ b.0) ∙ ap (λ (m : Parsed (Unit {0})). m >>= body) k.2
          ∙ (last_same s (read_block s nested k.1) r ∙ ap (read_block s nested) g.after);
    }
