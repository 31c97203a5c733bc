-- Laws for document 02, C-13: a rule is refused with 3 at a kind byte exactly when that byte is above 03.
use Prim.Native.Nat.{ℕ, zero, suc, ◌+◌, ◌-◌, ◌≤◌, ◌<◌}
use native.Mathlib.Omega.{arith}
use Rattle.std.specs.Prelude.{◌≡◌, Bool, List, ◌↔◌, length, get_or, take, ltb, leb, eqb}
use Rattle.std.proofs.Math.Path.{refl}
use Rattle.std.proofs.Common.{subst, ◌∙◌, eqb-true, leb-true, leb-false}
use Rattle.std.proofs.Math.Bool.{true, false}
use Rattle.std.proofs.lemmas.Bool.{eqb-false}
use Rattle.base.specs.TestLaws.{split}
use Rattle.base.specs.Codes.{code_of}
use Rattle.base.specs.declared.Kind.{Kind}
use Rattle.base.specs.declared.Kind.TheVariants as kind
use Rattle.base.specs.declared.Form.{Form}
use Rattle.base.specs.declared.Form.TheVariants.{End, Assign, Skip, Branch, Variable, Word, Bit, Apply, Unknown}
use Rattle.base.specs.Parsing.{Parsed, refused, unless}
use Rattle.rule.specs.Limits.{most_variables, last_kind, deepest, nested}
use Rattle.rule.specs.Header.{mark, variables, kind_at, read_kinds}
use Rattle.rule.specs.Tree.{Block}
use Rattle.rule.specs.Expressions.{read_expr}
use Rattle.rule.specs.Blocks.{read_assign, branch_with, statement_form, statement_with, closed_or, block_with, block_fuel, read_block}
use Rattle.rule.specs.Rule.{read_rule}
use Rattle.rule.specs.RuleLaws.{kinds_wrong, kinds_passed, header_is, rule_is}
use Rattle.rule.specs.RefusalLaws.{Refuses, test, after, refuses_too, InExpr, expr_row}

-- no block is refused with a number below 4
abbrev Late : ℕ → ℕ → Type 0
Late number place = 4 ≤ number

module _ (s : List ℕ) where
  late : {A : Type 0} (t : Bool) (k p : ℕ) (m : Parsed A) → leb 4 k ≡ true → Refuses Late m → Refuses Late (unless t k p m)
  late t k p m l h = test Late t k p m (λ e. leb-true 4 k l) (λ e. h)

  expr_late : (want : Kind) (at : ℕ) → Refuses Late (read_expr deepest s want at)
  expr_late want at = refuses_too (InExpr s) Late (λ k p r. r.least) (read_expr deepest s want at) (expr_row s deepest want at)

  assign_late : (at : ℕ) → Refuses Late (read_assign s at)
  unfolding read_assign
  assign_late at =
      late (ltb (at + 1) (length s)) 4 (length s) _ refl
      (late (ltb (get_or s (at + 1) 0) (variables s)) 6 (at + 1) _ refl
      (after Late (read_expr deepest s (kind_at s (get_or s (at + 1) 0)) (at + 2)) _ (expr_late (kind_at s (get_or s (at + 1) 0)) (at + 2)) (λ e n q. tt)))

  module _ (block : ℕ → ℕ → Parsed Block) (lates : (k a : ℕ) → Refuses Late (block k a)) where
    branch_late : (nest at : ℕ) → Refuses Late (branch_with block s nest at)
    unfolding branch_with
    branch_late nest at =
        late (ltb 0 nest) 8 at _ refl
        (after Late (read_expr deepest s kind.Bit (at + 1)) _ (expr_late kind.Bit (at + 1))
        (λ c n p. after Late (block (nest - 1) n) _ (lates (nest - 1) n) (λ x m q. after Late (block (nest - 1) m) _ (lates (nest - 1) m) (λ y l r. tt))))

    statement_late : (f : Form) (nest at : ℕ) → Refuses Late (statement_form f block s nest at)
    statement_late End nest at = omega arith
    statement_late Assign nest at = assign_late at
    statement_late Skip nest at = tt
    statement_late Branch nest at = branch_late nest at
    statement_late Variable nest at = omega arith
    statement_late Word nest at = omega arith
    statement_late Bit nest at = omega arith
    statement_late (Apply op) nest at = omega arith
    statement_late Unknown nest at = omega arith

    closed_late : (t : Bool) (nest at : ℕ) → Refuses Late (closed_or t block s nest at)
    unfolding statement_with
    closed_late true nest at = tt
    closed_late false nest at =
        after Late (statement_form (code_of (get_or s at 0)).form block s nest at) _ (statement_late (code_of (get_or s at 0)).form nest at)
        (λ x n p. after Late (block nest n) _ (lates nest n) (λ b m q. tt))

    with_late : (nest at : ℕ) → Refuses Late (block_with block s nest at)
    unfolding block_with
    with_late nest at = late (ltb at (length s)) 4 (length s) _ refl (closed_late (eqb (get_or s at 0) 0x00) nest at)

  fuel_late : (fuel nest at : ℕ) → Refuses Late (block_fuel fuel s nest at)
  unfolding block_fuel
  fuel_late zero nest at = omega arith
  fuel_late (suc fuel) nest at = with_late (block_fuel fuel s) (λ k a. fuel_late fuel k a) nest at

  block_late : (nest at : ℕ) → Refuses Late (read_block s nest at)
  unfolding read_block
  block_late nest at = fuel_late (suc (length s)) nest at

-- a refusal that is not 3 at the place
abbrev Elsewhere : ℕ → ℕ → ℕ → Type 0
Elsewhere place k p = k ≡ 3 → p ≡ place → ⊥

-- a kind byte after it is refused elsewhere
kinds_elsewhere : (s : List ℕ) (place n at : ℕ) → place < at → Refuses (Elsewhere place) (read_kinds n s at)
unfolding read_kinds
kinds_elsewhere s place zero at l = tt
kinds_elsewhere s place (suc n) at l =
    test (Elsewhere place) (ltb at (length s)) 4 (length s) _ (λ f e q. omega arith)
    (λ t. test (Elsewhere place) (leb (get_or s at 0) last_kind) 3 at _ (λ f e q. omega arith) (λ u. kinds_elsewhere s place n (at + 1) (omega arith)))

-- a rule of a right size, with its mark and version and V in range
module _ (s : List ℕ) (lo : 6 ≤ length s) (hi : length s ≤ 4096) (marked : take 5 s ≡ mark) (some : 1 ≤ variables s) (few : variables s ≤ most_variables) where
  module _ (x : ℕ) (one : x < variables s) (there : 6 + x < length s) (known : (y : ℕ) → y < x → get_or s (6 + y) 0 ≤ last_kind) where
    kind_wrong : last_kind < get_or s (6 + x) 0 → read_rule s ≡ refused 3 (6 + x)
    kind_wrong h =
        rule_is s lo hi
        ∙ rw (header_is s marked some few ∙ kinds_passed x (variables s) s 6 (omega arith) (omega arith) known ∙ kinds_wrong s (6 + x) (variables s - x) (omega arith) there h)

    kind_right : get_or s (6 + x) 0 ≤ last_kind → Refuses (Elsewhere (6 + x)) (read_rule s)
    kind_right h =
        let more : (y : ℕ) → y < suc x → get_or s (6 + y) 0 ≤ last_kind = λ y l. split (eqb y x) (λ t. rw (eqb-true y x t) h) (λ t. known y (let n = eqb-false y x t in omega arith)) in
        let kinds = header_is s marked some few ∙ kinds_passed (suc x) (variables s) s 6 (omega arith) (omega arith) more in
        rw (rule_is s lo hi, kinds)
        (after (Elsewhere (6 + x)) (read_kinds (variables s - suc x) s (6 + suc x)) _ (kinds_elsewhere s (6 + x) (variables s - suc x) (6 + suc x) (omega arith))
        (λ u at p. after (Elsewhere (6 + x)) (read_block s nested at) _ (refuses_too Late (Elsewhere (6 + x)) (λ k p l e q. omega arith) (read_block s nested at) (block_late s nested at))
        (λ b n q. test (Elsewhere (6 + x)) (leb (length s) n) 9 n _ (λ f e q. omega arith) (λ t. tt))))

    pub kind_refused : (read_rule s ≡ refused 3 (6 + x)) ↔ (last_kind < get_or s (6 + x) 0)
    kind_refused = (
      λ e. split (leb (get_or s (6 + x) 0) last_kind) (λ t. absurd (subst (Refuses (Elsewhere (6 + x))) e (kind_right (leb-true _ _ t)) refl refl)) (λ t. leb-false _ _ t),
      kind_wrong,
    )
