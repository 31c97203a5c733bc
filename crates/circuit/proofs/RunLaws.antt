-- The direct run: it keeps as many figures as there are; a variable that no statement assigns keeps its figure; figures past the variables' change nothing.
use Rattle.std.specs.Prelude.{ℕ, ◌≡◌, List, ◌++◌, false, length, get_or, set}
use Rattle.std.proofs.Common.{arith, ◌∙◌, length-set, get_or-set_other}
use Rattle.std.proofs.Math.Path.{refl, ap}
use Rattle.std.proofs.lemmas.Bool.{eqb-false}
use Rattle.std.proofs.Math.ListN.{get_or-append}
use Rattle.std.proofs.lemmas.List.{set-append_left}
use Rattle.base.specs.TestLaws.{split, or_none}
use Rattle.base.specs.Results.{result_of, is_one}
use Rattle.base.specs.declared.Kind.{Kind}
use Rattle.rule.specs.Tree.{Expr, variable, word, bit, one, two, Statement, assign, skip, branch, Block, end, then}
use Rattle.circuit.specs.Running.{figure_of, run_statement, run_block}
use Rattle.rule.specs.Kinds.{Typed, TypedStatement, TypedBlock}
use Rattle.circuit.specs.PlainCircuit.{assigns_in, assigns}

mutual
  unfolding run_statement

  pub statement_count : (t : Statement) (f : List ℕ) → length (run_statement t f) ≡ length f
  statement_count (assign x e) f = length-set f x _
  statement_count skip f = refl
  statement_count (branch c b d) f = split (is_one (figure_of f c)) (λ t. rw t (block_count b f)) (λ t. rw t (block_count d f))

  pub block_count : (b : Block) (f : List ℕ) → length (run_block b f) ≡ length f
  block_count end f = refl
  block_count (then t b) f = block_count b (run_statement t f) ∙ statement_count t f

mutual
  unfolding run_statement assigns

  pub statement_keeps : (t : Statement) (x : ℕ) (f : List ℕ) → assigns_in t x ≡ false → get_or (run_statement t f) x 0 ≡ get_or f x 0
  statement_keeps (assign y e) x f h = get_or-set_other f y x _ 0 (eqb-false x y h)
  statement_keeps skip x f h = refl
  statement_keeps (branch c b d) x f h =
      let r = or_none (assigns b x) (assigns d x) h in
      split (is_one (figure_of f c)) (λ t. rw t (block_keeps b x f r.0)) (λ t. rw t (block_keeps d x f r.1))

  pub block_keeps : (b : Block) (x : ℕ) (f : List ℕ) → assigns b x ≡ false → get_or (run_block b f) x 0 ≡ get_or f x 0
  block_keeps end x f h = refl
  block_keeps (then t b) x f h =
      let r = or_none (assigns_in t x) (assigns b x) h in
      block_keeps b x (run_statement t f) r.1 ∙ statement_keeps t x f r.0

-- over v variables, with further figures p behind theirs
module _ (v : ℕ) (kinds : ℕ → Kind) (p : List ℕ) where
  figure_pad : (e : Expr) (k : Kind) → Typed v kinds e k → (f : List ℕ) → length f ≡ v → figure_of (f ++ p) e ≡ figure_of f e
  unfolding figure_of
  figure_pad (variable x) k (h, t) f n = get_or-append f p 0 x (omega arith)
  figure_pad (word m) k t f n = refl
  figure_pad (bit b) k t f n = refl
  figure_pad (one op e) k (h, g, t) f n = ap (λ (a : ℕ). result_of op a 0) (figure_pad e _ t f n)
  figure_pad (two op d e) k (h, g, t, u) f n = rw (figure_pad d _ t f n, figure_pad e _ u f n)

  mutual
    unfolding run_statement

    statement_pad : (t : Statement) → TypedStatement v kinds t → (f : List ℕ) → length f ≡ v → run_statement t (f ++ p) ≡ run_statement t f ++ p
    statement_pad (assign x e) (h, t) f n = ap (set (f ++ p) x) (figure_pad e _ t f n) ∙ set-append_left f p x _ (omega arith)
    statement_pad skip h f n = refl
    statement_pad (branch c b d) (h, t, u) f n =
        rw (figure_pad c _ h f n) (split (is_one (figure_of f c)) (λ q. rw q (block_pad b t f n)) (λ q. rw q (block_pad d u f n)))

    -- a run leaves them, and goes as it would without them
    pub block_pad : (b : Block) → TypedBlock v kinds b → (f : List ℕ) → length f ≡ v → run_block b (f ++ p) ≡ run_block b f ++ p
    block_pad end h f n = refl
    block_pad (then t b) (h, u) f n = ap (run_block b) (statement_pad t h f n) ∙ block_pad b u (run_statement t f) (statement_count t f ∙ n)
