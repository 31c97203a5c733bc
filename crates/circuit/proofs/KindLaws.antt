-- Kinds: results are of their kind; so are the figures of a direct run, and those of the gates of a circuit whose gates fit.
use Rattle.std.specs.Prelude.{ℕ, zero, suc, ◌<◌, ◌≡◌, refl, List, ◌⊎◌, ltb, length, get_or, set}
use Rattle.std.proofs.Common.{◌∙◌, inl, inr, arith, ltb-true, ltb-false, get_or-set_same, get_or-set_other}
use Rattle.std.proofs.Math.Path.{subst}
use Rattle.std.proofs.Math.ListN.{get_or-eq_default}
use Rattle.base.specs.Lists.{◌∈◌}
use Rattle.base.specs.TestLaws.{split, same?}
use Rattle.base.specs.Codes.{Fits}
use Rattle.base.specs.Results.{result_of, is_one}
use Rattle.base.specs.declared.Kind.{Kind}
use Rattle.base.specs.declared.Kind.TheVariants as kind
use Rattle.base.specs.Inputs.{FiguresFit}
use Rattle.base.specs.ResultLaws.{result_fits}
use Rattle.rule.specs.Tree.{Expr, variable, word, bit, one, two, Statement, assign, skip, branch, Block, end, then}
use Rattle.rule.specs.Kinds.{Typed, TypedStatement, TypedBlock, WordsFit, WordsStatement, WordsBlock}
use Rattle.circuit.specs.Running.{figure_of, run_statement, run_block}
use Rattle.circuit.specs.Gates.{Gate, start, operation, choice, Gates, gate_at, arguments, Earlier, figure, figure_at}
use Rattle.circuit.specs.Gates as gate
use Rattle.circuit.specs.GateKinds.{gate_kind, kind_of_gate, GateFits, GatesFit}
use Rattle.circuit.specs.FigureLaws.{OnArguments, gates_right, figures_right}
use Rattle.circuit.proofs.RunLaws.{statement_count}

module _ (v : ℕ) (kinds : ℕ → Kind) where
  -- an expression's figure is of its kind
  pub expr_fits : (e : Expr) (k : Kind) → Typed v kinds e k → WordsFit e k → (f : List ℕ) → FiguresFit v kinds f → Fits k (figure_of f e)
  unfolding figure_of
  expr_fits (variable x) k (h, t) w f a = rw t at (a x h)
  expr_fits (word n) k t w f a = subst (λ (z : Kind). Fits z n) t w
  expr_fits (bit b) k (h, t) w f a = subst (λ (z : Kind). Fits z b) t h
  expr_fits (one op e) k (h, g, t) w f a = subst (λ (z : Kind). Fits z (result_of op (figure_of f e) 0)) g (result_fits op (figure_of f e) 0)
  expr_fits (two op d e) k (h, g, t, u) w f a = subst (λ (z : Kind). Fits z (result_of op (figure_of f d) (figure_of f e))) g (result_fits op (figure_of f d) (figure_of f e))

  mutual
    unfolding run_statement

    -- so a run keeps every variable's figure of its kind
    pub statement_fits : (t : Statement) → TypedStatement v kinds t → WordsStatement v kinds t → (f : List ℕ) → length f ≡ v
        → FiguresFit v kinds f → FiguresFit v kinds (run_statement t f)
    statement_fits (assign x e) (h, t) (h', w) f n a y l = go (same? y x)
      where
        go : (y ≡ x) ⊎ (y ≡ x → ⊥) → Fits (kinds y) (get_or (set f x (figure_of f e)) y 0)
        go (inl z) = rw (z, get_or-set_same f x (figure_of f e) 0 (omega arith)) (expr_fits e (kinds x) t w f a)
        go (inr z) = rw (get_or-set_other f x y (figure_of f e) 0 z) (a y l)
    statement_fits skip h w f n a y l = a y l
    statement_fits (branch c b d) (h, t, u) (w, w₁, w₂) f n a y l =
        split (is_one (figure_of f c)) (λ q. rw q (block_fits b t w₁ f n a y l)) (λ q. rw q (block_fits d u w₂ f n a y l))

    pub block_fits : (b : Block) → TypedBlock v kinds b → WordsBlock v kinds b → (f : List ℕ) → length f ≡ v
        → FiguresFit v kinds f → FiguresFit v kinds (run_block b f)
    block_fits end h w f n a = a
    block_fits (then t b) (h, u) (w, x) f n a = block_fits b u x (run_statement t f) (statement_count t f ∙ n) (λ y l. statement_fits t h w f n a y l)

pub kind_same : (kinds : ℕ → Kind) → OnArguments (gate_kind kinds)
kind_same kinds (start x) v w h = refl
kind_same kinds (gate.word n) v w h = refl
kind_same kinds (gate.bit b) v w h = refl
kind_same kinds (operation op l) v w h = refl
kind_same kinds (choice c a b) v w h = h a (inr (inl refl))

-- the kind of every gate is its kind of its arguments' kinds
pub kinds_right : (kinds : ℕ → Kind) (C : Gates) → Earlier C
    → (i : ℕ) → i < length C → kind_of_gate kinds C i ≡ gate_kind kinds (kind_of_gate kinds C) (gate_at C i)
unfolding kind_of_gate
kinds_right kinds C e = gates_right kind.Word (gate_kind kinds) (kind_same kinds) C e

-- a gate's figure is of its kind, if its arguments' figures are of theirs
figure_fits : (kinds : ℕ → Kind) (inputs : List ℕ) (k : ℕ → Kind) (v : ℕ → ℕ) → ((x : ℕ) → Fits (kinds x) (get_or inputs x 0))
    → (g : Gate) → GateFits k g → ((a : ℕ) → a ∈ arguments g → Fits (k a) (v a)) → Fits (gate_kind kinds k g) (figure inputs v g)
figure_fits kinds inputs k v i (start x) h r = i x
figure_fits kinds inputs k v i (gate.word n) h r = h
figure_fits kinds inputs k v i (gate.bit b) h r = h
figure_fits kinds inputs k v i (operation op l) h r = result_fits op _ _
figure_fits kinds inputs k v i (choice c a b) (h, e) r =
    split (is_one (v c)) (λ t. rw t (r a (inr (inl refl)))) (λ t. rw (t, e) (r b (inr (inr (inl refl)))))

-- and so every gate's figure is of its kind
pub gate_fits : (kinds : ℕ → Kind) (inputs : List ℕ) (C : Gates) → Earlier C → GatesFit kinds C → ((x : ℕ) → Fits (kinds x) (get_or inputs x 0))
    → (n i : ℕ) → i < n → i < length C → Fits (kind_of_gate kinds C i) (figure_at inputs C i)
gate_fits kinds inputs C e f x zero i h l = absurd (omega arith)
gate_fits kinds inputs C e f x (suc n) i h l =
    rw (kinds_right kinds C e i l, figures_right inputs C e i l)
    (figure_fits kinds inputs (kind_of_gate kinds C) (figure_at inputs C) x (gate_at C i) (f i)
    (λ a m. gate_fits kinds inputs C e f x n a (omega (arith, e i a m)) (omega (arith, e i a m))))

zero_fits : (k : Kind) → Fits k 0
zero_fits kind.Word = omega arith
zero_fits kind.Bit = omega arith

-- inputs that fit, also past their end
pub inputs_fit : (v : ℕ) (kinds : ℕ → Kind) (inputs : List ℕ) → length inputs ≡ v → FiguresFit v kinds inputs → (x : ℕ) → Fits (kinds x) (get_or inputs x 0)
inputs_fit v kinds inputs n a x =
    split (ltb x v) (λ t. a x (ltb-true x v t))
    (λ t. rw (get_or-eq_default inputs 0 {n = x} (omega (arith, ltb-false x v t))) (zero_fits (kinds x)))
