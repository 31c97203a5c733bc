-- The figures of the plain circuit are those of the direct run: expression by expression, statement by statement (demand 2, its induction).
use Rattle.std.specs.Prelude.{ℕ, ◌<◌, ◌≡◌, refl, List, Bool, true, false, cond, ◌⊎◌, length, get_or, set}
use Rattle.std.proofs.Common.{sym, ◌∙◌, inl, inr, arith, length-set, get_or-set_same, get_or-set_other}
use Rattle.std.proofs.Math.Path.{ap}
use Rattle.base.specs.TestLaws.{split, same?}
use Rattle.base.specs.Runs.{run_at}
use Rattle.base.specs.RunLaws.{run_at_last}
use Rattle.base.specs.Results.{result_of, is_one}
use Rattle.base.specs.declared.Kind.{Kind}
use Rattle.rule.specs.Tree.{Expr, variable, word, bit, one, two, Statement, assign, skip, branch, Block, end, then}
use Rattle.rule.specs.Kinds.{Typed, TypedStatement, TypedBlock}
use Rattle.circuit.specs.Running.{figure_of, run_statement, run_block}
use Rattle.circuit.specs.Gates.{Gates, figure}
use Rattle.circuit.specs.Gates as gate
use Rattle.circuit.specs.PlainCircuit.{Making, Made, make_expr, choices, assigned_in, as_before, make_statement, make_block, condition_made, first_made, second_made}
use Rattle.circuit.proofs.ApplyLaws.{apply_figure}
use Rattle.circuit.specs.FigureLaws.{figure_same}
use Rattle.circuit.specs.PlainLaws.{extends_trans, expr_extends}
use Rattle.circuit.proofs.SoundLaws.{Sound, expr_standing, sound_again, Parts, statement_sound, parts_of}
use Rattle.circuit.proofs.RunLaws.{statement_count, block_keeps}
use Rattle.circuit.proofs.HoldLaws.{PresentGives, run_at_extends, holds_extends, condition_stays, first_stays, before_stays, parts_hold}

module _ (inputs : List ℕ) where
  -- the figure of gate i
  abbrev at : Gates → ℕ → ℕ
  at = run_at 0 (figure inputs)

  -- the present gates have the figures f
  abbrev pub Agrees : Making → List ℕ → Type 0
  Agrees m f = PresentGives 0 (figure inputs) m (λ x. get_or f x 0)

  module _ (v : ℕ) (kinds : ℕ → Kind) where
    pub expr_figure : (e : Expr) (k : Kind) → Typed v kinds e k → (m : Making) → Sound v m → (f : List ℕ) → Agrees m f
        → at (make_expr e m.present m.gates).gates (make_expr e m.present m.gates).place ≡ figure_of f e
    unfolding make_expr figure_of
    expr_figure (variable x) k (h, t) m s f a = a x (omega (arith, s.count))
    expr_figure (word n) k t m s f a = run_at_last 0 (figure inputs) m.gates (gate.word n)
    expr_figure (bit b) k t m s f a = run_at_last 0 (figure inputs) m.gates (gate.bit b)
    expr_figure (one op e) k (h, g, t) m s f a =
        run_at_last 0 (figure inputs) (make_expr e m.present m.gates).gates _ ∙ ap (λ (n : ℕ). result_of op n 0) (expr_figure e _ t m s f a)
    expr_figure (two op d e) k (h, g, t, u) m s f a =
        let n = make_expr d m.present m.gates in
        let x = expr_extends d m.present m.gates in
        let r = expr_standing v kinds d _ t m.present m.gates s.count s.inside s.earlier in
        let m' : Making = as_before m n.gates in
        let y = expr_extends e m.present n.gates in
        let n' = make_expr e m.present n.gates in
        let first = run_at_extends 0 (figure inputs) n.gates n'.gates y n.place r.within ∙ expr_figure d _ t m s f a in
        let second = expr_figure e _ u m' (sound_again v m n.gates s x r.earlier) f (holds_extends 0 (figure inputs) m _ n.gates x s.inside a) in
        run_at_last 0 (figure inputs) n'.gates _ ∙ apply_figure inputs (at n'.gates) op n.place n'.place ∙ rw (first, second)

    set_agrees : (m : Making) (f : List ℕ) (x g n : ℕ) (C : Gates) → Agrees (as_before m C) f
        → length f ≡ length m.present → at C g ≡ n → Agrees (record { gates = C; present = set m.present x g }) (set f x n)
    set_agrees m f x g n C a l e y h = go (same? y x)
      where
        in_present : y < length m.present
        in_present = rw length-set at h

        go : (y ≡ x) ⊎ (y ≡ x → ⊥) → at C (get_or (set m.present x g) y 0) ≡ get_or (set f x n) y 0
        go (inl w) =
            ap (at C) (rw w (get_or-set_same m.present x g 0 (rw w at in_present)))
            ∙ e
            ∙ sym (rw w (get_or-set_same f x n 0 (rw l (rw w at in_present))))
        go (inr w) = rw (get_or-set_other m.present x y g 0 w, get_or-set_other f x y n 0 w) (a y in_present)

    cond_at : (b : Bool) (f g : List ℕ) (x : ℕ) → get_or (cond b f g) x 0 ≡ cond b (get_or f x 0) (get_or g x 0)
    cond_at true f g x = refl
    cond_at false f g x = refl

    -- after an if whose condition and blocks agree with the run's, so do the choices
    branch_agrees : (c : Expr) (b d : Block) (m : Making) (n : Made) (first second : Making) → Parts v m n first second → (f : List ℕ) → Agrees m f
        → at n.gates n.place ≡ figure_of f c → Agrees first (run_block b f) → Agrees second (run_block d f)
        → Agrees (choices n.place first.present second.present (assigned_in b d (length m.present)) (as_before m second.gates))
        (cond (is_one (figure_of f c)) (run_block b f) (run_block d f))
    branch_agrees c b d m n first second w f a e a₁ a₂ =
        parts_hold 0 (figure inputs) v m n first second w (figure_same inputs) b d _
        (λ y l. rw (
          condition_stays 0 (figure inputs) v m n first second w ∙ e,
          first_stays 0 (figure inputs) v m n first second w _ a₁ y l,
          a₂ y (omega (arith, w.second_sound.count)),
        )
        (sym (cond_at (is_one (figure_of f c)) (run_block b f) (run_block d f) y)))
        (λ y l p q. before_stays 0 (figure inputs) v m n first second w _ a y l
        ∙ split (is_one (figure_of f c)) (λ z. rw z (sym (block_keeps b y f p))) (λ z. rw z (sym (block_keeps d y f q))))

    mutual
      unfolding make_statement run_statement

      pub statement_agrees : (t : Statement) → TypedStatement v kinds t → (m : Making) → Sound v m → (f : List ℕ) → length f ≡ v
          → Agrees m f → Agrees (make_statement t m) (run_statement t f)
      statement_agrees (assign x e) (h, t) m s f n a =
          let z = expr_extends e m.present m.gates in
          set_agrees m f x _ _ (make_expr e m.present m.gates).gates (holds_extends 0 (figure inputs) m _ _ z s.inside a)
          (n ∙ sym s.count) (expr_figure e _ t m s f a)
      statement_agrees skip h m s f n a = a
      statement_agrees (branch c b d) (h, t, u) m s f n a =
          let w = parts_of v kinds c b d (h, t, u) m s in
          let a₁ = block_agrees b t (as_before m (condition_made c m).gates) (sound_again v m _ s w.to_condition w.stands.earlier) f n
          (holds_extends 0 (figure inputs) m _ _ w.to_condition s.inside a) in
          let x₁ = extends_trans w.to_condition w.to_first in
          let a₂ = block_agrees d u (as_before m (first_made c b m).gates) (sound_again v m _ s x₁ w.first_sound.earlier) f n
          (holds_extends 0 (figure inputs) m _ _ x₁ s.inside a) in
          branch_agrees c b d m (condition_made c m) (first_made c b m) (second_made c b d m) w f a (expr_figure c _ h m s f a) a₁ a₂

      pub block_agrees : (b : Block) → TypedBlock v kinds b → (m : Making) → Sound v m → (f : List ℕ) → length f ≡ v
          → Agrees m f → Agrees (make_block b m) (run_block b f)
      block_agrees end h m s f n a = a
      block_agrees (then t b) (h, u) m s f n a =
          block_agrees b u (make_statement t m) (statement_sound v kinds t h m s) (run_statement t f) (statement_count t f ∙ n) (statement_agrees t h m s f n a)
