-- Every gate of the plain circuit of a rule of bytes fits, each output is of its variable's kind, and so bits are 0 or 1 and words below 2 ^ 32 at every gate.
use Rattle.std.specs.Prelude.{ℕ, zero, suc, ◌<◌, ◌≡◌, refl, List, map, ◌⊎◌, length, get_or, set}
use Rattle.std.proofs.Common.{sym, ap, ◌∙◌, inl, inr, arith, length-set, get_or-set_same, get_or-set_other}
use Rattle.base.specs.Inputs.{FiguresFit}
use Rattle.base.specs.Codes.{Fits}
use Rattle.base.specs.Lists.{from}
use Rattle.base.specs.TestLaws.{same?}
use Rattle.base.specs.Numbers.{Bytes}
use Rattle.base.specs.declared.Kind.{Kind}
use Rattle.base.specs.declared.Kind.TheVariants as kind
use Rattle.base.specs.Parsing.{parsed}
use Rattle.rule.specs.Header.{variables, kind_at}
use Rattle.rule.specs.Tree.{Statement, assign, skip, branch, Block, end, then}
use Rattle.rule.specs.Rule.{read_rule}
use Rattle.rule.specs.Kinds.{TypedStatement, TypedBlock, WordsStatement, WordsBlock}
use Rattle.rule.proofs.FoundRuleLaws.{read_typed, read_words}
use Rattle.circuit.specs.Running.{run_block}
use Rattle.circuit.specs.Gates.{start, Gates, gate_at, figure_at}
use Rattle.circuit.specs.GateKinds.{gate_kind, kind_of_gate, GateFits, GatesFit}
use Rattle.circuit.specs.PlainCircuit.{Making, Made, make_expr, choices, assigned_in, as_before, make_statement, make_block}
use Rattle.circuit.specs.PlainCircuit.{condition_made, first_made, second_made, starts, plain_circuit, gates_of, outputs_of}
use Rattle.circuit.specs.PlainLaws.{extends_trans, expr_extends}
use Rattle.circuit.proofs.SoundLaws.{Sound, sound_again, assigned_below, Parts, parts_ready, parts_of, statement_sound}
use Rattle.circuit.proofs.HoldLaws.{PresentGives, holds_extends, condition_stays, first_stays, before_stays, parts_hold}
use Rattle.circuit.proofs.KindLaws.{kind_same, block_fits, gate_fits, inputs_fit}
use Rattle.circuit.proofs.ExprKindLaws.{at, Fit, expr_kinded, choices_fit}
use Rattle.circuit.proofs.StartLaws.{starts_sound, starts_hold, read_plain, plain_sound}

module _ (v : ℕ) (kinds : ℕ → Kind) where
  -- what statements keep: every gate fits, and each variable's present gate is of the variable's kind
  record Kept (m : Making) : Type 0 where
    fit : Fit v kinds m.gates
    present_kinds : PresentGives kind.Word (gate_kind kinds) m kinds

  set_kept : (m : Making) (x g : ℕ) (C : Gates) → PresentGives kind.Word (gate_kind kinds) (as_before m C) kinds
      → at v kinds C g ≡ kinds x → PresentGives kind.Word (gate_kind kinds) (record { gates = C; present = set m.present x g }) kinds
  set_kept m x g C a e y h = go (same? y x)
    where
      in_present : y < length m.present
      in_present = rw length-set at h

      go : (y ≡ x) ⊎ (y ≡ x → ⊥) → at v kinds C (get_or (set m.present x g) y 0) ≡ kinds y
      go (inl w) = ap (at v kinds C) (rw w (get_or-set_same m.present x g 0 (rw w at in_present))) ∙ e ∙ ap kinds (sym w)
      go (inr w) = rw (get_or-set_other m.present x y g 0 w) (a y in_present)

  -- after an if whose condition is a bit and whose blocks keep it, so do the choices
  branch_kept : (b d : Block) (m : Making) (n : Made) (first second : Making) → Parts v m n first second → PresentGives kind.Word (gate_kind kinds) m kinds
      → at v kinds n.gates n.place ≡ kind.Bit → Kept first → Kept second
      → Kept (choices n.place first.present second.present (assigned_in b d (length m.present)) (as_before m second.gates))
  branch_kept b d m n first second w a e k₁ k₂ =
      let one = first_stays kind.Word (gate_kind kinds) v m n first second w kinds k₁.present_kinds in
      record {
        fit = choices_fit v kinds n.place first.present second.present (assigned_in b d (length m.present)) (as_before m second.gates)
            (parts_ready v m n first second w b d) w.second_sound.earlier k₂.fit (condition_stays kind.Word (gate_kind kinds) v m n first second w ∙ e)
            (λ y l. let y' : y < v = omega (arith, w.before.count, assigned_below b d (length m.present) y l) in
            one y y' ∙ sym (k₂.present_kinds y (omega (arith, w.second_sound.count))));
        present_kinds = parts_hold kind.Word (gate_kind kinds) v m n first second w (kind_same kinds) b d kinds one
            (λ y l p q. before_stays kind.Word (gate_kind kinds) v m n first second w kinds a y l);
      }

  mutual
    unfolding make_statement

    statement_kept : (t : Statement) → TypedStatement v kinds t → WordsStatement v kinds t → (m : Making) → Sound v m → Kept m → Kept (make_statement t m)
    statement_kept (assign x e) (h, t) (h', w) m s k =
        let n = make_expr e m.present m.gates in
        let z = expr_extends e m.present m.gates in
        let q = expr_kinded v kinds e _ t w m s k.fit k.present_kinds in
        record {
          fit = q.fit;
          present_kinds = set_kept m x n.place n.gates (holds_extends kind.Word (gate_kind kinds) m kinds n.gates z s.inside k.present_kinds) q.stands;
        }
    statement_kept skip h w m s k = k
    statement_kept (branch c b d) (h, t, u) (w, w₁, w₂) m s k =
        let z = parts_of v kinds c b d (h, t, u) m s in
        let q = expr_kinded v kinds c _ h w m s k.fit k.present_kinds in
        let k₁ = block_kept b t w₁ (as_before m (condition_made c m).gates) (sound_again v m _ s z.to_condition z.stands.earlier)
        (record { fit = q.fit; present_kinds = holds_extends kind.Word (gate_kind kinds) m kinds _ z.to_condition s.inside k.present_kinds }) in
        let x₁ = extends_trans z.to_condition z.to_first in
        let k₂ = block_kept d u w₂ (as_before m (first_made c b m).gates) (sound_again v m _ s x₁ z.first_sound.earlier)
        (record { fit = k₁.fit; present_kinds = holds_extends kind.Word (gate_kind kinds) m kinds _ x₁ s.inside k.present_kinds }) in
        branch_kept b d m (condition_made c m) (first_made c b m) (second_made c b d m) z k.present_kinds q.stands k₁ k₂

    block_kept : (b : Block) → TypedBlock v kinds b → WordsBlock v kinds b → (m : Making) → Sound v m → Kept m → Kept (make_block b m)
    block_kept end h w m s k = k
    block_kept (then t b) (h, u) (w, x) m s k = block_kept b u x (make_statement t m) (statement_sound v kinds t h m s) (statement_kept t h w m s k)

starts_fit : (kinds : ℕ → Kind) (k : ℕ → Kind) (i n j : ℕ) → GateFits k (gate_at (map start (from i n)) j)
starts_fit kinds k i zero j = omega arith
starts_fit kinds k i (suc n) zero = tt
starts_fit kinds k i (suc n) (suc j) = starts_fit kinds k (suc i) n j

module _ (s : List ℕ) (bytes : Bytes s) (b : Block) (n : ℕ) (read : read_rule s ≡ parsed b n) where
  plain_kept : Kept (variables s) (kind_at s) (plain_circuit s)
  plain_kept =
      rw (read_plain s b n read)
      (block_kept (variables s) (kind_at s) b (read_typed s b n read) (read_words s b n read bytes) (starts (variables s)) (starts_sound (variables s))
      (record {
        fit = starts_fit (kind_at s) _ 0 (variables s);
        present_kinds = starts_hold kind.Word (gate_kind (kind_at s)) (kind_same (kind_at s)) (variables s) (kind_at s) (λ g x. refl);
      }))

  -- every gate of the plain circuit fits
  pub plain_fits : GatesFit (kind_at s) (gates_of s)
  unfolding kind_of_gate
  plain_fits = plain_kept.fit

  -- each output is of its variable's kind
  pub output_kinds : (x : ℕ) → x < length (outputs_of s) → kind_of_gate (kind_at s) (gates_of s) (get_or (outputs_of s) x 0) ≡ kind_at s x
  unfolding kind_of_gate
  output_kinds = plain_kept.present_kinds

  -- on inputs that fit, every gate's figure fits its kind: bits are 0 or 1, words below 2 ^ 32
  pub plain_figures_fit : (inputs : List ℕ) → length inputs ≡ variables s → FiguresFit (variables s) (kind_at s) inputs
      → (i : ℕ) → i < length (gates_of s) → Fits (kind_of_gate (kind_at s) (gates_of s) i) (figure_at inputs (gates_of s) i)
  plain_figures_fit inputs f a i h =
      gate_fits (kind_at s) inputs (gates_of s) (plain_sound s b n read).earlier plain_fits (inputs_fit (variables s) (kind_at s) inputs f a) (suc i) i (omega arith) h

  -- and the direct run ends with figures that fit
  pub run_fits : (inputs : List ℕ) → length inputs ≡ variables s → FiguresFit (variables s) (kind_at s) inputs → FiguresFit (variables s) (kind_at s) (run_block b inputs)
  run_fits inputs f a = block_fits (variables s) (kind_at s) b (read_typed s b n read) (read_words s b n read bytes) inputs f a
