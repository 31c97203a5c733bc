-- What a direct run writes: the loop over the variables, and that the first V results are then what the run writes.
use Rattle.std.specs.Prelude.{ℕ, ◌+◌, ◌≤◌, ◌<◌, ◌≡◌, List, [], ◌∷◌, ◌++◌, map, Bool, true, false, length, get_or, set, take}
use Rattle.std.proofs.Common.{add-one, arith, sym, ap, ◌∙◌, get_or-take}
use Rattle.std.proofs.lemmas.List.{map-append, length-map}
use Rattle.base.specs.Lists.{upto}
use Rattle.base.specs.ListLaws.{length_from, upto_more}
use Rattle.base.specs.Buffers.{over}
use Rattle.base.specs.BufferLaws.{over_nil, over_snoc, length_over}
use Rattle.rule.specs.Limits.{most_variables}
use Rattle.rule.specs.Header.{variables, working_at, HasKinds}
use Rattle.circuit.specs.Running.{run_rule, written_for, run_writes}
use Rattle.circuit.specs.WrittenLaws.{written_result, written_working, writes_map}

-- what is written for variable x, whose figure stands at its place
abbrev pub written : List ℕ → List ℕ → ℕ → ℕ
written s figures x = written_for s x (get_or figures x 0)

-- loop invariant, amid the variables: what the first x have is written over the results that were there before
pub record Writing (s figures before results : List ℕ) (x : ℕ) : Type 0 where
  pub low : x ≤ variables s
  pub few : variables s ≤ most_variables
  pub kinds : HasKinds s
  pub room : variables s ≤ length before
  pub same : results ≡ over (map (written s figures) (upto x)) before

pub writing_start : (s figures before : List ℕ) → HasKinds s → variables s ≤ most_variables → variables s ≤ length before → Writing s figures before before 0
writing_start s figures before k f r = record { low = omega arith; few = f; kinds = k; room = r; same = sym (over_nil before) }

-- one variable more
written_more : (s figures : List ℕ) (x : ℕ) → map (written s figures) (upto (x + 1)) ≡ map (written s figures) (upto x) ++ (written s figures x ∷ [])
written_more s figures x =
    ap (λ (n : ℕ). map (written s figures) (upto n)) (add-one x)
    ∙ ap (map (written s figures)) (upto_more x)
    ∙ map-append (written s figures) (upto x) (x ∷ [])

module _ (s figures before results : List ℕ) (x : ℕ) (p : Writing s figures before results x) where
  written_length : length (map (written s figures) (upto x)) ≡ x
  written_length = length-map (upto x) (written s figures) ∙ length_from 0 x

  pub writing_length : length results ≡ length before
  writing_length = ap length p.same ∙ length_over (map (written s figures) (upto x)) before (rw written_length (omega (arith, p.low, p.room)))

  pub writing_end : variables s ≤ x → results ≡ over (map (written s figures) (upto (variables s))) before
  writing_end h = let z : x ≡ variables s = omega (arith, p.low) in p.same ∙ ap (λ (n : ℕ). over (map (written s figures) (upto n)) before) z

  writing_more : x < variables s → (i n : ℕ) → i ≡ x → n ≡ written s figures x → Writing s figures before (set results i n) (x + 1)
  writing_more h i n q e = record {
    low = omega arith;
    few = p.few;
    kinds = p.kinds;
    room = p.room;
    same =
        ap (λ (k : ℕ). set results k n) q ∙ ap (λ (l : List ℕ). set l x n) p.same
        ∙ over_snoc (map (written s figures) (upto x)) before x n written_length (omega (arith, p.room))
        ∙ rw (written_more s figures x, e);
  }

  -- 0 for a working one, else its figure
  module _ (h : x < variables s) (i n : ℕ) (q : i ≡ x) (b : Bool) (e : b ≡ working_at s x) where
    pub writing_working : b ≡ true → n ≡ 0 → Writing s figures before (set results i n) (x + 1)
    writing_working t z = writing_more h i n q (z ∙ sym (written_working s x _ (sym e ∙ t)))

    pub writing_result : b ≡ false → n ≡ get_or figures i 0 → Writing s figures before (set results i n) (x + 1)
    writing_result f g = writing_more h i n q (g ∙ ap (λ (k : ℕ). get_or figures k 0) q ∙ sym (written_result s x _ (sym e ∙ f)))

-- of figures that begin with those at the run's end
pub run_written : (s inputs figures : List ℕ) → take (variables s) figures ≡ run_rule s inputs → map (written s figures) (upto (variables s)) ≡ run_writes s inputs
run_written s inputs figures e =
    writes_map s inputs (written s figures)
    (λ x l. ap (written_for s x) (sym (get_or-take (variables s) figures x 0 l) ∙ ap (λ (f : List ℕ). get_or f x 0) e))
