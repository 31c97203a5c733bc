-- What a run writes: 0 for a working variable, for a result variable its figure at the run's end.
use Rattle.std.specs.Prelude.{ℕ, ◌<◌, ◌≡◌, true, false, List, map, length, get_or}
use Rattle.std.proofs.Common.{arith, ◌∙◌}
use Rattle.std.proofs.lemmas.List.{length-map}
use Rattle.base.specs.Lists.{upto}
use Rattle.base.specs.ListLaws.{map_same, get_or_upto, length_from}
use Rattle.base.specs.MemberLaws.{from_below}
use Rattle.rule.specs.Header.{variables, working_at}
use Rattle.circuit.specs.Running.{run_rule, written_for, run_writes}

-- a result variable's figure is written, a working one's is 0
pub written_result : (s : List ℕ) (x n : ℕ) → working_at s x ≡ false → written_for s x n ≡ n
unfolding written_for
written_result s x n f = rw f

pub written_working : (s : List ℕ) (x n : ℕ) → working_at s x ≡ true → written_for s x n ≡ 0
unfolding written_for
written_working s x n t = rw t

module _ (s inputs : List ℕ) (x : ℕ) (l : x < variables s) where
  written_at : get_or (run_writes s inputs) x 0 ≡ written_for s x (get_or (run_rule s inputs) x 0)
  unfolding run_writes
  written_at = get_or_upto (λ y. written_for s y (get_or (run_rule s inputs) y 0)) 0 (variables s) x l

  pub writes_result : working_at s x ≡ false → get_or (run_writes s inputs) x 0 ≡ get_or (run_rule s inputs) x 0
  writes_result f = written_at ∙ written_result s x _ f

  pub writes_working : working_at s x ≡ true → get_or (run_writes s inputs) x 0 ≡ 0
  writes_working t = written_at ∙ written_working s x _ t

-- a figure for each variable
pub writes_count : (s inputs : List ℕ) → length (run_writes s inputs) ≡ variables s
unfolding run_writes
writes_count s inputs = length-map (upto (variables s)) _ ∙ length_from 0 (variables s)

-- a list with what the run writes for each variable is what it writes
pub writes_map : (s inputs : List ℕ) (f : ℕ → ℕ) → ((x : ℕ) → x < variables s → f x ≡ written_for s x (get_or (run_rule s inputs) x 0)) → map f (upto (variables s)) ≡ run_writes s inputs
unfolding run_writes
writes_map s inputs f h =
    map_same f (λ x. written_for s x (get_or (run_rule s inputs) x 0)) (upto (variables s)) (λ x m. h x (let b = (from_below 0 (variables s) x m).1 in omega (arith, b)))
