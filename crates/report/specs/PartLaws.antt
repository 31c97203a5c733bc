-- Parts and entries: what is whole at the start of some bytes is the same with more bytes behind them; how long it can be.
use Rattle.std.specs.Prelude.{true, ◌≡◌, ℕ, ◌+◌, ◌≤◌, leb, length, take, drop}
use mathlib.Core.List.{List, ◌++◌}
use Rattle.std.proofs.Common.{sym, ◌∙◌, arith, length-append, length-drop, drop-drop, leb-true, le-leb}
use Rattle.std.proofs.Math.Path.{ap}
use Rattle.std.proofs.lemmas.List.{take-append-le, drop-append-le}
use Rattle.base.specs.TestLaws.{both, and}
use Rattle.base.specs.Numbers.{number, number_at}
use Rattle.fused.specs.Answers.{fused_answer}
use Rattle.report.specs.Batch.{part_size, has_part, part_of, past_part, has_entry, entry_answer, entry_size, past_entry}

-- a number that lies in s is the same with x behind
pub number_more : (w at : ℕ) (s x : List ℕ) → at + w ≤ length s → number_at w (s ++ x) at ≡ number_at w s at
number_more w at s x h =
    ap (λ (t : List ℕ). number (take w t)) (drop-append-le at s x (omega arith))
    ∙ ap number (take-append-le w (drop at s) x (rw (length-drop at s) (omega arith)))

-- a part that is whole
pub part_fits : (s : List ℕ) → has_part s ≡ true → (2 ≤ length s) × (part_size s ≤ length s)
unfolding has_part
part_fits s h = let r = both (leb 2 (length s)) (leb (part_size s) (length s)) h in (leb-true _ _ r.0, leb-true _ _ r.1)

pub part_whole : (s : List ℕ) → 2 ≤ length s → part_size s ≤ length s → has_part s ≡ true
unfolding has_part
part_whole s h l = and (le-leb _ _ h) (le-leb _ _ l)

module _ (s x : List ℕ) where
  -- with x behind
  module _ (h : has_part s ≡ true) where
    pub size_more : part_size (s ++ x) ≡ part_size s
    size_more = ap (λ (n : ℕ). 2 + n) (number_more 2 0 s x (part_fits s h).0)

    pub has_more : has_part (s ++ x) ≡ true
    has_more = part_whole (s ++ x) (omega (arith, length-append s x, part_fits s h)) (omega (arith, length-append s x, size_more, part_fits s h))

    pub part_more : part_of (s ++ x) ≡ part_of s
    part_more =
        ap (λ (n : ℕ). take n (drop 2 (s ++ x))) (number_more 2 0 s x (part_fits s h).0)
        ∙ ap (take (number_at 2 s 0)) (drop-append-le 2 s x (part_fits s h).0)
        ∙ take-append-le (number_at 2 s 0) (drop 2 s) x (rw (length-drop 2 s) (omega (arith, part_fits s h)))

    pub past_more : past_part (s ++ x) ≡ past_part s ++ x
    past_more = ap (λ (n : ℕ). drop n (s ++ x)) size_more ∙ drop-append-le (part_size s) s x (part_fits s h).1

-- an entry is whole when both its parts are
pub entry_parts : (s : List ℕ) → has_entry s ≡ true → (has_part s ≡ true) × (has_part (past_part s) ≡ true)
unfolding has_entry
entry_parts s h = both (has_part s) (has_part (past_part s)) h

pub entry_fits : (s : List ℕ) → has_entry s ≡ true → entry_size s ≤ length s
entry_fits s h =
    let (r, p) = entry_parts s h in
    omega (arith, part_fits s r, part_fits (past_part s) p, length-drop (part_size s) s)

-- what comes after both its parts
pub past_both : (s : List ℕ) → past_entry s ≡ past_part (past_part s)
past_both s = sym (drop-drop (part_size (past_part s)) (part_size s) s)

module _ (s x : List ℕ) (h : has_entry s ≡ true) where
  rest_more : past_part (s ++ x) ≡ past_part s ++ x
  rest_more = past_more s x (entry_parts s h).0

  pub entry_more : has_entry (s ++ x) ≡ true
  unfolding has_entry
  entry_more = and (has_more s x (entry_parts s h).0) (rw rest_more (has_more (past_part s) x (entry_parts s h).1))

  pub answer_more : entry_answer (s ++ x) ≡ entry_answer s
  unfolding entry_answer
  answer_more =
      ap (λ (r : List ℕ). fused_answer r (part_of (past_part (s ++ x)))) (part_more s x (entry_parts s h).0)
      ∙ ap (fused_answer (part_of s)) (ap part_of rest_more ∙ part_more (past_part s) x (entry_parts s h).1)

  pub entry_size_more : entry_size (s ++ x) ≡ entry_size s
  entry_size_more =
      ap (λ (n : ℕ). n + part_size (past_part (s ++ x))) (size_more s x (entry_parts s h).0)
      ∙ ap (λ (n : ℕ). part_size s + n) (ap part_size rest_more ∙ size_more (past_part s) x (entry_parts s h).1)

  pub past_entry_more : past_entry (s ++ x) ≡ past_entry s ++ x
  past_entry_more = ap (λ (n : ℕ). drop n (s ++ x)) entry_size_more ∙ drop-append-le (entry_size s) s x (entry_fits s h)
