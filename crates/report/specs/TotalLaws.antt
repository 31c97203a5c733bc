-- The last line of a report: what before less after is, how long the line is, and what a lent buffer holds of it.
use Rattle.std.specs.Prelude.{◌≡◌, refl, ℕ, ◌+◌, ◌-◌, ◌≤◌, ◌<◌, ◌^◌, leb, length, set, take, drop}
use Rattle.std.proofs.Common.{sym, ap, ◌∙◌, arith, length-append, length-set, leb-true, leb-false, le-leb}
use mathlib.Core.List.{List, [], ◌∷◌, ◌++◌, append_assoc}
use Rattle.std.proofs.lemmas.Bool.{lt-leb}
use borrow.Rule.Slice.PartMut.{put_mid}
use Rattle.base.specs.TestLaws.{split}
use Rattle.base.specs.Lists.{flat}
use Rattle.base.specs.Buffers.{over}
use Rattle.base.specs.BufferLaws.{length_over, sets_over, over_rest, room_rest}
use Rattle.report.specs.Line.{decimal, spaced}
use Rattle.report.specs.Total.{total, spaced_less, total_line}
use Rattle.report.specs.DecimalLaws.{length_decimal}
use Rattle.report.specs.LineLaws.{Small, length_spaced, length_numbers}
use Rattle.report.specs.PutLaws.{ended}
use Rattle.report.specs.Limits.{most_total}

-- the two cases of before less after
pub less_positive : (before after : ℕ) → after ≤ before → spaced_less before after ≡ spaced (before - after)
unfolding spaced_less
less_positive before after h = rw (le-leb after before h)

pub less_negative : (before after : ℕ) → before < after → spaced_less before after ≡ 32 ∷ 45 ∷ decimal (after - before)
unfolding spaced_less
less_negative before after h = rw (lt-leb after before h)

-- a space, a sign and 20 digits
length_less : (before after : ℕ) → before < 2 ^ 64 → after < 2 ^ 64 → length (spaced_less before after) ≤ 22
length_less before after b a =
    split (leb after before)
    (λ e. rw (less_positive before after (leb-true after before e)) (omega (arith, length_spaced (before - after), length_decimal (before - after) (omega arith))))
    (λ e. rw (less_negative before after (leb-false after before e)) (omega (arith, length_decimal (after - before) (omega arith))))

-- digits find room behind any two bytes
pub less_room : (n x y : ℕ) (d : List ℕ) → length (decimal n) + 2 ≤ length d
    → length (decimal n) ≤ length (take (length (set (set d 0 x) 1 y) - 2) (drop 2 (set (set d 0 x) 1 y)))
less_room n x y d h = rw (room_rest (set (set d 0 x) 1 y) 2, length-set, length-set) (omega arith)

-- a negative number behind its space and its sign
pub put_less : (n k : ℕ) (d ys : List ℕ) → length (32 ∷ 45 ∷ decimal n) ≤ length d → k ≡ length (decimal n)
    → ys ≡ over (decimal n) (take (length (set (set d 0 32) 1 45) - 2) (drop 2 (set (set d 0 32) 1 45)))
    → (k + 2 ≡ length (32 ∷ 45 ∷ decimal n)) × (put_mid 2 (length (set (set d 0 32) 1 45) - 2) (set (set d 0 32) 1 45) ys ≡ over (32 ∷ 45 ∷ decimal n) d)
put_less n k d ys room q w = (
  omega arith,
  over_rest (32 ∷ 45 ∷ []) (decimal n) d (set (set d 0 32) 1 45) ys 2 refl (omega arith) (sets_over (32 ∷ 45 ∷ []) d (omega arith)) w,
)

-- the line up to its four numbers
abbrev counts : ℕ → ℕ → ℕ → ℕ → List ℕ
counts accepted refused before after = total ++ flat spaced (accepted ∷ refused ∷ before ∷ after ∷ [])

module _ (accepted refused before after : ℕ) where
  -- behind them stand before less after and the line feed
  total_ended : (counts accepted refused before after ++ spaced_less before after) ++ (10 ∷ []) ≡ total_line accepted refused before after
  unfolding total_line
  total_ended =
      append_assoc (counts accepted refused before after) (spaced_less before after) (10 ∷ [])
      ∙ append_assoc total (flat spaced (accepted ∷ refused ∷ before ∷ after ∷ [])) (spaced_less before after ++ (10 ∷ []))

  pub length_total : length (total_line accepted refused before after) ≡ length (counts accepted refused before after) + length (spaced_less before after) + 1
  length_total =
      ap (λ (l : List ℕ). length l) (sym total_ended) ∙ length-append (counts accepted refused before after ++ spaced_less before after) (10 ∷ [])
      ∙ ap (λ (k : ℕ). k + 1) (length-append (counts accepted refused before after) (spaced_less before after))

  -- the longest: five numbers of 20 digits and a sign
  pub length_total_line : Small (accepted ∷ refused ∷ before ∷ after ∷ []) → length (total_line accepted refused before after) ≤ most_total
  length_total_line h =
      omega (
        arith,
        length_total,
        length-append total (flat spaced (accepted ∷ refused ∷ before ∷ after ∷ [])),
        length_numbers (accepted ∷ refused ∷ before ∷ after ∷ []) h,
        length_less before after h.1.1.0 h.1.1.1.0,
      )

  -- the word and its numbers stand in a buffer, and before less after follows in the rest
  module _ (d e : List ℕ) (n : ℕ) (room : length (total_line accepted refused before after) ≤ length d)
      (q : n ≡ length (counts accepted refused before after)) (p : e ≡ over (counts accepted refused before after) d) where
    pub total_fits : n + length (spaced_less before after) + 1 ≤ length e
    total_fits = omega (arith, length_total, ap (λ (o : List ℕ). length o) p ∙ length_over (counts accepted refused before after) d (omega (arith, length_total)))

    pub total_room : length (spaced_less before after) ≤ length (take (length e - n) (drop n e))
    total_room = rw (room_rest e n) (omega (arith, total_fits))

    module _ (k : ℕ) (ys : List ℕ) (r : k ≡ length (spaced_less before after)) (w : ys ≡ over (spaced_less before after) (take (length e - n) (drop n e))) where
      joined : put_mid n (length e - n) e ys ≡ over (counts accepted refused before after ++ spaced_less before after) d
      joined = over_rest (counts accepted refused before after) (spaced_less before after) d e ys n q (omega (arith, length_total)) p w

      size : length (counts accepted refused before after ++ spaced_less before after) ≡ n + k
      size = length-append (counts accepted refused before after) (spaced_less before after) ∙ omega arith

      pub total_put : (n + k + 1 ≡ length (total_line accepted refused before after)) × (set (put_mid n (length e - n) e ys) (n + k) 10 ≡ over (total_line accepted refused before after) d)
      total_put = (
        omega (arith, size, length_total),
        (ended (counts accepted refused before after ++ spaced_less before after) d (put_mid n (length e - n) e ys) (n + k) (omega (arith, size, length_total)) (sym size) joined).1
            ∙ ap (λ (o : List ℕ). over o d) total_ended,
      )
