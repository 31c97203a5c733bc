-- The line: which case it is, how long it is, and what a buffer holds of it.
use Rattle.std.specs.Prelude.{◌≡◌, refl, List, [], ◌∷◌, ◌++◌, ℕ, ◌+◌, ◌*◌, ◌≤◌, ◌<◌, ◌^◌, eqb, leb, length}
use Rattle.std.proofs.Common.{arith, length-append, eqb-true, leb-true, leb-false, eq-eqb, ne_eqb, le-leb}
use Rattle.std.proofs.lemmas.Bool.{eqb-false, lt-leb}
use Rattle.base.specs.TestLaws.{split}
use Rattle.base.specs.Lists.{flat}
use Rattle.base.specs.Buffers.{over}
use Rattle.base.specs.declared.Answer.{Answer}
use Rattle.report.specs.Line.{decimal, spaced, line, accepted, refused, placed, line_of, put_over, put_count}
use Rattle.report.specs.DecimalLaws.{length_decimal}
use Rattle.report.specs.Limits.{most_line}

-- the three cases
pub line_accepted : (a : Answer) → a.number ≡ 0 → line_of a ≡ line accepted (a.gates ∷ a.wires ∷ a.before ∷ a.after ∷ [])
unfolding line_of
line_accepted a e = rw (eq-eqb a.number 0 e)

pub line_placed : (a : Answer) → (a.number ≡ 0 → ⊥) → a.number ≤ 11 → line_of a ≡ line refused (a.number ∷ a.place ∷ [])
unfolding line_of placed
line_placed a e h = rw (ne_eqb a.number 0 e, le-leb 1 a.number (omega arith), le-leb a.number 11 h)

pub line_unplaced : (a : Answer) → 11 < a.number → line_of a ≡ line refused (a.number ∷ [])
unfolding line_of placed
line_unplaced a h = rw (ne_eqb a.number 0 (λ e. omega arith), le-leb 1 a.number (omega arith), lt-leb a.number 11 h)

-- a number and its space
pub length_spaced : (n : ℕ) → length (spaced n) ≡ length (decimal n) + 1
unfolding spaced
length_spaced n = omega arith

-- a line is its word, its numbers and one byte more
pub length_line : (word numbers : List ℕ) → length (line word numbers) ≡ length word + length (flat spaced numbers) + 1
unfolding line
length_line word numbers = rw (length-append word (flat spaced numbers ++ (10 ∷ [])), length-append (flat spaced numbers) (10 ∷ [])) (omega arith)

-- numbers of 64 bits
abbrev pub Small : List ℕ → Type 0
Small [] = Unit
Small (n ∷ l) = (n < 2 ^ 64) × Small l

pub length_numbers : (l : List ℕ) → Small l → length (flat spaced l) ≤ 21 * length l
length_numbers [] h = omega arith
length_numbers (n ∷ l) h =
    rw (length-append (spaced n) (flat spaced l)) (omega (arith, length_spaced n, length_decimal n h.0, length_numbers l h.1))

-- the longest line: `accepted` and four numbers of 20 digits
pub length_line_of : (a : Answer) → Small (a.number ∷ a.place ∷ []) → Small (a.gates ∷ a.wires ∷ a.before ∷ a.after ∷ []) → length (line_of a) ≤ most_line
length_line_of a few counts =
    split (eqb a.number 0)
    (λ e. rw (line_accepted a (eqb-true a.number 0 e))
    (omega (arith, length_line accepted (a.gates ∷ a.wires ∷ a.before ∷ a.after ∷ []), length_numbers (a.gates ∷ a.wires ∷ a.before ∷ a.after ∷ []) counts)))
    (λ e. split (leb a.number 11)
    (λ p. rw (line_placed a (eqb-false a.number 0 e) (leb-true a.number 11 p))
    (omega (arith, length_line refused (a.number ∷ a.place ∷ []), length_numbers (a.number ∷ a.place ∷ []) few)))
    (λ p. rw (line_unplaced a (leb-false a.number 11 p))
    (omega (arith, length_line refused (a.number ∷ []), length_numbers (a.number ∷ []) (few.0, tt)))))

-- text in a buffer that it fits into, and in one that is too short
pub put_fits : (text d : List ℕ) → length text ≤ length d → (put_count text d ≡ length text) × (put_over text d ≡ over text d)
unfolding put_count put_over
put_fits text d h = rw (le-leb (length text) (length d) h) (refl, refl)

pub put_short : (text d : List ℕ) → length d < length text → (put_count text d ≡ 0) × (put_over text d ≡ d)
unfolding put_count put_over
put_short text d h = rw (lt-leb (length text) (length d) h) (refl, refl)

-- the count is never more than the buffer has
pub count_fits : (text d : List ℕ) → put_count text d ≤ length d
unfolding put_count
count_fits text d = split (leb (length text) (length d)) (λ e. rw e (leb-true (length text) (length d) e)) (λ e. rw e (omega arith))
