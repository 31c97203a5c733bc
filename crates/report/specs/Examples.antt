-- Examples of the lines that a program prints for an answer, computed from the definitions.
use Rattle.std.specs.Prelude.{◌≡◌, refl, [], ◌∷◌, ◌++◌}
use Rattle.base.specs.Answers.{success, refusal}
use Rattle.report.specs.Line.{digits, decimal, spaced, line, accepted, refused, placed, line_of}
use Rattle.report.specs.Total.{total, spaced_less, total_line}

-- 0 and 10
nought : decimal 0 ≡ 48 ∷ []
unfolding decimal digits
nought = refl

ten : decimal 10 ≡ 49 ∷ 48 ∷ []
unfolding decimal digits
ten = refl

-- R1 with P1 (document 02, C-18): `accepted 6 8 33 24`
r1_p1 : line_of (success 6 8 114 33 24) ≡ accepted ++ (32 ∷ 54 ∷ 32 ∷ 56 ∷ 32 ∷ 51 ∷ 51 ∷ 32 ∷ 50 ∷ 52 ∷ 10 ∷ [])
unfolding line_of line spaced decimal digits
r1_p1 = refl

-- one 00 more: `refused 9 29`
byte_left : line_of (refusal 9 29) ≡ refused ++ (32 ∷ 57 ∷ 32 ∷ 50 ∷ 57 ∷ 10 ∷ [])
unfolding line_of placed line spaced decimal digits
byte_left = refl

-- the last row that has a place, and the first that has none: `refused 11 4096`, `refused 20`
last_placed : line_of (refusal 11 4096) ≡ refused ++ (32 ∷ 49 ∷ 49 ∷ 32 ∷ 52 ∷ 48 ∷ 57 ∷ 54 ∷ 10 ∷ [])
unfolding line_of placed line spaced decimal digits
last_placed = refl

first_unplaced : line_of (refusal 20 0) ≡ refused ++ (32 ∷ 50 ∷ 48 ∷ 10 ∷ [])
unfolding line_of placed line spaced decimal digits
first_unplaced = refl

-- a circle: `refused 30`
circle : line_of (refusal 30 0) ≡ refused ++ (32 ∷ 51 ∷ 48 ∷ 10 ∷ [])
unfolding line_of placed line spaced decimal digits
circle = refl

-- two entries that cost 66 and then 57: `total 2 0 66 57 9`
saved : total_line 2 0 66 57 ≡ total ++ (32 ∷ 50 ∷ 32 ∷ 48 ∷ 32 ∷ 54 ∷ 54 ∷ 32 ∷ 53 ∷ 55 ∷ 32 ∷ 57 ∷ 10 ∷ [])
unfolding total_line spaced_less spaced decimal digits
saved = refl

-- one that costs more than before: `total 1 0 3 5 -2`
lost : total_line 1 0 3 5 ≡ total ++ (32 ∷ 49 ∷ 32 ∷ 48 ∷ 32 ∷ 51 ∷ 32 ∷ 53 ∷ 32 ∷ 45 ∷ 50 ∷ 10 ∷ [])
unfolding total_line spaced_less spaced decimal digits
lost = refl

-- no entry: `total 0 0 0 0 0`, without a sign
none : total_line 0 0 0 0 ≡ total ++ (32 ∷ 48 ∷ 32 ∷ 48 ∷ 32 ∷ 48 ∷ 32 ∷ 48 ∷ 32 ∷ 48 ∷ 10 ∷ [])
unfolding total_line spaced_less spaced decimal digits
none = refl
