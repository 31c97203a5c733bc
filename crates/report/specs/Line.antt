-- Document 01, "Examples", last paragraph: the line that the program prints for an answer.
use Rattle.std.specs.Prelude.{Bool, ◌&&◌, cond, List, [], ◌∷◌, ◌++◌, ℕ, zero, suc, ◌+◌, ◌/◌, ◌%◌, eqb, ltb, leb, length}
use Rattle.base.specs.Lists.{flat}
use Rattle.base.specs.Buffers.{over}
use Rattle.base.specs.declared.Answer.{Answer}

-- the digit d, 0 to 9, as ASCII
abbrev pub digit : ℕ → ℕ
digit d = 48 + d

-- n as decimal digits, no more than `most`: below 10 it is one digit, else it has the digits of n / 10 and then its last
unfoldable pub digits : ℕ → ℕ → List ℕ
digits zero n = []
digits (suc most) n = cond (ltb n 10) (digit n ∷ []) (digits most (n / 10) ++ (digit (n % 10) ∷ []))

-- all of them: n / 10 is less than n, so n + 1 is always enough
unfoldable pub decimal : ℕ → List ℕ
decimal n = digits (suc n) n

-- a number behind a space
unfoldable pub spaced : ℕ → List ℕ
spaced n = 32 ∷ decimal n

-- a word, the numbers behind it, and one line feed
unfoldable pub line : List ℕ → List ℕ → List ℕ
line word numbers = word ++ (flat spaced numbers ++ (10 ∷ []))

-- the words `accepted` and `refused`
abbrev pub accepted : List ℕ
accepted = 97 ∷ 99 ∷ 99 ∷ 101 ∷ 112 ∷ 116 ∷ 101 ∷ 100 ∷ []

abbrev pub refused : List ℕ
refused = 114 ∷ 101 ∷ 102 ∷ 117 ∷ 115 ∷ 101 ∷ 100 ∷ []

-- the refusals that are printed with their place: 1 to 11
unfoldable pub placed : ℕ → Bool
placed number = leb 1 number && leb number 11

-- `accepted`, gates, wires, cost before, cost after; or `refused`, the number, and the place where it is printed
unfoldable pub line_of : Answer → List ℕ
line_of a =
    cond (eqb a.number 0)
    (line accepted (a.gates ∷ a.wires ∷ a.before ∷ a.after ∷ []))
    (line refused (a.number ∷ cond (placed a.number) (a.place ∷ []) []))

-- the lent buffer d with text at its start and nothing after it touched, or d itself where it is shorter than the text
unfoldable pub put_over : List ℕ → List ℕ → List ℕ
put_over text d = cond (leb (length text) (length d)) (over text d) d

-- how many bytes of text d then holds: all of them, or none
unfoldable pub put_count : List ℕ → List ℕ → ℕ
put_count text d = cond (leb (length text) (length d)) (length text) 0
