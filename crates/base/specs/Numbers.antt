-- Document 01, first paragraph: "Multi-byte numbers are big-endian."
-- Document 01, "The rule file", below its table: "Sum, difference and product are taken modulo 4,294,967,296."
use Rattle.std.specs.Prelude.{List, [], ◌∷◌, ℕ, zero, suc, ◌+◌, ◌-◌, ◌*◌, ◌/◌, ◌%◌, ◌^◌, ◌<◌, length, take, drop, get_or}

-- the number that big-endian bytes stand for: each byte counts 256 for every byte after it
unfoldable pub number : List ℕ → ℕ
number [] = 0
number (b ∷ s) = b * 256 ^ length s + number s

-- n as w big-endian bytes
unfoldable pub bytes_of : ℕ → ℕ → List ℕ
bytes_of zero n = []
bytes_of (suc w) n = n / 256 ^ w % 256 ∷ bytes_of w n

-- the number of w bytes that begins at the place at of s
abbrev pub number_at : ℕ → List ℕ → ℕ → ℕ
number_at w s at = number (take w (drop at s))

-- every element of s is a byte
abbrev pub Bytes : List ℕ → Type 0
Bytes s = (i : ℕ) → i < length s → get_or s i 0 < 256

-- every element of l is a word: as figures and inputs are, of 32 bits
abbrev pub Words : List ℕ → Type 0
Words l = (i : ℕ) → i < length l → get_or l i 0 < 4294967296

-- the sum of two words
abbrev pub sum_of : ℕ → ℕ → ℕ
sum_of a b = (a + b) % 4294967296

-- the difference of two words; 4,294,967,296 is added first, so that it never stops at 0
abbrev pub difference_of : ℕ → ℕ → ℕ
difference_of a b = (a + 4294967296 - b) % 4294967296

-- the product of two words
abbrev pub product_of : ℕ → ℕ → ℕ
product_of a b = (a * b) % 4294967296
