-- Document 02, C-17, "a set of 256 settings", and sets of groups: sets of numbers as bits of words, as code keeps them:
-- number q is bit q % 64 of the word q / 64 after the set's first, which is at `base`.
use Rattle.std.specs.Prelude.{ℕ, ◌+◌, ◌*◌, ◌/◌, ◌%◌, ◌^◌, ◌<◌, ◌≡◌, Bool, List, [], ◌∷◌, length, get_or, set}
use Rattle.std.specs.Int.Bits.{bit_or}
use Rattle.base.specs.Bits.{bit, flip_bit}

-- number q is in that set
unfoldable pub bit_in : ℕ → List ℕ → ℕ → Bool
bit_in base words q = bit (get_or words (base + q / 64) 0) (q % 64)

-- number q is put in it
unfoldable pub put_bit : ℕ → ℕ → List ℕ → List ℕ
put_bit base q words = set words (base + q / 64) (bit_or (get_or words (base + q / 64) 0) (2 ^ (q % 64)))

-- the numbers of a list are put in it
unfoldable pub put_each : ℕ → List ℕ → List ℕ → List ℕ
put_each base [] words = words
put_each base (q ∷ l) words = put_each base l (put_bit base q words)

-- number q, which is in the set of the first words, is struck from it
unfoldable pub strike_bit : ℕ → List ℕ → List ℕ
strike_bit q words = set words (q / 64) (flip_bit (q % 64) (get_or words (q / 64) 0))

-- the number whose words these are, the lowest first
unfoldable pub joined : List ℕ → ℕ
joined [] = 0
joined (w ∷ l) = w + 2 ^ 64 * joined l

-- each of these is a word: of 64 bits
abbrev pub Fit : List ℕ → Type 0
Fit words = (i : ℕ) → get_or words i 0 < 2 ^ 64

-- two lists of words, word by word
abbrev pub wordwise : (ℕ → ℕ → ℕ) → List ℕ → List ℕ → List ℕ
wordwise f [] [] = []
wordwise f [] (y ∷ m) = []
wordwise f (x ∷ l) [] = []
wordwise f (x ∷ l) (y ∷ m) = f x y ∷ wordwise f l m

-- the words of a list put together, one after another
abbrev pub folded : (ℕ → ℕ → ℕ) → ℕ → List ℕ → ℕ
folded f w [] = w
folded f w (v ∷ l) = folded f (f w v) l

-- n words
pub record HasWords (n : ℕ) (words : List ℕ) : Type 0 where
  pub size : length words ≡ n
  pub fits : Fit words
