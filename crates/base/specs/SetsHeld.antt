-- Document 02, C-17, "a precondition is a set of 256 settings": a set as code holds it: a `Set` in hand, and in a lent array so many words a set, the lowest word first.
use Rattle.std.specs.Prelude.{ℕ, ◌*◌, ◌/◌, List, [], ◌∷◌, map, length, take, drop}
use Rattle.base.specs.Lists.{upto}
use Rattle.base.specs.BitWords.{joined}
use Rattle.base.specs.SetLimits.{set_words}
use Rattle.base.specs.declared.Set.{Set}

-- the words of the set in hand
abbrev pub words_of : Set → List ℕ
words_of s = s.w0 ∷ s.w1 ∷ s.w2 ∷ s.w3 ∷ []

-- the set in hand, as a number
unfoldable pub set_of : Set → ℕ
set_of s = joined (words_of s)

-- set i of lent words, n words a set
unfoldable pub set_at : ℕ → List ℕ → ℕ → ℕ
set_at n words i = joined (take n (drop (n * i) words))

-- the sets that lie in lent words
unfoldable pub sets_in : List ℕ → List ℕ
sets_in words = map (set_at set_words words) (upto (length words / set_words))
