-- What is known of a set that code has in hand: its words are words; its test for no setting at all.
use mathlib.Core.Path.{◌≡◌}
use mathlib.Core.List.{[], ◌∷◌}
use Prim.Native.Nat.{suc, ◌^◌, ◌<◌}
use lib.Bits.{bit_or}
use lib.Dec.{eqb}
use Rattle.base.specs.BitWords.{joined, Fit}
use Rattle.base.specs.BitJoinedLaws.{no_word}
use Rattle.base.specs.SetsHeld.{words_of, set_of}
use Rattle.base.specs.SetsHeldLaws.{words_fit}
use Rattle.base.specs.declared.Set.{Set}

-- from what a function knows of a set that it is given, field by field
pub fits : (s : Set) {A B C D : Type 0}
    → (A × (s.w0 < 2 ^ 64)) × ((B × (s.w1 < 2 ^ 64)) × ((C × (s.w2 < 2 ^ 64)) × ((D × (s.w3 < 2 ^ 64)) × Unit {0}))) → Fit (words_of s)
fits s g = words_fit s g.0.1 g.1.0.1 g.1.1.0.1 g.1.1.1.0.1

-- it is empty when the union of its words is
pub none_in : (s : Set) → Fit (words_of s) → eqb (bit_or (bit_or (bit_or s.w0 s.w1) s.w2) s.w3) 0 ≡ eqb (set_of s) 0
unfolding set_of joined
none_in s h = no_word s.w0 (s.w1 ∷ s.w2 ∷ s.w3 ∷ []) (h 0) (λ i. h (suc i))
