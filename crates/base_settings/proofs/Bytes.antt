-- The bytes of words written one word after another, the highest first, each into the rest of the lent buffer; for any number of words.
use mathlib.Core.Path.{◌≡◌, refl, sym, ap, ◌∙◌}
use mathlib.Core.List.{List, [], ◌∷◌, ◌++◌}
use Prim.Native.Nat.{ℕ, suc, ◌+◌, ◌-◌, ◌*◌, ◌≤◌}
use native.Mathlib.Omega.{arith}
use lib.ListN.{length, take, drop, length-append}
use borrow.Rule.Slice.PartMut.{put_mid}
use Rattle.base.specs.Buffers.{over}
use Rattle.base.specs.BufferLaws.{over_rest}
use Rattle.base.specs.Numbers.{bytes_of}
use Rattle.base.specs.NumberLaws.{length_bytes}
use Rattle.base.specs.BitWords.{joined, Fit}
use Rattle.base.specs.BitJoinedLaws.{joined_bytes}

-- the bytes of words, the lowest word given first
abbrev pub written : List ℕ → List ℕ
written [] = []
written (w ∷ l) = written l ++ bytes_of 8 w

written_length : (l : List ℕ) → length (written l) ≡ 8 * length l
written_length [] = refl
written_length (w ∷ l) = length-append (written l) (bytes_of 8 w) ∙ omega (arith, written_length l, length_bytes 8 w)

-- one word more, below those written
pub word_more : (w : ℕ) (l d e ys : List ℕ) → 8 * length l + 8 ≤ length d → e ≡ over (written l) d
    → ys ≡ over (bytes_of 8 w) (take (length e - 8 * length l) (drop (8 * length l) e))
    → put_mid (8 * length l) (length e - 8 * length l) e ys ≡ over (written (w ∷ l)) d
word_more w l d e ys h p r =
    over_rest (written l) (bytes_of 8 w) d e ys (8 * length l) (sym (written_length l)) (omega (arith, h, written_length l, length_bytes 8 w)) p r

-- they are the bytes of the number
pub written_all : (l : List ℕ) → Fit l → bytes_of (8 * length l) (joined l) ≡ written l
written_all [] h = unfold bytes_of in refl
written_all (w ∷ l) h =
    let n : 8 * suc (length l) ≡ 8 * length l + 8 = omega arith in
    ap (λ (k : ℕ). bytes_of k (joined (w ∷ l))) n
    ∙ joined_bytes w l (h 0) (8 * length l)
    ∙ ap (λ (b : List ℕ). b ++ bytes_of 8 w) (written_all l (λ i. h (suc i)))
