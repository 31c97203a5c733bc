-- Laws for document 01, "Needed gates (000 Def. 4)": the movers of a set that is held in words, for any number of words: below condition 6 they are found
-- within each word, from 6 on by comparing whole words.
use Rattle.std.specs.Prelude.{◌≡◌, Bool, true, false, not, cond, ◌&&◌, List, map, ℕ, ◌+◌, ◌*◌, ◌/◌, ◌%◌, ◌^◌, ◌<◌, length, get_or}
use Rattle.std.proofs.Common.{sym, ap, ap₂, ◌∙◌, add_comm, arith, pow-add}
use Rattle.std.proofs.Math.Bool.{and-false, and-true}
use Rattle.std.specs.Int.Bits.{bit_xor}
use Rattle.std.proofs.lemmas.Nat.{xor_lt}
use Rattle.base.specs.Lists.{upto}
use Rattle.base.specs.TestLaws.{split}
use Rattle.base.specs.Bits.{bit, unlike}
use Rattle.base.specs.BitWords.{joined, Fit}
use Rattle.base.specs.BitLaws.{bit_none, bit_mod, bit_shift, bit_xor_lem}
use Rattle.base.specs.BitFlipLaws.{flip_add, flip_below}
use Rattle.base.specs.BitJoinedLaws.{joined_at, joined_of}
use Rattle.base.specs.Sets.{has, movers}
use Rattle.base.specs.SetLaws.{movers_below, movers_has}

-- what word i holds of the movers of condition 6 + u
abbrev pub across : List ℕ → ℕ → ℕ → ℕ
across l u i = cond (bit i u) 0 (bit_xor (get_or l (2 ^ u + i) 0) (get_or l i 0))

-- a setting that gives the condition 1 is no mover, whatever the rest says
shut : (a b c : Bool) → c ≡ true → (a && not c) ≡ (b && not c)
shut a b c e = rw e (and-false a ∙ sym (and-false b))

across_below : (l : List ℕ) → Fit l → (u i : ℕ) → across l u i < 2 ^ 64
across_below l h u i = split (bit i u) (λ y. rw y (omega arith)) (λ y. rw y (xor_lt 64 (get_or l (2 ^ u + i) 0) (get_or l i 0) (h (2 ^ u + i)) (h i)))

across_bit : (l : List ℕ) (u i k : ℕ) → bit (across l u i) k ≡ (unlike (bit (get_or l (2 ^ u + i) 0) k) (bit (get_or l i 0) k) && not (bit i u))
across_bit l u i k =
    let d : Bool = unlike (bit (get_or l (2 ^ u + i) 0) k) (bit (get_or l i 0) k) in
    split (bit i u) (λ y. rw y (bit_none k ∙ sym (and-false d))) (λ y. rw y (bit_xor_lem (get_or l (2 ^ u + i) 0) (get_or l i 0) k ∙ sym (and-true d)))

module _ (n : ℕ) (l : List ℕ) (h : Fit l) (e : 2 ^ n ≡ 64 * length l) where
  below : (t : ℕ) → movers n (joined l) t < 2 ^ (64 * length l)
  below t = rw e at (movers_below n (joined l) t)

  within : (t i k : ℕ) → t < 6 → i < length l → k < 64 → has (movers n (joined l) t) (64 * i + k) ≡ has (movers 6 (get_or l i 0) t) k
  within t i k b c m =
      let s : ℕ = joined l in
      let w : ℕ = get_or l i 0 in
      let j : ℕ = 64 * i + k in
      let r : j % 64 ≡ k = omega arith in
      movers_has n s t j (omega arith)
      ∙ ap (λ (z : Bool). unlike (has s (2 ^ t + j)) (has s j) && not z) (sym (bit_mod j 6 t b) ∙ ap (λ (x : ℕ). bit x t) r)
      ∙ split (bit k t)
      (shut (unlike (has s (2 ^ t + j)) (has s j)) (unlike (has w (2 ^ t + k)) (has w k)) (bit k t))
      (λ y. ap₂ (λ (x z : Bool). unlike x z && not (bit k t)) (far y) (joined_at l h i k m))
      ∙ sym (movers_has 6 w t k m)
    where
      -- j + 2 ^ t is in the same word
      far : bit k t ≡ false → has (joined l) (2 ^ t + (64 * i + k)) ≡ has (get_or l i 0) (2 ^ t + k)
      far y =
          let low : k + 2 ^ t < 64 = rw (flip_add t k y) at (flip_below t 6 k b m) in
          let q : 2 ^ t + (64 * i + k) ≡ 64 * i + (k + 2 ^ t) = omega arith in
          ap (has (joined l)) q ∙ joined_at l h i (k + 2 ^ t) low ∙ ap (has (get_or l i 0)) (add_comm k (2 ^ t))

  pub movers_within : (t : ℕ) → t < 6 → movers n (joined l) t ≡ joined (map (λ i. movers 6 (get_or l i 0) t) (upto (length l)))
  movers_within t b =
      joined_of (length l) (movers n (joined l) t) (λ i. movers 6 (get_or l i 0) t) (below t) (λ i. movers_below 6 (get_or l i 0) t) (λ i k c m. within t i k b c m)

  pub movers_across : (u : ℕ) → movers n (joined l) (6 + u) ≡ joined (map (across l u) (upto (length l)))
  movers_across u =
      joined_of (length l) (movers n (joined l) (6 + u)) (across l u) (below (6 + u)) (across_below l h u)
      (λ i k c m.
      let s : ℕ = joined l in
      let j : ℕ = 64 * i + k in
      let r : j / 64 ≡ i = omega arith in
      let q : 2 ^ (6 + u) + j ≡ 64 * (2 ^ u + i) + k = rw (pow-add 2 6 u) (omega arith) in
      movers_has n s (6 + u) j (omega arith)
      ∙ ap (λ (z : Bool). unlike (has s (2 ^ (6 + u) + j)) (has s j) && not z) (sym (bit_shift j 6 u) ∙ ap (λ (x : ℕ). bit x u) r)
      ∙ ap₂ (λ (x z : Bool). unlike x z && not (bit i u)) (ap (has s) q ∙ joined_at l h (2 ^ u + i) k m) (joined_at l h i k m)
      ∙ sym (across_bit l u i k))
