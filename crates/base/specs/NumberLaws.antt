-- Big-endian numbers of any width: a number written and read back is the same, and so are bytes read and written; the number of two runs of bytes by those of each.
use Rattle.std.specs.Prelude.{◌≡◌, refl, List, [], ◌∷◌, ◌++◌, ℕ, zero, suc, ◌+◌, ◌*◌, ◌/◌, ◌%◌, ◌^◌, ◌≤◌, ◌<◌, length, take, drop, get_or}
use Rattle.std.proofs.Common.{sym, ap, ap₂, ◌∙◌, zero-add, suc-add, add_assoc, zero-mul, add-mul, mul_assoc, mul_comm, le_of_lt, lt_of_le_of_lt, mul-le-mul_left, mul-lt-mul_of_pos_right}
use Rattle.std.proofs.Common.{mod-eq_of_lt, div-add-mod', arith, length-append, length-drop, take-append-drop, pow_pos, pow-add, take-add, take_at, drop-drop, drop-cons, length-take-le}
use Rattle.std.proofs.Common.{get_or-take, get_or-drop}
use Rattle.std.proofs.Math.Path.{subst⁻¹}
use Rattle.std.proofs.Math.Nat.{pow-succ', one-le-pow, div-div-eq-div-mul, mul-add-div_right, mul-add-mod_self_right}
use Rattle.std.proofs.Math.Arith.{digits_lt, digits_div, mod-mul}
use Rattle.std.proofs.Math.Seq.{drop-append_seam}
use Rattle.base.specs.Numbers.{number, bytes_of, number_at, Bytes}

-- a product fits twice the width
pub below : (k : ℕ) {a b : ℕ} → a < 2 ^ k → b < 2 ^ k → a * b < 2 ^ (k + k)
below k {a} {b} ha hb =
    subst⁻¹ (λ (n : ℕ). a * b < n) (pow-add 2 k k)
    (lt_of_le_of_lt (mul-le-mul_left a (le_of_lt hb)) (mul-lt-mul_of_pos_right ha (pow_pos k)))

-- what is taken modulo 4,294,967,296 is a word
pub word_below : (n : ℕ) → n % 4294967296 < 4294967296
word_below n = omega arith

-- n is written in w bytes
pub length_bytes : (w n : ℕ) → length (bytes_of w n) ≡ w
unfolding bytes_of
length_bytes zero n = refl
length_bytes (suc w) n = ap suc (length_bytes w n)

-- and each of them is a byte
pub bytes_below : (w n : ℕ) → Bytes (bytes_of w n)
unfolding bytes_of
bytes_below zero n i h = absurd (omega arith)
bytes_below (suc w) n zero h = omega arith
bytes_below (suc w) n (suc i) h = bytes_below w n i (omega arith)

-- a number of one byte
pub bytes_one : (n : ℕ) → n < 256 → bytes_of 1 n ≡ n ∷ []
unfolding bytes_of
bytes_one n h = ap (λ (k : ℕ). k ∷ []) (omega arith)

-- bytes stand for a number of their width
pub number_below : (s : List ℕ) → Bytes s → number s < 256 ^ length s
unfolding number
number_below [] h = omega arith
number_below (b ∷ s) h =
    rw pow-succ' (digits_lt (h 0 (omega arith)) (number_below s (λ i l. h (suc i) (omega arith))))

-- the number of two runs of bytes
pub number_append : (s t : List ℕ) → number (s ++ t) ≡ number s * 256 ^ length t + number t
unfolding number
number_append [] t = rw (zero-mul, zero-add)
number_append (b ∷ s) t =
    let e : b * 256 ^ length (s ++ t) + number (s ++ t) ≡ (b * 256 ^ length s + number s) * 256 ^ length t + number t =
    rw (length-append, pow-add, number_append s t) (simp (add-mul, mul_assoc, add_assoc)) in
    e

-- what lies above the width is not written
bytes_high : (w k n : ℕ) → bytes_of w (k * 256 ^ w + n) ≡ bytes_of w n
unfolding bytes_of
bytes_high zero k n = refl
bytes_high (suc w) k n =
    let e : k * 256 ^ suc w ≡ k * 256 * 256 ^ w = ap (λ (p : ℕ). k * p) (pow-succ' 256 w) ∙ sym (mul_assoc k 256 (256 ^ w)) in
    rw (e, mul-add-div_right (one-le-pow w 256 (omega arith)), mul-add-mod_self_right, bytes_high w (k * 256) n)

-- so only the low digits count
bytes_low : (w n : ℕ) → bytes_of w (n % 256 ^ w) ≡ bytes_of w n
bytes_low w n = sym (bytes_high w (n / 256 ^ w) (n % 256 ^ w)) ∙ ap (bytes_of w) (div-add-mod' n (256 ^ w))

-- the high bytes, then the low ones
pub bytes_append : (v w n : ℕ) → bytes_of (v + w) n ≡ bytes_of v (n / 256 ^ w) ++ bytes_of w (n % 256 ^ w)
unfolding bytes_of
bytes_append zero w n = rw zero-add (sym (bytes_low w n))
bytes_append (suc v) w n =
    rw (suc-add, bytes_append v w n, div-div-eq-div-mul, pow-add 256 v w, mul_comm (256 ^ v) (256 ^ w))

-- writing, then reading
pub number_bytes : (w n : ℕ) → number (bytes_of w n) ≡ n % 256 ^ w
unfolding number bytes_of
number_bytes zero n = omega arith
number_bytes (suc w) n =
    let e : n / 256 ^ w % 256 * 256 ^ length (bytes_of w n) + number (bytes_of w n) ≡ n % 256 ^ suc w =
    rw (length_bytes, number_bytes w n, pow-succ') (sym (mod-mul n (omega arith) (one-le-pow w 256 (omega arith)))) in
    e

-- the same for a number of the width
pub number_written : (w n : ℕ) → n < 256 ^ w → number (bytes_of w n) ≡ n
number_written w n h = number_bytes w n ∙ mod-eq_of_lt h

-- reading, then writing
pub bytes_number : (s : List ℕ) → Bytes s → bytes_of (length s) (number s) ≡ s
unfolding number bytes_of
bytes_number [] h = refl
bytes_number (b ∷ s) h =
    let t : Bytes s = λ i l. h (suc i) (omega arith) in
    rw (digits_div b (number_below s t), mod-eq_of_lt (h 0 (omega arith)), bytes_high (length s) b (number s), bytes_number s t)

-- w bytes from a place on
module _ (w : ℕ) (s : List ℕ) (at : ℕ) (bytes : Bytes s) (h : at + w ≤ length s) where
  part_length_lem : length (take w (drop at s)) ≡ w
  part_length_lem = length-take-le w (drop at s) (simp length-drop (omega arith))

  part_bytes_lem : Bytes (take w (drop at s))
  part_bytes_lem i l = let m : i < w = rw part_length_lem at l in rw (get_or-take w (drop at s) i 0 m, get_or-drop at s i 0) (bytes (at + i) (omega arith))

  -- their number fits w bytes
  pub number_small : number_at w s at < 256 ^ w
  number_small = rw part_length_lem at (number_below (take w (drop at s)) part_bytes_lem)

  -- and written again it is the same bytes
  pub number_back : drop at s ≡ bytes_of w (number_at w s at) ++ drop (at + w) s
  number_back =
      sym (take-append-drop w (drop at s))
      ∙ ap₂ (λ (a b : List ℕ). a ++ b)
      (sym (ap (λ (k : ℕ). bytes_of k (number_at w s at)) (sym part_length_lem) ∙ bytes_number (take w (drop at s)) part_bytes_lem)) (drop-drop w at s)

-- the number that a buffer holds where it was written
pub number_found : (w n : ℕ) (a b : List ℕ) → n < 256 ^ w → number_at w (a ++ (bytes_of w n ++ b)) (length a) ≡ n
number_found w n a b h =
    rw (drop-append_seam, take_at (bytes_of w n) b w (length_bytes w n)) (number_written w n h)

-- reading one byte
pub number_one : (s : List ℕ) (at : ℕ) → at < length s → number_at 1 s at ≡ get_or s at 0
unfolding number
number_one s at h = rw (drop-cons s at 0) (omega arith)

-- reading v + w bytes as two numbers
pub number_split : (v w : ℕ) (s : List ℕ) (at : ℕ) → at + (v + w) ≤ length s
    → number_at (v + w) s at ≡ number_at v s at * 256 ^ w + number_at w s (at + v)
number_split v w s at h =
    let l : length (take w (drop (at + v) s)) ≡ w = length-take-le w _ (simp length-drop (omega arith)) in
    rw (take-add, number_append, drop-drop, l)

-- k bytes have 8 k bits
pub bits_bytes : (k : ℕ) → 2 ^ (8 * k) ≡ 256 ^ k
bits_bytes zero = refl
bits_bytes (suc k) =
    let e : 8 * suc k ≡ 8 + 8 * k = omega arith in
    ap (λ (n : ℕ). 2 ^ n) e ∙ pow-add 2 8 (8 * k) ∙ ap (λ (n : ℕ). 256 * n) (bits_bytes k) ∙ sym (pow-succ' 256 k)
