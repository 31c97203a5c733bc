-- A guard's table in row 62: a big-endian number is below a bound when the bytes above the bound's are 0 and the rest is below it.
use Rattle.std.specs.Prelude.{ℕ, zero, suc, IsTrue, ◌↔◌, EachIndex, take, [], ◌∷◌, ◌+◌, ◌-◌, ◌*◌, ◌^◌, ◌≤◌, ◌<◌, ◌≡◌, refl, List, Bool, true, false, ◌&&◌, eqb, leb, ltb, length, get_or}
use Rattle.std.proofs.Math.Path.{sym, ap}
use Rattle.std.proofs.Common.{zero-add, ◌∙◌, mul-le-mul_right, pow_pos, pow-add, pow_mono, eq-eqb, eqb-true, leb-true, leb-false, le-leb, ltb-true, lt-ltb, le-ltb}
use Rattle.std.proofs.Math.Nat.{one-le-pow}
use Rattle.std.proofs.Math.Seq.{take-length}
use native.Mathlib.Omega.{arith}
use Rattle.std.proofs.lemmas.Bool.{eqb-false}
use Rattle.base.specs.Numbers.{number, number_at, Bytes}
use Rattle.base.specs.NumberLaws.{number_one, number_split, number_small, bits_bytes}
use Rattle.base.specs.TestLaws.{split, same_test}
use Rattle.file.specs.declared.Version.TheVariants.{One, Two}
use Rattle.file.specs.Versions.{Version, most_guard_wires, table_bytes}
use Rattle.file.specs.VersionLaws.{table_few}
use Rattle.file_wiring.specs.Wires.{used_bytes, top_byte}

-- a number is 0 where all its bytes are
zero_number : (l : List ℕ) → ((k : ℕ) → k < length l → get_or l k 0 ≡ 0) → number l ≡ 0
unfolding number
zero_number [] h = refl
zero_number (b ∷ l) h = rw (h 0 (omega arith), zero_number l (λ k m. h (suc k) (omega arith))) (omega arith)

zero_bytes : (l : List ℕ) → number l ≡ 0 → (k : ℕ) → k < length l → get_or l k 0 ≡ 0
unfolding number
zero_bytes [] e k h = absurd (omega arith)
zero_bytes (b ∷ l) e zero h =
    split (eqb b 0) (λ t. eqb-true b 0 t) (λ t.
    let n = eqb-false b 0 t in
    let m : 1 * 256 ^ length l ≤ b * 256 ^ length l = mul-le-mul_right (256 ^ length l) (omega (arith, n)) in
    absurd (omega (arith, m, e, one-le-pow (length l) 256 (omega arith))))
zero_bytes (b ∷ l) e (suc k) h = zero_bytes l (omega (arith, e)) k (omega arith)

-- a number of `size` bytes and a bound of its last k
module _ (f : List ℕ) (at size k : ℕ) (inside : at + size ≤ length f) (some : k ≤ size) where
  parted : number_at size f at ≡ number_at (size - k) f at * 256 ^ k + number_at k f (at + (size - k))
  parted =
      let e : size ≡ size - k + k = omega arith in
      ap (λ (n : ℕ). number_at n f at) e ∙ number_split (size - k) k f at (omega arith)

  below_both : (bound : ℕ) → bound ≤ 256 ^ k → ltb (number_at size f at) bound ≡ (eqb (number_at (size - k) f at) 0 && ltb (number_at k f (at + (size - k))) bound)
  below_both bound most =
      let high = number_at (size - k) f at in
      split (eqb high 0)
      (λ t.
      let z = eqb-true high 0 t in
      let e : number_at size f at ≡ number_at k f (at + (size - k)) = parted ∙ rw z (omega arith) in
      rw (t, e))
      (λ t.
      let n = eqb-false high 0 t in
      let l : 1 * 256 ^ k ≤ high * 256 ^ k = mul-le-mul_right (256 ^ k) (omega (arith, n)) in
      rw (t, le-ltb (number_at size f at) bound (omega (arith, l, parted, most))))

-- 2^d bits are 2^(d - 3) bytes
bits_used : (d : ℕ) → 3 ≤ d → 2 ^ 2 ^ d ≡ 256 ^ 2 ^ (d - 3)
bits_used d h =
    let e : d ≡ 3 + (d - 3) = omega arith in
    ap (λ (n : ℕ). 2 ^ n) (ap (λ (n : ℕ). 2 ^ n) e ∙ pow-add 2 3 (d - 3)) ∙ bits_bytes (2 ^ (d - 3))

-- one byte at least is used
pub used_some : (d : ℕ) → 1 ≤ used_bytes d
used_some d = split (leb 3 d) (λ t. rw t (pow_pos (d - 3))) (λ t. rw t (omega arith))

-- the bits fit the used bytes, and are there alone where the first of these is small enough
used_bound : (d : ℕ) → 2 ^ 2 ^ d ≤ 256 ^ used_bytes d
used_bound d =
    split (leb 3 d)
    (λ t. rw (t, bits_used d (leb-true 3 d t)) (omega arith))
    (λ t.
    let l : d < 3 = leb-false 3 d t in
    let i : 2 ^ d ≤ 2 ^ 3 = pow_mono {i = d} {j = 3} (omega arith) in
    let k : 2 ^ 2 ^ d ≤ 2 ^ 8 = pow_mono {i = 2 ^ d} {j = 8} i in
    rw t (omega (arith, k)))

module _ (f : List ℕ) (bytes : Bytes f) (at d : ℕ) (inside : at + used_bytes d ≤ length f) where
  used_top : leb (get_or f at 0) (top_byte d) ≡ ltb (number_at (used_bytes d) f at) (2 ^ 2 ^ d)
  used_top =
      split (leb 3 d)
      (λ t.
      let some : 1 ≤ 2 ^ (d - 3) = pow_pos (d - 3) in
      let l : at + 2 ^ (d - 3) ≤ length f = rw t at inside in
      let b : get_or f at 0 < 256 = bytes at (omega (arith, some, l)) in
      rw (t, le-leb (get_or f at 0) 255 (omega (arith, b)), bits_used d (leb-true 3 d t), lt-ltb _ _ (number_small (2 ^ (d - 3)) f at bytes l)))
      (λ t.
      let l : at + 1 ≤ length f = rw t at inside in
      let some : 1 ≤ 2 ^ 2 ^ d = pow_pos (2 ^ d) in
      rw (t, number_one f at (omega (arith, l)))
      (same_test (leb (get_or f at 0) (2 ^ 2 ^ d - 1)) (ltb (get_or f at 0) (2 ^ 2 ^ d))
      (λ h. lt-ltb (get_or f at 0) (2 ^ 2 ^ d) (omega (arith, some, leb-true (get_or f at 0) (2 ^ 2 ^ d - 1) h)))
      (λ h. le-leb (get_or f at 0) (2 ^ 2 ^ d - 1) (omega (arith, some, ltb-true (get_or f at 0) (2 ^ 2 ^ d) h)))))

-- a table of 2^d bits; none: whether the bytes before the used ones are 0, as the code answers it
module _ (s : List ℕ) (d : ℕ) (room : used_bytes d ≤ length s) (none : Bool)
    (told : IsTrue none ↔ EachIndex (take (length s - used_bytes d) s) (λ k. get_or (take (length s - used_bytes d) s) k 0 ≡ 0)) where
  decided : none ≡ eqb (number (take (length s - used_bytes d) s)) 0
  decided = same_test none (eqb (number (take (length s - used_bytes d) s)) 0)
      (λ t. eq-eqb _ 0 (zero_number (take (length s - used_bytes d) s) (told.0 t)))
      (λ t. told.1 (zero_bytes (take (length s - used_bytes d) s) (eqb-true _ 0 t)))

  parts : ltb (number s) (2 ^ 2 ^ d) ≡ (none && ltb (number_at (used_bytes d) s (length s - used_bytes d)) (2 ^ 2 ^ d))
  parts = rw decided (rw (take-length, zero-add) at (below_both s 0 (length s) (used_bytes d) (omega arith) room (2 ^ 2 ^ d) (used_bound d)))

  pub table_high : none ≡ false → false ≡ ltb (number s) (2 ^ 2 ^ d)
  table_high z = sym (parts ∙ rw z)

  pub table_low : none ≡ true → Bytes s → leb (get_or s (length s - used_bytes d) 0) (top_byte d) ≡ ltb (number s) (2 ^ 2 ^ d)
  table_low z bytes = used_top s bytes (length s - used_bytes d) d (omega (arith, room)) ∙ sym (parts ∙ rw z)

-- a version's table has room for the bits of its guards
pub used_few : (ver : Version) (d : ℕ) → d ≤ most_guard_wires ver → used_bytes d ≤ table_bytes ver
used_few ver d h = split (leb 3 d) (λ t. rw t (go ver h)) (λ t. rw t (omega (arith, table_few ver)))
  where
    go : (ver : Version) → d ≤ most_guard_wires ver → 2 ^ (d - 3) ≤ table_bytes ver
    go One l = let k : 2 ^ (d - 3) ≤ 2 ^ 3 = pow_mono {i = d - 3} {j = 3} (omega arith) in omega (arith, k)
    go Two l = let k : 2 ^ (d - 3) ≤ 2 ^ 5 = pow_mono {i = d - 3} {j = 5} (omega arith) in omega (arith, k)
