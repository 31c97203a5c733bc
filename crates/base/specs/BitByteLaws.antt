-- The bits of a big-endian number in bytes: bit j is a bit of one byte, since the last byte has the lowest bits.
use Rattle.std.specs.Prelude.{ℕ, ◌+◌, ◌-◌, ◌*◌, ◌/◌, ◌%◌, ◌^◌, ◌≤◌, ◌<◌, ◌≡◌, List, length, get_or}
use Rattle.std.proofs.Common.{sym, ap, ◌∙◌, arith}
use Rattle.std.proofs.Math.Pow.{high}
use Rattle.base.specs.Numbers.{number_at, Bytes}
use Rattle.base.specs.NumberLaws.{number_one, number_split, number_small, bits_bytes}
use Rattle.base.specs.Bits.{bit}
use Rattle.base.specs.BitLaws.{bit_shift, bit_mod}

module _ (f : List ℕ) (bytes : Bytes f) (at size j : ℕ) (inside : at + size ≤ length f) (l : j < 8 * size) where
  -- the number without the j / 8 bytes behind that byte: those before it, and it
  shifted : number_at size f at / 2 ^ (8 * (j / 8)) ≡ number_at (size - 1 - j / 8) f at * 256 + get_or f (at + (size - 1 - j / 8)) 0
  shifted =
      let k : ℕ = j / 8 in
      let p : ℕ = size - 1 - k in
      let e : size ≡ p + 1 + k = omega arith in
      let w : number_at size f at ≡ number_at (p + 1) f at * 2 ^ (8 * k) + number_at k f (at + (p + 1)) =
      ap (λ (n : ℕ). number_at n f at) e ∙ number_split (p + 1) k f at (omega arith) ∙ rw (bits_bytes k) in
      let s : number_at k f (at + (p + 1)) < 2 ^ (8 * k) = rw (bits_bytes k) (number_small k f (at + (p + 1)) bytes (omega arith)) in
      ap (λ (n : ℕ). n / 2 ^ (8 * k)) w ∙ high (number_at (p + 1) f at) (8 * k) s
      ∙ number_split p 1 f at (omega arith) ∙ ap (λ (b : ℕ). number_at p f at * 256 + b) (number_one f (at + p) (omega arith))

  pub bit_byte : bit (get_or f (at + (size - 1 - j / 8)) 0) (j % 8) ≡ bit (number_at size f at) j
  bit_byte =
      let h : ℕ = number_at (size - 1 - j / 8) f at in
      let b : ℕ = get_or f (at + (size - 1 - j / 8)) 0 in
      let m : b < 256 = bytes (at + (size - 1 - j / 8)) (omega arith) in
      let e : (h * 256 + b) % 2 ^ 8 ≡ b = omega (arith, m) in
      let q : 8 * (j / 8) + j % 8 ≡ j = omega arith in
      ap (λ (x : ℕ). bit x (j % 8)) (sym e) ∙ bit_mod (h * 256 + b) 8 (j % 8) (omega arith) ∙ ap (λ (x : ℕ). bit x (j % 8)) (sym shifted)
      ∙ bit_shift (number_at size f at) (8 * (j / 8)) (j % 8) ∙ ap (bit (number_at size f at)) q
