-- Laws for document 01, "Needed gates (000 Def. 4)": changing bit t alone of a number changes that bit, keeps the number's size, and done twice changes nothing.
use Rattle.std.specs.Prelude.{◌≡◌, refl, Bool, true, false, not, ℕ, zero, suc, ◌+◌, ◌*◌, ◌/◌, ◌%◌, ◌^◌, ◌<◌}
use Rattle.std.proofs.Common.{sym, ap, ap₂, ◌∙◌, arith}
use Rattle.std.proofs.Math.Bool.{not-not}
use Rattle.std.specs.Int.Bits.{bit_xor, differ, xor_step, xor_zero_r}
use Rattle.std.proofs.lemmas.Nat.{xor_lt}
use Rattle.std.proofs.Math.Pow.{pow-lt}
use Rattle.base.specs.Bits.{odd, bit_of, bit, unlike, flip_bit}
use Rattle.base.specs.BitLaws.{half, odd_bit, low_bit, rebuilt, bit_zero, bit_suc, bit_xor_lem, bit_pow}

-- a changed number, by its lowest bit and its half
flip_low : (b : Bool) (x : ℕ) → x * 2 + differ (bit_of b) 1 ≡ bit_of (not b) + 2 * x
flip_low true x = omega arith
flip_low false x = omega arith

keep_low : (b : Bool) (x : ℕ) → x * 2 + differ (bit_of b) 0 ≡ bit_of b + 2 * x
keep_low true x = omega arith
keep_low false x = omega arith

pub flip_zero : (j : ℕ) → flip_bit 0 j ≡ bit_of (not (odd j)) + 2 * (j / 2)
flip_zero j = xor_step j 1 ∙ ap₂ (λ (x y : ℕ). x * 2 + differ y 1) (xor_zero_r (j / 2)) (low_bit j) ∙ flip_low (odd j) (j / 2)

pub flip_suc : (t j : ℕ) → flip_bit (suc t) j ≡ bit_of (odd j) + 2 * flip_bit t (j / 2)
flip_suc t j =
    let h : 2 ^ suc t / 2 ≡ 2 ^ t = omega arith in
    let e : 2 ^ suc t % 2 ≡ 0 = omega arith in
    xor_step j (2 ^ suc t)
    ∙ ap₂ (λ (x y : ℕ). bit_xor (j / 2) x * 2 + differ (j % 2) y) h e
    ∙ ap (λ (y : ℕ). flip_bit t (j / 2) * 2 + differ y 0) (low_bit j)
    ∙ keep_low (odd j) (flip_bit t (j / 2))

-- a number of n bits stays one
pub flip_below : (t n j : ℕ) → t < n → j < 2 ^ n → flip_bit t j < 2 ^ n
flip_below t n j h l = xor_lt n j (2 ^ t) l (pow-lt h)

-- bit t is changed; changing it again is changing nothing; a bit 0 becomes 1 by adding 2 ^ t
unlike_true : (b : Bool) → unlike b true ≡ not b
unlike_true true = refl
unlike_true false = refl

pub bit_flip : (t j : ℕ) → bit (flip_bit t j) t ≡ not (bit j t)
bit_flip t j = bit_xor_lem j (2 ^ t) t ∙ ap (unlike (bit j t)) (bit_pow t) ∙ unlike_true (bit j t)

pub flip_flip : (t j : ℕ) → flip_bit t (flip_bit t j) ≡ j
flip_flip zero j =
    ap (flip_bit 0) (flip_zero j)
    ∙ flip_zero (bit_of (not (odd j)) + 2 * (j / 2))
    ∙ rw (odd_bit (not (odd j)) (j / 2), half (not (odd j)) (j / 2), not-not (odd j)) (rebuilt j)
flip_flip (suc t) j =
    ap (flip_bit (suc t)) (flip_suc t j)
    ∙ flip_suc t (bit_of (odd j) + 2 * flip_bit t (j / 2))
    ∙ rw (odd_bit (odd j) (flip_bit t (j / 2)), half (odd j) (flip_bit t (j / 2)), flip_flip t (j / 2)) (rebuilt j)

pub flip_add : (t j : ℕ) → bit j t ≡ false → flip_bit t j ≡ j + 2 ^ t
flip_add zero j h =
    flip_zero j ∙ rw (sym (bit_zero j) ∙ h) (omega (arith, low_bit j ∙ ap bit_of (sym (bit_zero j) ∙ h)))
flip_add (suc t) j h =
    let ih : flip_bit t (j / 2) ≡ j / 2 + 2 ^ t = flip_add t (j / 2) (sym (bit_suc j t) ∙ h) in
    flip_suc t j ∙ rw ih (omega (arith, rebuilt j))
