-- Laws for document 01, "The fused circuit file": the settings that a table goes through, each from the one before it; the first gives every condition 0.
use Rattle.std.specs.Prelude.{◌≡◌, Bool, true, false, cond, ◌&&◌, ℕ, zero, suc, ◌+◌, ◌-◌, ◌*◌, ◌/◌, ◌%◌, ◌^◌, ◌<◌, min}
use Rattle.std.proofs.Math.Path.{refl}
use Rattle.std.proofs.Common.{sym, ap, ap₂, ◌∙◌, div-one, add-one, shr-shr, eq-eqb, ne_eqb}
use Rattle.std.proofs.Math.Bool.{and-true}
use native.Mathlib.Omega.{arith}
use Rattle.std.specs.Int.Bits.{bit_and, and_step}
use Rattle.base.specs.Lists.{keep, from}
use Rattle.base.specs.MemberLaws.{keep_from, from_below}
use Rattle.base.specs.TestLaws.{split}
use Rattle.base.specs.Bits.{odd, bit_of, bit}
use Rattle.base.specs.BitLaws.{half, low_bit, rebuilt}
use Rattle.base.specs.Settings.{setting_of, number_of}
use Rattle.base.specs.Guards.{spread, chosen}
use Rattle.base.specs.SettingLaws.{number_of_agree, setting_of_out}

-- the bits of j laid, in order, at the places below n where `on` has the bit 1
unfoldable laid : ℕ → ℕ → ℕ → ℕ
laid zero on j = 0
laid (suc n) on j = cond (odd on) (bit_of (odd j) + 2 * laid n (on / 2) (j / 2)) (2 * laid n (on / 2) j)

laid_yes : (n on j : ℕ) → odd on ≡ true → laid (suc n) on j ≡ bit_of (odd j) + 2 * laid n (on / 2) (j / 2)
unfolding laid
laid_yes n on j e = rw e

laid_no : (n on j : ℕ) → odd on ≡ false → laid (suc n) on j ≡ 2 * laid n (on / 2) j
unfolding laid
laid_no n on j e = rw e

-- that is the setting's number, condition by condition from i on
spread_from : (n i on j : ℕ) → number_of (from i n) (setting_of (keep (bit on) (from i n)) j) ≡ laid n (on / 2 ^ i) j
spread_from zero i on j = unfold laid in refl
spread_from (suc n) i on j =
    split (bit on i)
    (λ e.
    rw (e, eq-eqb i i refl)
    (ap (λ (x : ℕ). bit_of (odd j) + 2 * x)
    (number_of_agree (from (suc i) n) _ (setting_of (keep (bit on) (from (suc i) n)) (j / 2)) (λ d m. rw (ne_eqb d i (omega (arith, from_below (suc i) n d m))))
    ∙ spread_from n (suc i) on (j / 2) ∙ ap (λ (o : ℕ). laid n o (j / 2)) down)
    ∙ sym (laid_yes n (on / 2 ^ i) j e)))
    (λ e.
    rw (e, setting_of_out (keep (bit on) (from (suc i) n)) j i (λ m. omega (arith, from_below (suc i) n i (keep_from (bit on) (from (suc i) n) i m).0)))
    (omega (arith, spread_from n (suc i) on j ∙ ap (λ (o : ℕ). laid n o j) down, laid_no n (on / 2 ^ i) j e)))
  where
    down : on / 2 ^ suc i ≡ on / 2 ^ i / 2
    down = sym (shr-shr on i 1 ∙ ap (λ (k : ℕ). on / 2 ^ k) (add-one i))

-- what is common of two numbers, by their lowest bits and the rest
common : (m o : ℕ) (a b : Bool) (x y : ℕ) → m ≡ bit_of a + 2 * x → o ≡ bit_of b + 2 * y → bit_and m o ≡ bit_of (a && b) + 2 * bit_and x y
common m o a b x y e f =
    ap₂ bit_and e f ∙ and_step (bit_of a + 2 * x) (bit_of b + 2 * y)
    ∙ ap₂ (λ (p q : ℕ). bit_and p q * 2 + min ((bit_of a + 2 * x) % 2) ((bit_of b + 2 * y) % 2)) (half a x) (half b y)
    ∙ low a b
  where
    low : (a b : Bool) → bit_and x y * 2 + min ((bit_of a + 2 * x) % 2) ((bit_of b + 2 * y) % 2) ≡ bit_of (a && b) + 2 * bit_and x y
    low true true = omega arith
    low true false = omega arith
    low false true = omega arith
    low false false = omega arith

-- what is laid at places of `on` stays when the bits of all other places are put to it and taken off again
kept : (n on j : ℕ) → on < 2 ^ n → bit_and (laid n on j + (2 ^ n - 1 - on)) on ≡ laid n on j
kept zero on j h = unfold laid in (let z : on ≡ 0 = omega arith in rw z)
kept (suc n) on j h =
    let q : ℕ = on / 2 in
    split (odd on)
    (λ e.
    let d : ℕ = laid n q (j / 2) in
    let l : laid (suc n) on j ≡ bit_of (odd j) + 2 * d = laid_yes n on j e in
    let o : on ≡ bit_of true + 2 * q = sym (rebuilt on) ∙ ap (λ (b : Bool). bit_of b + 2 * q) e in
    common (laid (suc n) on j + (2 ^ suc n - 1 - on)) on (odd j) true (d + (2 ^ n - 1 - q)) q (omega (arith, l, o)) o
    ∙ ap₂ (λ (b : Bool) (x : ℕ). bit_of b + 2 * x) (and-true (odd j)) (kept n q (j / 2) (omega arith)) ∙ sym l)
    (λ e.
    let d : ℕ = laid n q j in
    let l : laid (suc n) on j ≡ 2 * d = laid_no n on j e in
    let o : on ≡ bit_of false + 2 * q = sym (rebuilt on) ∙ ap (λ (b : Bool). bit_of b + 2 * q) e in
    common (laid (suc n) on j + (2 ^ suc n - 1 - on)) on true false (d + (2 ^ n - 1 - q)) q (omega (arith, l, o)) o
    ∙ omega (arith, l, kept n q j (omega arith)))

-- to subtract `on` carries over the places that are none of its own: what is left there is what is laid of j + 1
next : (n on j : ℕ) → on < 2 ^ n → bit_and (laid n on j + (2 ^ n - on)) on ≡ laid n on (j + 1)
next zero on j h = unfold laid in (let z : on ≡ 0 = omega arith in rw z)
next (suc n) on j h =
    let q : ℕ = on / 2 in
    let d : ℕ = laid n q (j / 2) in
    split (odd on)
    (λ e.
    let o : on ≡ bit_of true + 2 * q = sym (rebuilt on) ∙ ap (λ (b : Bool). bit_of b + 2 * q) e in
    let l : laid (suc n) on j ≡ bit_of (odd j) + 2 * d = laid_yes n on j e in
    split (odd j)
    (λ y.
    let b : j % 2 ≡ 1 = low_bit j ∙ ap bit_of y in
    let k : (j + 1) / 2 ≡ j / 2 + 1 = omega arith in
    let f : odd (j + 1) ≡ false = ne_eqb ((j + 1) % 2) 1 (omega arith) in
    common (laid (suc n) on j + (2 ^ suc n - on)) on false true (d + (2 ^ n - q)) q (omega (arith, l, o, ap bit_of y)) o
    ∙ ap (λ (x : ℕ). 0 + 2 * x) (next n q (j / 2) (omega arith) ∙ ap (laid n q) (sym k))
    ∙ sym (laid_yes n on (j + 1) e ∙ rw f))
    (λ y.
    let b : j % 2 ≡ 0 = low_bit j ∙ ap bit_of y in
    let k : (j + 1) / 2 ≡ j / 2 = omega arith in
    let f : odd (j + 1) ≡ true = eq-eqb ((j + 1) % 2) 1 (omega arith) in
    common (laid (suc n) on j + (2 ^ suc n - on)) on true true (d + (2 ^ n - 1 - q)) q (omega (arith, l, o, ap bit_of y)) o
    ∙ ap (λ (x : ℕ). 1 + 2 * x) (kept n q (j / 2) (omega arith) ∙ ap (laid n q) (sym k))
    ∙ sym (laid_yes n on (j + 1) e ∙ rw f)))
    (λ e.
    let o : on ≡ bit_of false + 2 * q = sym (rebuilt on) ∙ ap (λ (b : Bool). bit_of b + 2 * q) e in
    common (laid (suc n) on j + (2 ^ suc n - on)) on false false (laid n q j + (2 ^ n - q)) q (omega (arith, laid_no n on j e, o)) o
    ∙ omega (arith, next n q j (omega arith), laid_no n on (j + 1) e))

-- the setting of n conditions that gives those of `on` the bits of j, and the one after it
spread_laid : (n on j : ℕ) → spread n (chosen n on) j ≡ laid n on j
unfolding spread chosen
spread_laid n on j = spread_from n 0 on j ∙ rw div-one

pub spread_next : (n on j : ℕ) → on < 2 ^ n → bit_and (spread n (chosen n on) j + (2 ^ n - on)) on ≡ spread n (chosen n on) (j + 1)
spread_next n on j h = rw (spread_laid n on j) (next n on j h) ∙ sym (spread_laid n on (j + 1))

-- the first of them gives every condition 0
laid_none : (n on : ℕ) → laid n on 0 ≡ 0
laid_none zero on = unfold laid in refl
laid_none (suc n) on =
    split (odd on) (λ e. laid_yes n on 0 e ∙ ap (λ (x : ℕ). 0 + 2 * x) (laid_none n (on / 2))) (λ e. laid_no n on 0 e ∙ ap (λ (x : ℕ). 2 * x) (laid_none n (on / 2)))

pub spread_none : (n on : ℕ) → spread n (chosen n on) 0 ≡ 0
spread_none n on = spread_laid n on 0 ∙ laid_none n on
