-- Sets of numbers held as bits of words: what a put and a strike change, and that all else stays.
use Rattle.std.specs.Prelude.{ℕ, zero, suc, ◌+◌, ◌*◌, ◌/◌, ◌%◌, ◌^◌, ◌≤◌, ◌<◌, ◌≡◌, refl, Bool, true, false, cond, ◌||◌, List, [], ◌∷◌, ◌++◌, ◌⊎◌, eqb, length, get_or, set, replicate}
use Rattle.std.proofs.Common.{sym, ap₂, ◌∙◌, inl, inr, zero-add, arith, length-set, get_or-set_same, get_or-set_other, eq-eqb, ne_eqb}
use Rattle.std.proofs.Math.Path.{ap}
use Rattle.std.proofs.Math.Bool.{or-true, or-false}
use Rattle.std.proofs.Math.Pow.{pow-lt}
use Rattle.std.proofs.lemmas.List.{length-replicate}
use Rattle.std.proofs.Math.Seq.{set_out}
use Rattle.base.specs.Lists.{◌∈◌, elem}
use Rattle.base.specs.TestLaws.{split, same?}
use Rattle.base.specs.ListLaws.{get_or_zeros, inside_list}
use Rattle.std.specs.Int.Bits.{bit_or}
use Rattle.std.proofs.lemmas.Nat.{or_lt}
use Rattle.base.specs.Bits.{bit, unlike, flip_bit}
use Rattle.base.specs.BitLaws.{bit_zero, bit_suc, bit_pow, bit_none, bit_or_lem, bit_xor_lem}
use Rattle.base.specs.BitFlipLaws.{flip_below}
use Rattle.base.specs.BitWords.{bit_in, put_bit, put_each, strike_bit, HasWords}

-- a number's bit by its word and place
pub bit_at : (base : ℕ) (w : List ℕ) (q : ℕ) → bit_in base w q ≡ bit (get_or w (base + q / 64) 0) (q % 64)
unfolding bit_in
bit_at base w q = refl

pub at_word : (base : ℕ) (w : List ℕ) (i j : ℕ) → j < 64 → bit_in base w (64 * i + j) ≡ bit (get_or w (base + i) 0) j
at_word base w i j k =
    let a : (64 * i + j) / 64 ≡ i = omega arith in
    let c : (64 * i + j) % 64 ≡ j = omega arith in
    bit_at base w (64 * i + j) ∙ rw (a, c)

-- a power of two has no other bit
bit_pow_other : (t j : ℕ) → (j ≡ t → ⊥) → bit (2 ^ t) j ≡ false
bit_pow_other zero zero n = absurd (n refl)
bit_pow_other zero (suc j) n = bit_suc 1 j ∙ bit_none j
bit_pow_other (suc t) zero n = bit_zero (2 ^ suc t) ∙ ne_eqb (2 ^ suc t % 2) 1 (omega arith)
bit_pow_other (suc t) (suc j) n =
    let h : 2 ^ suc t / 2 ≡ 2 ^ t = omega arith in
    bit_suc (2 ^ suc t) j ∙ ap (λ (x : ℕ). bit x j) h ∙ bit_pow_other t j (λ e. n (ap suc e))

-- a clear table
pub clear_words : (n : ℕ) (w : List ℕ) → w ≡ replicate n 0 → HasWords n w
clear_words n w e =
    record {
      size = ap length e ∙ length-replicate n 0;
      fits = λ i. let z : get_or w i 0 ≡ 0 = ap (λ (l : List ℕ). get_or l i 0) e ∙ get_or_zeros n i in omega (arith, z, pow-lt {i = 0} {j = 64} (omega arith));
    }

pub clear_bit : (n base q : ℕ) (w : List ℕ) → w ≡ replicate n 0 → bit_in base w q ≡ false
unfolding bit_in
clear_bit n base q w e = ap (λ (l : List ℕ). bit (get_or l (base + q / 64) 0) (q % 64)) e ∙ ap (λ (x : ℕ). bit x (q % 64)) (get_or_zeros n (base + q / 64)) ∙ bit_none
    (q % 64)

-- a store of a number of 64 bits
set_words_lem : (n i x : ℕ) (w : List ℕ) → HasWords n w → x < 2 ^ 64 → HasWords n (set w i x)
set_words_lem n i x w h l = record { size = length-set w i x ∙ h.size; fits = λ j. go j (same? j i) (inside_list w i) }
  where
    go : (j : ℕ) → (j ≡ i) ⊎ (j ≡ i → ⊥) → (i < length w) ⊎ (length w ≤ i) → get_or (set w i x) j 0 < 2 ^ 64
    go j (inr m) d = rw (get_or-set_other w i j x 0 m) (h.fits j)
    go j (inl e) (inl k) = rw (e, get_or-set_same w i x 0 k) l
    go j (inl e) (inr k) = rw (set_out w i x k) (h.fits j)

pub put_words : (n base q : ℕ) (w : List ℕ) → HasWords n w → HasWords n (put_bit base q w)
unfolding put_bit
put_words n base q w h =
    set_words_lem n (base + q / 64) (bit_or (get_or w (base + q / 64) 0) (2 ^ (q % 64))) w h
    (or_lt 64 (get_or w (base + q / 64) 0) (2 ^ (q % 64)) (h.fits (base + q / 64)) (pow-lt {i = q % 64} {j = 64} (omega arith)))

pub strike_words : (n q : ℕ) (w : List ℕ) → HasWords n w → HasWords n (strike_bit q w)
unfolding strike_bit
strike_words n q w h =
    set_words_lem n (q / 64) (flip_bit (q % 64) (get_or w (q / 64) 0)) w h (flip_below (q % 64) 64 (get_or w (q / 64) 0) (omega arith) (h.fits (q / 64)))

-- the words of two sets are apart, and so are the words of one
apart : (p p' q q' : ℕ) → q < 256 → q' < 256 → 4 * p' + q' / 64 ≡ 4 * p + q / 64 → (p' ≡ p) × (q' / 64 ≡ q / 64)
apart p p' q q' h h' e = (omega arith, omega arith)

-- what a store in number q's word does to q's bit and to the others
module _ (n p : ℕ) (w : List ℕ) (size : length w ≡ n) (room : 4 * p + 4 ≤ n) (q : ℕ) (l : q < 256) (x : ℕ) where
  stored_other : (p' q' : ℕ) → q' < 256 → (p' ≡ p → q' / 64 ≡ q / 64 → ⊥) → bit_in (4 * p') (set w (4 * p + q / 64) x) q' ≡ bit_in (4 * p') w q'
  unfolding bit_in
  stored_other p' q' l' f =
      ap (λ (y : ℕ). bit y (q' % 64))
      (get_or-set_other w (4 * p + q / 64) (4 * p' + q' / 64) x 0 (λ e. let r = apart p p' q q' l l' e in f r.0 r.1))

  stored_same : (q' : ℕ) → q' / 64 ≡ q / 64 → bit_in (4 * p) (set w (4 * p + q / 64) x) q' ≡ bit x (q' % 64)
  unfolding bit_in
  stored_same q' e = rw e (ap (λ (y : ℕ). bit y (q' % 64)) (get_or-set_same w (4 * p + q / 64) x 0 (rw size (omega arith))))

same_place : (q q' : ℕ) → q' / 64 ≡ q / 64 → q' % 64 ≡ q % 64 → q' ≡ q
same_place q q' e f = omega arith

-- a put puts one number in one set
pub put_bit_lem : (n p : ℕ) (w : List ℕ) → length w ≡ n → 4 * p + 4 ≤ n → (q : ℕ) → q < 256 → (p' q' : ℕ) → q' < 256
    → bit_in (4 * p') (put_bit (4 * p) q w) q' ≡ cond (eqb p' p) (cond (eqb q' q) true (bit_in (4 * p') w q')) (bit_in (4 * p') w q')
unfolding put_bit
put_bit_lem n p w size room q l p' q' l' = go (same? p' p) (same? (q' / 64) (q / 64)) (same? q' q)
  where
    old : ℕ
    old = get_or w (4 * p + q / 64) 0

    was : q' / 64 ≡ q / 64 → bit_in (4 * p) w q' ≡ bit old (q' % 64)
    was f = unfold bit_in in rw f

    both : q' / 64 ≡ q / 64 → bit_in (4 * p) (set w (4 * p + q / 64) (bit_or old (2 ^ (q % 64)))) q' ≡ (bit old (q' % 64) || bit (2 ^ (q % 64)) (q' % 64))
    both f = stored_same n p w size room q l (bit_or old (2 ^ (q % 64))) q' f ∙ bit_or_lem old (2 ^ (q % 64)) (q' % 64)

    go : (p' ≡ p) ⊎ (p' ≡ p → ⊥) → (q' / 64 ≡ q / 64) ⊎ (q' / 64 ≡ q / 64 → ⊥) → (q' ≡ q) ⊎ (q' ≡ q → ⊥)
        → bit_in (4 * p') (set w (4 * p + q / 64) (bit_or old (2 ^ (q % 64)))) q' ≡ cond (eqb p' p) (cond (eqb q' q) true (bit_in (4 * p') w q')) (bit_in (4 * p') w q')
    go (inr e) f g = rw (ne_eqb p' p e) (stored_other n p w size room q l (bit_or old (2 ^ (q % 64))) p' q' l' (λ a b. e a))
    go (inl e) (inr f) g =
        let d : q' ≡ q → ⊥ = λ z. f (ap (λ (y : ℕ). y / 64) z) in
        rw (eq-eqb p' p e, ne_eqb q' q d) (stored_other n p w size room q l (bit_or old (2 ^ (q % 64))) p' q' l' (λ a b. f b))
    go (inl e) (inl f) (inl g) =
        rw (eq-eqb p' p e, eq-eqb q' q g, e)
        (both f ∙ ap (λ (b : Bool). bit old (q' % 64) || b) (ap (λ (y : ℕ). bit (2 ^ (q % 64)) (y % 64)) g ∙ bit_pow (q % 64)) ∙ or-true (bit old (q' % 64)))
    go (inl e) (inl f) (inr g) =
        rw (eq-eqb p' p e, ne_eqb q' q g, e)
        (both f ∙ ap (λ (b : Bool). bit old (q' % 64) || b) (bit_pow_other (q % 64) (q' % 64) (λ z. g (same_place q q' f z))) ∙ or-false (bit old (q' % 64)) ∙ sym
        (was f))

-- a strike strikes one number
pub strike_bit_lem : (w : List ℕ) → length w ≡ 4 → (q : ℕ) → q < 256 → bit_in 0 w q ≡ true → (q' : ℕ) → q' < 256
    → bit_in 0 (strike_bit q w) q' ≡ cond (eqb q' q) false (bit_in 0 w q')
unfolding strike_bit
strike_bit_lem w size q l h q' l' = go (same? (q' / 64) (q / 64)) (same? q' q)
  where
    old : ℕ
    old = get_or w (q / 64) 0

    i : q / 64 ≡ 4 * 0 + q / 64
    i = omega arith

    was : (y : ℕ) → y / 64 ≡ q / 64 → bit_in 0 w y ≡ bit old (y % 64)
    was y f = unfold bit_in in rw (zero-add, f)

    both : q' / 64 ≡ q / 64 → bit_in (4 * 0) (set w (4 * 0 + q / 64) (flip_bit (q % 64) old)) q' ≡ unlike (bit old (q' % 64)) (bit (2 ^ (q % 64)) (q' % 64))
    both f = stored_same 4 0 w size (omega arith) q l (flip_bit (q % 64) old) q' f ∙ bit_xor_lem old (2 ^ (q % 64)) (q' % 64)

    unlike_false : (b : Bool) → unlike b false ≡ b
    unlike_false true = refl
    unlike_false false = refl

    go : (q' / 64 ≡ q / 64) ⊎ (q' / 64 ≡ q / 64 → ⊥) → (q' ≡ q) ⊎ (q' ≡ q → ⊥)
        → bit_in 0 (set w (q / 64) (flip_bit (q % 64) old)) q' ≡ cond (eqb q' q) false (bit_in 0 w q')
    go (inr f) g =
        let d : q' ≡ q → ⊥ = λ z. f (ap (λ (y : ℕ). y / 64) z) in
        rw (ne_eqb q' q d)
        (ap (λ (j : ℕ). bit_in 0 (set w j (flip_bit (q % 64) old)) q') i ∙ stored_other 4 0 w size (omega arith) q l (flip_bit (q % 64) old) 0 q' l' (λ a b. f b))
    go (inl f) (inl g) =
        rw (eq-eqb q' q g)
        (ap (λ (j : ℕ). bit_in 0 (set w j (flip_bit (q % 64) old)) q') i ∙ both f
        ∙ ap₂ unlike (ap (λ (y : ℕ). bit old (y % 64)) g ∙ sym (was q refl) ∙ h) (ap (λ (y : ℕ). bit (2 ^ (q % 64)) (y % 64)) g ∙ bit_pow (q % 64)))
    go (inl f) (inr g) =
        rw (ne_eqb q' q g)
        (ap (λ (j : ℕ). bit_in 0 (set w j (flip_bit (q % 64) old)) q') i ∙ both f
        ∙ ap (unlike (bit old (q' % 64))) (bit_pow_other (q % 64) (q' % 64) (λ z. g (same_place q q' f z))) ∙ unlike_false (bit old (q' % 64)) ∙ sym (was q' f))

-- many puts in one set
pub puts_words : (n base : ℕ) (l w : List ℕ) → HasWords n w → HasWords n (put_each base l w)
unfolding put_each
puts_words n base [] w h = h
puts_words n base (q ∷ l) w h = puts_words n base l (put_bit base q w) (put_words n base q w h)

pub puts_bit : (n p : ℕ) (l w : List ℕ) → HasWords n w → 4 * p + 4 ≤ n → ((q : ℕ) → q ∈ l → q < 256) → (p' q' : ℕ) → q' < 256
    → bit_in (4 * p') (put_each (4 * p) l w) q' ≡ cond (eqb p' p) (cond (elem q' l) true (bit_in (4 * p') w q')) (bit_in (4 * p') w q')
unfolding put_each
puts_bit n p [] w h room low p' q' l' = split (eqb p' p) (λ t. rw t) (λ t. rw t)
puts_bit n p (q ∷ l) w h room low p' q' l' =
    puts_bit n p l (put_bit (4 * p) q w) (put_words n (4 * p) q w h) room (λ a m. low a (inr m)) p' q' l'
    ∙ rw (put_bit_lem n p w h.size room q (low q (inl refl)) p' q' l')
    (split (eqb p' p)
    (λ t. rw t (split (eqb q' q) (λ u. rw u (split (elem q' l) (λ v. rw v) (λ v. rw v))) (λ u. rw u)))
    (λ t. rw t))

pub puts_append : (base : ℕ) (l m w : List ℕ) → put_each base m (put_each base l w) ≡ put_each base (l ++ m) w
unfolding put_each
puts_append base [] m w = refl
puts_append base (q ∷ l) m w = puts_append base l m (put_bit base q w)

pub puts_more : (base : ℕ) (l w : List ℕ) (q : ℕ) → put_bit base q (put_each base l w) ≡ put_each base (l ++ (q ∷ [])) w
unfolding put_each
puts_more base l w q = puts_append base l (q ∷ []) w
