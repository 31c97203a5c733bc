-- What holds groups up: none of those passed by is ready, also after a group is struck, up to the lowest that it held up.
use Prim.Native.Nat.{ℕ, zero, suc, ◌+◌, ◌-◌, ◌*◌, ◌/◌, ◌%◌, ◌≤◌, ◌<◌}
use Rattle.std.specs.Prelude.{◌≡◌, refl, Bool, false, ◌&&◌, List, ◌⊎◌, ltb, length, get_or, set}
use Rattle.std.proofs.Common.{sym, ap, ap₂, ◌∙◌, inl, inr, length-set, get_or-set_same, get_or-set_other, eq-eqb, ne_eqb, eqb-true, ltb-true, ltb-false, lt-ltb, le-ltb}
use Rattle.std.proofs.Math.Bool.{true, true≢false}
use Rattle.std.proofs.lemmas.Bool.{false≢true}
use Rattle.std.proofs.Math.Nat.{zero-add}
use native.Mathlib.Omega.{arith}
use Rattle.std.specs.Int.Bits.{bit_and}
use Rattle.base.specs.TestLaws.{split, same?}
use Rattle.base.specs.Bits.{bit}
use Rattle.base.specs.Sets.{excludes}
use Rattle.base.specs.BitLaws.{bit_and_lem, bit_none}
use Rattle.base.specs.BitWords.{bit_in, strike_bit}
use Rattle.plan_order.specs.Search.{free_from, ready_in, search_from, next_ready, lowered, HeldUp, Holding}
use Rattle.base.specs.BitWordLaws.{bit_at, at_word, strike_bit_lem}

both_true : (a b : Bool) → (a && b) ≡ true → (a ≡ true) × (b ≡ true)
both_true true true e = (refl, refl)
both_true true false e = absurd (false≢true e)
both_true false b e = absurd (false≢true e)

-- nothing is passed by yet
pub holding_start : (waits left watch : List ℕ) → length watch ≡ 256 → Holding waits left watch 0
holding_start waits left watch e = record { size = e; passed = λ q l m. absurd (omega arith) }

-- a note at g: it is p or lower there, and no other place is changed, nor one that is lower
note_here : (g p : ℕ) (watch : List ℕ) → g < length watch → get_or (lowered g p watch) g 0 ≤ p
unfolding lowered
note_here g p watch l =
    split (ltb p (get_or watch g 0)) (λ t. rw (t, get_or-set_same watch g p 0 l) (omega arith)) (λ t. rw t (omega (arith, ltb-false p (get_or watch g 0) t)))

note_else : (g p : ℕ) (watch : List ℕ) → g < length watch → (h q : ℕ) → get_or watch h 0 ≤ q → q < p → get_or (lowered g p watch) h 0 ≤ q
unfolding lowered
note_else g p watch l h q k m =
    split (ltb p (get_or watch g 0))
    (λ t. rw t (go t (same? h g)))
    (λ t. rw t k)
  where
    go : ltb p (get_or watch g 0) ≡ true → (h ≡ g) ⊎ (h ≡ g → ⊥) → get_or (set watch g p) h 0 ≤ q
    go t (inl e) = absurd (omega (arith, ltb-true p (get_or watch g 0) t, ap (λ (x : ℕ). get_or watch x 0) e))
    go t (inr e) = rw (get_or-set_other watch g h p 0 e) k

note_size : (g p : ℕ) (watch : List ℕ) → length (lowered g p watch) ≡ length watch
unfolding lowered
note_size g p watch = split (ltb p (get_or watch g 0)) (λ t. rw t (length-set watch g p)) (λ t. rw t)

pub lowered_yes : (g p : ℕ) (watch : List ℕ) → p < get_or watch g 0 → set watch g p ≡ lowered g p watch
unfolding lowered
lowered_yes g p watch h = rw (lt-ltb p (get_or watch g 0) h)

pub lowered_no : (g p : ℕ) (watch : List ℕ) → get_or watch g 0 ≤ p → watch ≡ lowered g p watch
unfolding lowered
lowered_no g p watch h = rw (le-ltb p (get_or watch g 0) h)

-- the same notes, but perhaps at p
pub record SameElse (p : ℕ) (watch fresh : List ℕ) : Type 0 where
  pub size : length fresh ≡ length watch
  pub others : (a : ℕ) → (a ≡ p → ⊥) → get_or fresh a 0 ≡ get_or watch a 0

pub same_all : (p : ℕ) (watch : List ℕ) → SameElse p watch watch
same_all p watch = record { size = refl; others = λ a f. refl }

pub same_else : (p v : ℕ) (watch fresh : List ℕ) → fresh ≡ set watch p v → SameElse p watch fresh
same_else p v watch fresh e = record { size = rw e (length-set watch p v); others = λ a f. rw e (get_or-set_other watch p a v 0 f) }

module _ (waits left watch : List ℕ) (p : ℕ) (s : Holding waits left watch p) where
  -- a gate that names no group left
  pub holding_pass : bit_in 0 left p ≡ false → Holding waits left watch (p + 1)
  holding_pass e = record { size = s.size; passed = λ q l m. go q l m (same? q p) }
    where
      go : (q : ℕ) → q < p + 1 → bit_in 0 left q ≡ true → (q ≡ p) ⊎ (q ≡ p → ⊥) → HeldUp waits left watch q
      go q l m (inl f) = absurd (true≢false (sym m ∙ ap (bit_in 0 left) f ∙ e))
      go q l m (inr f) = s.passed q (omega arith) m

  -- a group that waits for group 64 * w + j
  pub holding_more : (w j : ℕ) → w < 4 → j < 64 → bit (bit_and (get_or waits (4 * p + w) 0) (get_or left w 0)) j ≡ true
      → Holding waits left (lowered (64 * w + j) p watch) (p + 1)
  holding_more w j l k x = record { size = note_size (64 * w + j) p watch ∙ s.size; passed = λ q i m. go q i m (same? q p) }
    where
      room : 64 * w + j < length watch
      room = rw s.size (omega arith)

      each : (bit (get_or waits (4 * p + w) 0) j ≡ true) × (bit (get_or left w 0) j ≡ true)
      each = both_true (bit (get_or waits (4 * p + w) 0) j) (bit (get_or left w 0) j) (sym (bit_and_lem (get_or waits (4 * p + w) 0) (get_or left w 0) j) ∙ x)

      go : (q : ℕ) → q < p + 1 → bit_in 0 left q ≡ true → (q ≡ p) ⊎ (q ≡ p → ⊥) → HeldUp waits left (lowered (64 * w + j) p watch) q
      go q i m (inl f) =
          rw f (64 * w + j, omega arith, at_word (4 * p) waits w j k ∙ each.0, at_word 0 left w j k ∙ rw zero-add each.1, note_here (64 * w + j) p watch room)
      go q i m (inr f) =
          let r = s.passed q (omega arith) m in (r.0, r.1, r.2, r.3, note_else (64 * w + j) p watch room r.0 q r.4 (omega arith))

  -- two words with a group in common
  common : (q g : ℕ) → g < 256 → bit_in (4 * q) waits g ≡ true → bit_in 0 left g ≡ true → excludes (get_or waits (4 * q + g / 64) 0) (get_or left (g / 64) 0) ≡ false
  common q g l a b =
      let u : bit (get_or left (g / 64) 0) (g % 64) ≡ true = rw zero-add at (sym (bit_at 0 left g) ∙ b) in
      split (excludes (get_or waits (4 * q + g / 64) 0) (get_or left (g / 64) 0))
      (λ t. absurd (false≢true (sym (bit_none (g % 64)) ∙ ap (λ (x : ℕ). bit x (g % 64)) (sym (eqb-true (bit_and (get_or waits (4 * q + g / 64) 0) (get_or left (g / 64) 0)) 0 t))
      ∙ bit_and_lem (get_or waits (4 * q + g / 64) 0) (get_or left (g / 64) 0) (g % 64) ∙ ap₂ ◌&&◌ (sym (bit_at (4 * q) waits g) ∙ a) u)))
      (λ t. t)

  -- a group that is held up is not free
  held_free : (q v k w : ℕ) → v ≤ w → w < v + k → excludes (get_or waits (4 * q + w) 0) (get_or left w 0) ≡ false → free_from waits left q v k ≡ false
  unfolding free_from
  held_free q v zero w a b x = absurd (omega arith)
  held_free q v (suc k) w a b x =
      split (excludes (get_or waits (4 * q + v) 0) (get_or left v 0))
      (λ t. rw t (held_free q (v + 1) k w (omega (arith, other t)) (omega arith) x))
      (λ t. rw t)
    where
      other : excludes (get_or waits (4 * q + v) 0) (get_or left v 0) ≡ true → w ≡ v → ⊥
      other t f = true≢false (sym (rw f t) ∙ x)

  unready : (q : ℕ) → q < p → ready_in waits left q ≡ false
  unfolding ready_in
  unready q l =
      split (bit_in 0 left q)
      (λ t. rw t (let r = s.passed q l t in held_free q 0 4 (r.0 / 64) (omega arith) (omega (arith, r.1)) (common q r.0 r.1 r.2 r.3)))
      (λ t. rw t)

  -- so the search may begin at p
  pub holding_search : (n : ℕ) → p ≤ n → next_ready waits left 0 n ≡ next_ready waits left p n
  unfolding next_ready search_from
  holding_search n h = let z : n - 0 ≡ p + (n - p) = omega arith in rw z (skip p 0 (rw zero-add (omega arith)) ∙ rw zero-add)
    where
      skip : (a i : ℕ) → i + a ≤ p → search_from waits left i (a + (n - p)) ≡ search_from waits left (i + a) (n - p)
      skip zero i k = let e : i + 0 ≡ i = omega arith in rw (zero-add, e)
      skip (suc a) i k =
          let e : suc a + (n - p) ≡ suc (a + (n - p)) = omega arith in
          let f : i + suc a ≡ (i + 1) + a = omega arith in
          rw (e, f, unready i (omega arith)) (skip a (i + 1) (omega arith))

-- p is struck: what was held up by others stays so, and p itself is not left; what is noted at p may be another number then
pub holding_struck : (waits left new watch fresh : List ℕ) (p next : ℕ) → length left ≡ 4 → p < 256 → bit_in 0 left p ≡ true
    → Holding waits left watch p → next ≤ get_or watch p 0 → next ≤ p + 1 → new ≡ strike_bit p left → SameElse p watch fresh → Holding waits new fresh next
holding_struck waits left new watch fresh p next z l b s x y e w = record { size = w.size ∙ s.size; passed = passed }
  where
    struck : (a : ℕ) → a < 256 → (a ≡ p → ⊥) → bit_in 0 new a ≡ bit_in 0 left a
    struck a k f = ap (λ (d : List ℕ). bit_in 0 d a) e ∙ strike_bit_lem left z p l b a k ∙ rw (ne_eqb a p f)

    none : bit_in 0 new p ≡ true → ⊥
    none g = true≢false (sym g ∙ ap (λ (d : List ℕ). bit_in 0 d p) e ∙ strike_bit_lem left z p l b p l ∙ rw (eq-eqb p p refl))

    still : (q : ℕ) → q < next → HeldUp waits left watch q → HeldUp waits new fresh q
    still q i r =
        let o : r.0 ≡ p → ⊥ = λ f. omega (arith, ap (λ (a : ℕ). get_or watch a 0) f, r.4) in
        (r.0, r.1, r.2, struck r.0 r.1 o ∙ r.3, rw (w.others r.0 o) r.4)

    passed : (q : ℕ) → q < next → bit_in 0 new q ≡ true → HeldUp waits new fresh q
    passed q i m = go (same? q p)
      where
        go : (q ≡ p) ⊎ (q ≡ p → ⊥) → HeldUp waits new fresh q
        go (inl f) = absurd (none (rw f at m))
        go (inr f) = still q i (s.passed q (omega arith) (sym (struck q (omega arith) f) ∙ m))
