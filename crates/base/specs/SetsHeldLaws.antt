-- Sets of settings as code holds them, in four words or in lent ones: what is stored is read, other sets stay, clear words are empty sets, and the sets fix the words.
use Rattle.std.specs.Prelude.{◌≡◌, refl, List, [], ◌∷◌, ◌++◌, map, ◌⊎◌, ℕ, suc, ◌+◌, ◌*◌, ◌/◌, ◌%◌, ◌^◌, ◌≤◌, ◌<◌, length, get_or, take, drop, set, replicate}
use Rattle.std.proofs.Math.Path.{sym, ap}
use Rattle.std.proofs.Common.{◌∙◌, append_assoc, inl, inr, arith, length-set, length-drop, ext_get_or, get_or-take, get_or-drop, get_or-set_same, get_or-set_other, length-take-le, take_all}
use Rattle.std.proofs.Common.{take_at, drop_at}
use Rattle.std.proofs.lemmas.List.{length-map, length-replicate}
use Rattle.std.proofs.lemmas.List.Edits.{sets, sets-eq}
use Rattle.std.proofs.Math.Seq.{length-sets}
use Rattle.base.specs.Lists.{upto}
use Rattle.base.specs.ListLaws.{length_from, get_or_upto, get_or_zeros, map_same}
use Rattle.base.specs.MemberLaws.{from_below}
use Rattle.base.specs.TestLaws.{same?}
use Rattle.base.specs.BitWords.{joined, Fit}
use Rattle.base.specs.BitJoinedLaws.{fit_none, fit_cons, fit_map, joined_below, joined_once}
use Rattle.base.specs.SetLimits.{set_settings, set_words}
use Rattle.base.specs.SetsHeld.{words_of, set_of, set_at, sets_in}
use Rattle.base.specs.declared.Set.{Set}

-- the words of a set in hand are words, and it is a set of so many settings
pub words_fit : (s : Set) → s.w0 < 2 ^ 64 → s.w1 < 2 ^ 64 → s.w2 < 2 ^ 64 → s.w3 < 2 ^ 64 → Fit (words_of s)
words_fit s h0 h1 h2 h3 =
    fit_cons s.w0 (s.w1 ∷ s.w2 ∷ s.w3 ∷ []) h0
    (fit_cons s.w1 (s.w2 ∷ s.w3 ∷ []) h1 (fit_cons s.w2 (s.w3 ∷ []) h2 (fit_cons s.w3 [] h3 fit_none)))

pub set_below : (s : Set) → Fit (words_of s) → set_of s < 2 ^ set_settings
unfolding set_of
set_below s h = joined_below (words_of s) h

-- n words from a place on, one by one
pub words_from : (n at : ℕ) (l : List ℕ) → at + n ≤ length l → take n (drop at l) ≡ map (λ k. get_or l (at + k) 0) (upto n)
words_from n at l h =
    ext_get_or 0 _ _ (long ∙ sym (length-map (upto n) (λ k. get_or l (at + k) 0) ∙ length_from 0 n))
    (λ i m.
    let b : i < n = rw long at m in
    get_or-take n (drop at l) i 0 b ∙ get_or-drop at l i 0 ∙ sym (get_or_upto (λ k. get_or l (at + k) 0) 0 n i b))
  where
    long : length (take n (drop at l)) ≡ n
    long = length-take-le n (drop at l) (rw (length-drop at l) (omega arith))

-- stores from a place on leave all other places
stores_other : (vs l : List ℕ) (i j : ℕ) → ((m : ℕ) → m < length vs → j ≡ i + m → ⊥) → get_or (sets l i vs) j 0 ≡ get_or l j 0
stores_other [] l i j f = refl
stores_other (a ∷ vs) l i j f =
    stores_other vs (set l i a) (suc i) j (λ m h e. f (suc m) (omega arith) (omega arith))
    ∙ get_or-set_other l i j a 0 (λ e. f 0 (omega arith) (omega arith))

-- how many sets lie in lent words, and which
pub sets_length : (words : List ℕ) → length (sets_in words) ≡ length words / set_words
unfolding sets_in
sets_length words = length-map (upto (length words / set_words)) (set_at set_words words) ∙ length_from 0 (length words / set_words)

module _ (words : List ℕ) (i : ℕ) (h : set_words * i + set_words ≤ length words) where
  pub sets_at : get_or (sets_in words) i 0 ≡ set_at set_words words i
  unfolding sets_in
  sets_at = get_or_upto (set_at set_words words) 0 (length words / set_words) i (omega arith)

  -- word by word
  pub sets_words : get_or (sets_in words) i 0 ≡ joined (map (λ k. get_or words (set_words * i + k) 0) (upto set_words))
  unfolding set_at
  sets_words = sets_at ∙ ap joined (words_from set_words (set_words * i) words h)

-- one set alone
pub sets_one : (words : List ℕ) → length words ≡ set_words → get_or (sets_in words) 0 0 ≡ joined words
unfolding set_at
sets_one words e = sets_at words 0 (omega arith) ∙ ap joined (take_all set_words words (omega arith))

-- set i stored word by word: its words are those stored, the others stay
stored : (words vs : List ℕ) (i : ℕ) → set_words * i + set_words ≤ length words → length vs ≡ set_words
    → set_at set_words (sets words (set_words * i) vs) i ≡ joined vs
unfolding set_at
stored words vs i h e =
    let at : ℕ = set_words * i in
    let rest : List ℕ = drop (at + length vs) words in
    let q : sets words at vs ≡ take at words ++ (vs ++ rest) = sets-eq vs words at (omega arith) ∙ append_assoc (take at words) vs rest in
    let d : drop at (sets words at vs) ≡ vs ++ rest = ap (drop at) q ∙ drop_at (take at words) (vs ++ rest) at (length-take-le at words (omega arith)) in
    ap joined (ap (take set_words) d ∙ take_at vs rest set_words e)

pub sets_store : (words vs : List ℕ) (i : ℕ) → set_words * i + set_words ≤ length words → length vs ≡ set_words
    → sets_in (sets words (set_words * i) vs) ≡ set (sets_in words) i (joined vs)
sets_store words vs i h e =
    ext_get_or 0 _ _
    (sets_length (sets words at vs) ∙ ap (λ (k : ℕ). k / set_words) (length-sets words at vs)
    ∙ sym (length-set (sets_in words) i (joined vs) ∙ sets_length words))
    (λ k m. go k (rw (sets_length (sets words at vs), length-sets words at vs) at m) (same? k i))
  where
    at : ℕ
    at = set_words * i

    go : (k : ℕ) → k < length words / set_words → (k ≡ i) ⊎ (k ≡ i → ⊥)
        → get_or (sets_in (sets words at vs)) k 0 ≡ get_or (set (sets_in words) i (joined vs)) k 0
    go k m (inl p) =
        rw p
        (sets_at (sets words at vs) i (rw (length-sets words at vs) h) ∙ stored words vs i h e
        ∙ sym (get_or-set_same (sets_in words) i (joined vs) 0 (rw (sets_length words) (omega arith))))
    go k m (inr f) =
        sets_words (sets words at vs) k (rw (length-sets words at vs) (omega arith))
        ∙ ap joined (map_same _ _ (upto set_words)
        (λ a b. let r = from_below 0 set_words a b in stores_other vs words at (set_words * k + a) (λ y z q. f (omega arith))))
        ∙ sym (get_or-set_other (sets_in words) i k (joined vs) 0 f ∙ sets_words words k (omega arith))

-- clear words hold empty sets
pub sets_clear : (n : ℕ) → sets_in (replicate (set_words * n) 0) ≡ replicate n 0
sets_clear n = ext_get_or 0 _ _ (long ∙ sym (length-replicate n 0)) (λ k m. each k (rw long at m))
  where
    none : List ℕ
    none = replicate (set_words * n) 0

    words : length none ≡ set_words * n
    words = length-replicate (set_words * n) 0

    long : length (sets_in none) ≡ n
    long = sets_length none ∙ omega (arith, words)

    each : (k : ℕ) → k < n → get_or (sets_in none) k 0 ≡ get_or (replicate n 0) k 0
    each k m =
        sets_words none k (omega (arith, words))
        ∙ ap joined (map_same _ (λ a. 0) (upto set_words) (λ a b. get_or_zeros (set_words * n) (set_words * k + a)))
        ∙ (unfold joined in sym (get_or_zeros n k))

-- lent words are known by their sets: a promise of the sets leaves one possible array
pub sets_once : (a b : List ℕ) (n : ℕ) → length a ≡ set_words * n → length b ≡ set_words * n → Fit a → Fit b → sets_in a ≡ sets_in b → a ≡ b
sets_once a b n la lb fa fb e =
    ext_get_or 0 a b (la ∙ sym lb)
    (λ i l.
    let j : ℕ = i / set_words in
    let r : ℕ = i % set_words in
    let room : set_words * j + set_words ≤ set_words * n = omega (arith, l, la) in
    let word : List ℕ → ℕ → ℕ = λ w k. get_or w (set_words * j + k) 0 in
    let same : map (word a) (upto set_words) ≡ map (word b) (upto set_words) =
    joined_once (map (word a) (upto set_words)) (map (word b) (upto set_words)) (length-map (upto set_words) (word a) ∙ sym (length-map (upto set_words) (word b)))
    (fit_map (word a) (upto set_words) (λ k. fa (set_words * j + k))) (fit_map (word b) (upto set_words) (λ k. fb (set_words * j + k)))
    (sym (sets_words a j (omega (arith, room, la))) ∙ ap (λ (w : List ℕ). get_or w j 0) e ∙ sets_words b j (omega (arith, room, lb))) in
    let place : i ≡ set_words * j + r = omega arith in
    let at : (w : List ℕ) → get_or w i 0 ≡ get_or (map (word w) (upto set_words)) r 0 =
    λ w. ap (λ (k : ℕ). get_or w k 0) place ∙ sym (get_or_upto (word w) 0 set_words r (omega arith)) in
    at a ∙ ap (λ (w : List ℕ). get_or w r 0) same ∙ sym (at b))
