-- Lists: mapped ones, the members that pass a test, runs of numbers, places inside a list, the rest from a place on, each element by element.
use Rattle.std.specs.Prelude.{◌≡◌, refl, Bool, true, false, cond, List, [], ◌∷◌, ◌++◌, map, ◌⊎◌, ℕ, zero, suc, ◌+◌, ◌-◌, ◌≤◌, ◌<◌, length, get_or, take, drop, replicate}
use Rattle.std.proofs.Common.{sym, ap, ◌∙◌, append-nil, inl, inr, zero-add, add-zero, add-one, arith, drop-cons}
use Rattle.base.specs.Lists.{◌∈◌, keep, from, upto}
use Rattle.base.specs.TestLaws.{split}

-- one more
pub keep_more : (p : ℕ → Bool) (l : List ℕ) (a : ℕ) → keep p (l ++ (a ∷ [])) ≡ keep p l ++ cond (p a) (a ∷ []) []
keep_more p [] a = refl
keep_more p (b ∷ l) a = split (p b) (λ t. rw t (ap (λ (r : List ℕ). b ∷ r) (keep_more p l a))) (λ t. rw t (keep_more p l a))

-- two tests that are the same on a list keep the same members
pub keep_same : (p q : ℕ → Bool) (l : List ℕ) → ((a : ℕ) → a ∈ l → p a ≡ q a) → keep p l ≡ keep q l
keep_same p q [] h = refl
keep_same p q (a ∷ l) h = rw (h a (inl refl), keep_same p q l (λ b m. h b (inr m)))

-- it has n members, the one at place k is i + k, and one more is i + n
pub length_from : (i n : ℕ) → length (from i n) ≡ n
length_from i zero = refl
length_from i (suc n) = ap suc (length_from (suc i) n)

pub get_or_from : (i n k : ℕ) → k < n → get_or (from i n) k 0 ≡ i + k
get_or_from i zero k h = absurd (omega arith)
get_or_from i (suc n) zero h = sym (add-zero i)
get_or_from i (suc n) (suc k) h = get_or_from (suc i) n k (omega arith) ∙ omega arith

pub from_more : (i n : ℕ) → from i (suc n) ≡ from i n ++ ((i + n) ∷ [])
from_more i zero = ap (λ (k : ℕ). k ∷ []) (sym (add-zero i))
from_more i (suc n) = ap (λ (l : List ℕ). i ∷ l) (from_more (suc i) n ∙ ap (λ (k : ℕ). from (suc i) n ++ (k ∷ [])) (omega arith))

-- of the run from 0
pub upto_more : (n : ℕ) → upto (suc n) ≡ upto n ++ (n ∷ [])
upto_more n = from_more 0 n ∙ ap (λ (k : ℕ). upto n ++ (k ∷ [])) (zero-add n)

-- one number more of a run, kept or not
kept_next : (p : ℕ → Bool) (n : ℕ) → keep p (upto (n + 1)) ≡ keep p (upto n) ++ cond (p n) (n ∷ []) []
kept_next p n =
    let e : n + 1 ≡ suc n = omega arith in
    rw e (ap (keep p) (upto_more n) ∙ keep_more p (upto n) n)

pub keep_yes : (p : ℕ → Bool) (n : ℕ) → p n ≡ true → keep p (upto (n + 1)) ≡ keep p (upto n) ++ (n ∷ [])
keep_yes p n h = kept_next p n ∙ rw h

pub keep_no : (p : ℕ → Bool) (n : ℕ) → p n ≡ false → keep p (upto (n + 1)) ≡ keep p (upto n)
keep_no p n h = kept_next p n ∙ rw h (append-nil (keep p (upto n)))

-- two functions that are the same on a list map it to the same list
pub map_same : {A : Type 0} (v w : ℕ → A) (l : List ℕ) → ((a : ℕ) → a ∈ l → v a ≡ w a) → map v l ≡ map w l
map_same v w [] h = refl
map_same v w (a ∷ l) h = cc (h a (inl refl), map_same v w l (λ b m. h b (inr m)))

-- the element at a place of a mapped run of numbers
pub get_or_run : {A : Type 0} (f : ℕ → A) (d : A) (i n g : ℕ) → g < n → get_or (map f (from i n)) g d ≡ f (i + g)
get_or_run f d i zero g h = absurd (omega arith)
get_or_run f d i (suc n) zero h = ap f (sym (add-zero i))
get_or_run f d i (suc n) (suc g) h = get_or_run f d (suc i) n g (omega arith) ∙ ap f (omega arith)

pub get_or_upto : {A : Type 0} (f : ℕ → A) (d : A) (n g : ℕ) → g < n → get_or (map f (upto n)) g d ≡ f g
get_or_upto f d n g h = get_or_run f d 0 n g h ∙ ap f (zero-add g)

pub get_or_zeros : (n g : ℕ) → ◌≡◌ {A = ℕ} (get_or (replicate n 0) g 0) 0
get_or_zeros zero g = refl
get_or_zeros (suc n) zero = refl
get_or_zeros (suc n) (suc g) = get_or_zeros n g

-- those that pass a test are no more than all
pub length_keep : (p : ℕ → Bool) (l : List ℕ) → length (keep p l) ≤ length l
length_keep p [] = omega arith
length_keep p (a ∷ l) = split (p a) (λ e. rw e (omega (arith, length_keep p l))) (λ e. rw e (omega (arith, length_keep p l)))

-- a place is in a list or past its end
pub inside_list : {S : Type 0} (M : List S) (a : ℕ) → (a < length M) ⊎ (length M ≤ a)
inside_list [] a = inr (omega arith)
inside_list (s ∷ M) zero = inl (omega arith)
inside_list (s ∷ M) (suc a) = go (inside_list M a)
  where
    go : (a < length M) ⊎ (length M ≤ a) → (suc a < suc (length M)) ⊎ (suc (length M) ≤ suc a)
    go (inl h) = inl (omega arith)
    go (inr h) = inr (omega arith)

-- the part of a list up to v, as code that lends it writes it
pub front : (v : ℕ) (l : List ℕ) → take (v - 0) (drop 0 l) ≡ take v l
front v l = let n : v - 0 ≡ v = omega arith in ap (λ (k : ℕ). take k l) n

-- one element from a place on, or two, then the rest
pub drop_one : (s : List ℕ) (at x : ℕ) → at < length s → get_or s at 0 ≡ x → drop at s ≡ x ∷ drop (at + 1) s
drop_one s at x h e = rw (drop-cons s at 0 h, e, add-one at)

pub drop_two : (s : List ℕ) (at x : ℕ) → at + 1 < length s → get_or s at 0 ≡ x → drop at s ≡ x ∷ (get_or s (at + 1) 0 ∷ drop (at + 2) s)
drop_two s at x h e =
    let q : at + 1 + 1 ≡ at + 2 = omega arith in
    drop_one s at x (omega arith) e
    ∙ ap (λ (l : List ℕ). x ∷ l) (drop_one s (at + 1) (get_or s (at + 1) 0) h refl ∙ ap (λ (k : ℕ). get_or s (at + 1) 0 ∷ drop k s) q)
