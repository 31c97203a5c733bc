-- Reading byte by byte: steps of parts make the step of the whole; what was read says that its parts were; reading goes forward.
use Rattle.std.specs.Prelude.{ℕ, ◌+◌, ◌<◌, ◌≤◌, ◌≡◌, refl, length, get_or, drop, eqb, ltb, Bool, true, false}
use Rattle.std.proofs.Common.{arith, add-one, subst, ◌∙◌, drop_of_length-le, drop-cons, eq-eqb, ne_eqb, le-ltb, lt-ltb, eqb-true}
use Rattle.std.proofs.Math.Path.{ap, subst⁻¹}
use mathlib.Core.List.{List, [], ◌∷◌, ◌++◌}
use Rattle.base.specs.Parsing.{Parsed, parsed, refused, step_of, IsRead, unless, ◌>>=◌, read_mark}
use Rattle.base.specs.Parsing.{Step}
use Rattle.base.specs.Parsing.{Past, Refused}

-- Steps: the code knows the step of a part, and wants that of the whole.

-- the first part is past: what follows decides
pub past_then : {A B : Type 0} (m : Parsed A) (f : A → ℕ → Parsed B) {n : ℕ} {r : Step} → Past n ≡ step_of m → ((a : A) → r ≡ step_of (f a n)) → r ≡ step_of (m >>= f)
past_then (parsed a k) f {n} h g = let e : n ≡ k = cc in rw e at (g a)
past_then (refused k p) f h g = let z : ◌≡◌ {A = ℕ} 0 1 = cc in absurd (omega arith)

-- the first part is refused: so is the whole
pub refused_then : {A B : Type 0} (m : Parsed A) (f : A → ℕ → Parsed B) {k p : ℕ} → Refused k p ≡ step_of m → Refused k p ≡ step_of (m >>= f)
refused_then (parsed a n) f h = let z : ◌≡◌ {A = ℕ} 0 1 = cc in absurd (omega arith)
refused_then (refused k p) f h = h

-- only what was read is turned: the step stays
pub then_parsed : {A B : Type 0} (m : Parsed A) (f : A → B) {r : Step} → r ≡ step_of m → r ≡ step_of (m >>= λ a n. parsed (f a) n)
then_parsed (parsed a n) f h = h
then_parsed (refused k p) f h = h

-- a step past a test: the test held
pub past_unless : {A : Type 0} (t : Bool) (k p : ℕ) (m : Parsed A) {n : ℕ} → Past n ≡ step_of (unless t k p m) → (t ≡ true) × (Past n ≡ step_of m)
past_unless true k p m h = (refl, h)
past_unless false k p m h = let z : ◌≡◌ {A = ℕ} 0 1 = cc in absurd (omega arith)

-- a test of what is left, as the code makes it
pub none_left : (n : ℕ) → n ≡ 0 → ltb 0 n ≡ false
none_left n h = le-ltb 0 n (omega arith)

pub some_left : (n : ℕ) → (n ≡ 0 → ⊥) → ltb 0 n ≡ true
some_left n h = lt-ltb 0 n (omega arith)

-- What was read: for a second pass over bytes that reading took.

module _ {A : Type 0} where
  pub is_read : (m : Parsed A) → IsRead m → (a : A) × (n : ℕ) × (m ≡ parsed a n)
  is_read (parsed a n) h = (a, n, refl)
  is_read (refused k p) h = absurd h

  pub read_is : (m : Parsed A) {a : A} {n : ℕ} → m ≡ parsed a n → IsRead m
  read_is m e = subst⁻¹ IsRead e tt

  -- what is read twice is the same
  pub same_what : {a b : A} {n k : ℕ} → parsed a n ≡ parsed b k → a ≡ b
  same_what h = cc

  pub same_next : {a b : A} {n k : ℕ} → parsed a n ≡ parsed b k → n ≡ k
  same_next h = cc

  pub unless_read : (t : Bool) (k p : ℕ) (m : Parsed A) → IsRead (unless t k p m) → (t ≡ true) × IsRead m
  unless_read true k p m h = (refl, h)
  unless_read false k p m h = absurd h

  -- a step past it was read, a refusal was not
  pub past_read : (m : Parsed A) {n : ℕ} → Past n ≡ step_of m → IsRead m
  past_read (parsed a k) h = tt
  past_read (refused k p) h = let z : ◌≡◌ {A = ℕ} 0 1 = cc in absurd (omega arith)

  pub read_past : (m : Parsed A) {n : ℕ} → Past n ≡ step_of m → (a : A) × (m ≡ parsed a n)
  read_past (parsed a k) {n} h = let e : k ≡ n = cc in (a, ap (parsed a) e)
  read_past (refused k p) h = let z : ◌≡◌ {A = ℕ} 0 1 = cc in absurd (omega arith)

  -- a step that is a refusal: so is what was read
  pub read_refused : (m : Parsed A) {k p : ℕ} → Refused k p ≡ step_of m → m ≡ refused k p
  read_refused (parsed a n) h = let z : ◌≡◌ {A = ℕ} 0 1 = cc in absurd (omega arith)
  read_refused (refused k p) h = cc

  pub not_refused : (m : Parsed A) {k p : ℕ} → IsRead m → Refused k p ≡ step_of m → ⊥
  not_refused (parsed a n) h e = let z : ◌≡◌ {A = ℕ} 0 1 = cc in omega arith
  not_refused (refused k p) h e = h

pub first_read : {A B : Type 0} (m : Parsed A) (f : A → ℕ → Parsed B) → IsRead (m >>= f) → IsRead m
first_read (parsed a n) f h = tt
first_read (refused k p) f h = h

pub rest_read : {A B : Type 0} (m : Parsed A) (f : A → ℕ → Parsed B) (a : A) (n : ℕ) → m ≡ parsed a n → IsRead (m >>= f) → IsRead (f a n)
rest_read m f a n e h = subst (λ (g : Parsed _). IsRead (g >>= f)) e h

-- both parts of a whole that was read
pub parts_read : {A B : Type 0} (m : Parsed A) (f : A → ℕ → Parsed B) {b : B} {k : ℕ} → (m >>= f) ≡ parsed b k → (a : A) × (n : ℕ) × (m ≡ parsed a n) ×
    (f a n ≡ parsed b k)
parts_read (parsed a n) f h = (a, n, refl, h)
parts_read (refused j p) f h = let z : ◌≡◌ {A = ℕ} 0 1 = cc in absurd (omega arith)

-- Forward: what was read ends after the place `at`.

module _ {A : Type 0} where
  abbrev pub Forward : Parsed A → ℕ → Type 0
  Forward (parsed a n) at = at < n
  Forward (refused k p) at = Unit {0}

  pub forward_past : (m : Parsed A) {at n : ℕ} → Forward m at → Past n ≡ step_of m → at < n
  forward_past (parsed a k) {at} {n} h e = let q : n ≡ k = cc in rw q h
  forward_past (refused k p) h e = let z : ◌≡◌ {A = ℕ} 0 1 = cc in absurd (omega arith)

  pub forward_read : (m : Parsed A) {at n : ℕ} {a : A} → Forward m at → m ≡ parsed a n → at < n
  forward_read m {at} h e = subst (λ (g : Parsed A). Forward g at) e h

  pub forward_unless : (t : Bool) (k p : ℕ) (m : Parsed A) (at : ℕ) → Forward m at → Forward (unless t k p m) at
  forward_unless true k p m at h = h
  forward_unless false k p m at h = tt

  pub forward_later : (m : Parsed A) (at from : ℕ) → at < from → Forward m from → Forward m at
  forward_later (parsed a n) at from l h = omega arith
  forward_later (refused k p) at from l h = tt

pub forward_then : {A B : Type 0} (m : Parsed A) (f : A → ℕ → Parsed B) (at : ℕ) → Forward m at → ((a : A) (n : ℕ) → at < n → Forward (f a n) at) → Forward (m >>= f) at
forward_then (parsed a n) f at h g = g a n h
forward_then (refused k p) f at h g = tt

-- two ways to go on that agree after `at` are the same
pub then_same : {A B : Type 0} (m : Parsed A) (f g : A → ℕ → Parsed B) (at : ℕ) → Forward m at → ((a : A) (n : ℕ) → at < n → f a n ≡ g a n) → (m >>= f) ≡ (m >>= g)
then_same (parsed a n) f g at h e = e a n h
then_same (refused k p) f g at h e = refl

-- Finds: a fact of what was read and of the place after it.

pub data Finds {A : Type 0} (P : A → ℕ → Type 0) : Parsed A → Type 0 where
  found : {a : A} {n : ℕ} → P a n → Finds P (parsed a n)
  none : {k p : ℕ} → Finds P (refused k p)

module _ {A : Type 0} {P : A → ℕ → Type 0} where
  pub finds_parsed : {a : A} {n : ℕ} → Finds P (parsed a n) → P a n
  finds_parsed (found h) = h

  pub finds_read : (m : Parsed A) {a : A} {n : ℕ} → Finds P m → m ≡ parsed a n → P a n
  finds_read m h e = finds_parsed (subst (Finds P) e h)

  pub finds_unless : (t : Bool) (k p : ℕ) (m : Parsed A) → (t ≡ true → Finds P m) → Finds P (unless t k p m)
  finds_unless true k p m h = h refl
  finds_unless false k p m h = none

  pub finds_map : {Q : A → ℕ → Type 0} {m : Parsed A} → ((a : A) (n : ℕ) → P a n → Q a n) → Finds P m → Finds Q m
  finds_map g (found {a = a} {n = n} h) = found (g a n h)
  finds_map g none = none

pub finds_then : {A B : Type 0} {P : A → ℕ → Type 0} {Q : B → ℕ → Type 0} (m : Parsed A) (f : A → ℕ → Parsed B)
    → Finds P m → ((a : A) (n : ℕ) → P a n → Finds Q (f a n)) → Finds Q (m >>= f)
finds_then (parsed a n) f h g = g a n (finds_parsed h)
finds_then (refused k p) f h g = none

-- A mark, byte by byte.

module _ (number : ℕ) (mark s : List ℕ) (at : ℕ) (inside : at < length mark) where
  bytes_left : drop at mark ≡ get_or mark at 0 ∷ drop (at + 1) mark
  bytes_left = rw (add-one, drop-cons mark at 0)

  mark_opens : read_mark number (drop at mark) s at ≡ unless (eqb (get_or s at 0) (get_or mark at 0)) number at (read_mark number (drop (at + 1) mark) s (at + 1))
  unfolding read_mark
  mark_opens = ap (λ (m : List ℕ). read_mark number m s at) bytes_left

  pub mark_more : get_or s at 0 ≡ get_or mark at 0 → read_mark number (drop at mark) s at ≡ read_mark number (drop (at + 1) mark) s (at + 1)
  mark_more h = rw (mark_opens, eq-eqb _ _ h)

  pub mark_wrong : (get_or s at 0 ≡ get_or mark at 0 → ⊥) → read_mark number (drop at mark) s at ≡ refused number at
  mark_wrong h = rw (mark_opens, ne_eqb _ _ h)

pub mark_end : (number : ℕ) (mark s : List ℕ) (at : ℕ) → length mark ≤ at → read_mark number (drop at mark) s at ≡ parsed tt at
unfolding read_mark
mark_end number mark s at h = rw (drop_of_length-le mark h)

-- a mark that was read is past its bytes
pub mark_past : (number : ℕ) (mark s : List ℕ) (at : ℕ) {n : ℕ} → Past n ≡ step_of (read_mark number mark s at) → n ≡ at + length mark
unfolding read_mark
mark_past number [] s at {n} h = let e : n ≡ at = cc in omega arith
mark_past number (b ∷ mark) s at h =
    let u = past_unless (eqb (get_or s at 0) b) number at (read_mark number mark s (at + 1)) h in
    let r = mark_past number mark s (at + 1) u.1 in
    omega arith

-- and its bytes stand there
pub mark_found : (number : ℕ) (mark s : List ℕ) (at : ℕ) → at + length mark ≤ length s
    → Finds (λ u n. (n ≡ at + length mark) × (drop at s ≡ mark ++ drop n s)) (read_mark number mark s at)
unfolding read_mark
mark_found number [] s at h = found {n = at} (omega arith, refl)
mark_found number (b ∷ mark) s at h =
    finds_unless (eqb (get_or s at 0) b) number at _
    (λ t. let inside : at < length s = omega arith in
    let here : drop at s ≡ b ∷ drop (at + 1) s = rw (drop-cons s at 0 inside, eqb-true (get_or s at 0) b t, add-one at) in
    finds_map (λ u n r. (omega (arith, r.0), here ∙ ap (λ (l : List ℕ). b ∷ l) r.1)) (mark_found number mark s (at + 1) (omega arith)))
