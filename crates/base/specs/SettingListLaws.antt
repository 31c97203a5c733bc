-- Laws for document 01, "Needed gates (000 Def. 4)": a search below a number finds what passes, or nothing does; runs of numbers, and what is kept of them, hold nothing twice.
use Rattle.std.specs.Prelude.{◌≡◌, refl, Bool, true, false, List, [], ◌∷◌, ◌⊎◌, ℕ, zero, suc, ◌+◌, ◌≤◌, ◌<◌, get_or}
use Rattle.std.proofs.Common.{sym, ◌∙◌, true≢false, inl, inr, zero-add, arith}
use Rattle.std.proofs.lemmas.Bool.{false≢true}
use Rattle.base.specs.Lists.{◌∈◌, keep, from, upto}
use Rattle.base.specs.ListLaws.{get_or_from}
use Rattle.base.specs.MemberLaws.{keep_from, from_below}
use Rattle.base.specs.TestLaws.{split, same?}
use Rattle.base.specs.Settings.{Once, any_below}

-- a search below n finds nothing, something, the same
pub any_below_none : (p : ℕ → Bool) (n : ℕ) → any_below p n ≡ false → (j : ℕ) → j < n → p j ≡ false
any_below_none p zero h j l = absurd (omega arith)
any_below_none p (suc n) h j l = go (same? j n) (λ k. any_below_none p n (rw last at h) j k)
  where
    last : p n ≡ false
    last = split (p n) (λ e. absurd (false≢true (sym h ∙ rw e))) (λ e. e)

    go : (j ≡ n) ⊎ (j ≡ n → ⊥) → (j < n → p j ≡ false) → p j ≡ false
    go (inl e) ih = rw e last
    go (inr m) ih = ih (omega arith)

pub any_below_some : (p : ℕ → Bool) (n : ℕ) → any_below p n ≡ true → (j : ℕ) × (j < n) × (p j ≡ true)
any_below_some p zero h = absurd (false≢true h)
any_below_some p (suc n) h =
    split (p n) (λ t. (n, omega arith, t)) (λ t. let r = any_below_some p n (rw t at h) in (r.0, omega (arith, r.1), r.2))

pub any_below_has : (p : ℕ → Bool) (n j : ℕ) → j < n → p j ≡ true → any_below p n ≡ true
any_below_has p n j l t = split (any_below p n) (λ e. e) (λ e. absurd (true≢false (sym t ∙ any_below_none p n e j l)))

pub any_below_same : (p q : ℕ → Bool) (n : ℕ) → ((j : ℕ) → j < n → p j ≡ q j) → any_below p n ≡ any_below q n
any_below_same p q zero h = refl
any_below_same p q (suc n) h = rw (h n (omega arith), any_below_same p q n (λ j l. h j (omega arith)))

-- the rising list 0, 1, ..: the member at place k is k; nothing twice in a rising list
pub get_or_upto : (n k : ℕ) → k < n → get_or (upto n) k 0 ≡ k
get_or_upto n k h = get_or_from 0 n k h ∙ zero-add k

pub from_once : (i n : ℕ) → Once (from i n)
from_once i zero = tt
from_once i (suc n) = (λ m. let r : (suc i ≤ i) × (i < suc i + n) = from_below (suc i) n i m in omega arith, from_once (suc i) n)

pub keep_none : (p : ℕ → Bool) (l : List ℕ) → ((a : ℕ) → a ∈ l → p a ≡ false) → keep p l ≡ []
keep_none p [] h = refl
keep_none p (a ∷ l) h = rw (h a (inl refl)) (keep_none p l (λ b m. h b (inr m)))

pub keep_once : (p : ℕ → Bool) (l : List ℕ) → Once l → Once (keep p l)
keep_once p [] o = tt
keep_once p (a ∷ l) (new, o) = split (p a) (λ e. rw e (λ m. new (keep_from p l a m).0, keep_once p l o)) (λ e. rw e (keep_once p l o))
