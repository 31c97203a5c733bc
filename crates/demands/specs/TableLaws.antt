-- Any list of rows with distinct numbers: the first failing row fixes the answer; where tests hold exactly when the rows' facts do, the first failing test is that row's.
use Rattle.std.specs.Prelude.{ℕ, zero, suc, ◌<◌, ◌≡◌, refl, Bool, true, not, ◌&&◌, List, [], ◌∷◌, map, ◌⊎◌, ◌↔◌, eqb, ltb, length, get_or, drop}
use Rattle.std.proofs.Common.{arith, sym, ap, subst, ◌∙◌, true≢false, inl, inr, ltb-true}
use Rattle.std.proofs.lemmas.Bool.{eqb-false, not-true}
use Rattle.base.specs.Lists.{◌∈◌, every}
use Rattle.base.specs.MemberLaws.{every_right}
use Rattle.base.specs.TestLaws.{split, both}
use Rattle.base.specs.Answers.{refusal}
use Rattle.base.specs.declared.Answer.{Answer}
use Rattle.plan.specs.Rows.{Row, first_failing}
use Rattle.demands.specs.Table.{TableRow, row, Hold, FailsAt, number_of, AnsweredBy}

-- the numbers of a list of rows; they are distinct, and none is 0
abbrev pub numbers : List TableRow → List ℕ
numbers [] = []
numbers (row n fact ∷ l) = n ∷ numbers l

abbrev pub distinct : List ℕ → Bool
distinct [] = true
distinct (n ∷ l) = ltb 0 n && (every (λ k. not (eqb k n)) l && distinct l)

number_in : (k : ℕ) (l : List TableRow) → k < length l → number_of k l ∈ numbers l
number_in k [] h = absurd (omega arith)
number_in zero (row n fact ∷ l) h = inl refl
number_in (suc k) (row n fact ∷ l) h = inr (number_in k l (omega arith))

-- a number of the list is not 0, and is that of one row alone
number_some : (k : ℕ) (l : List TableRow) → distinct (numbers l) ≡ true → k < length l → number_of k l ≡ 0 → ⊥
number_some k [] d h e = omega arith
number_some zero (row n fact ∷ l) d h e = let b = both (ltb 0 n) _ d in omega (arith, ltb-true 0 n b.0)
number_some (suc k) (row n fact ∷ l) d h e =
    let b = both (ltb 0 n) _ d in
    let c = both (every (λ k. not (eqb k n)) (numbers l)) _ b.1 in
    number_some k l c.1 (omega arith) e

number_once : (j k : ℕ) (l : List TableRow) → distinct (numbers l) ≡ true → j < length l → k < length l → number_of j l ≡ number_of k l → j ≡ k
number_once j k [] d h i e = absurd (omega arith)
number_once zero zero (row n fact ∷ l) d h i e = refl
number_once (suc j) (suc k) (row n fact ∷ l) d h i e =
    let b = both (ltb 0 n) _ d in
    let c = both (every (λ k. not (eqb k n)) (numbers l)) _ b.1 in
    ap suc (number_once j k l c.1 (omega arith) (omega arith) e)
number_once zero (suc k) (row n fact ∷ l) d h i e =
    let b = both (ltb 0 n) _ d in
    let c = both (every (λ k. not (eqb k n)) (numbers l)) _ b.1 in
    absurd (eqb-false _ _ (not-true _ ((every_right (λ k. not (eqb k n)) (numbers l)).0 c.0 _ (number_in k l (omega arith)))) (sym e))
number_once (suc j) zero (row n fact ∷ l) d h i e =
    let b = both (ltb 0 n) _ d in
    let c = both (every (λ k. not (eqb k n)) (numbers l)) _ b.1 in
    absurd (eqb-false _ _ (not-true _ ((every_right (λ k. not (eqb k n)) (numbers l)).0 c.0 _ (number_in j l (omega arith)))) e)

-- a row that refuses is the only one, and then not every fact holds
fails_once : (j k : ℕ) (l : List TableRow) → FailsAt j l → FailsAt k l → j ≡ k
fails_once j k [] f g = absurd f
fails_once zero zero (row n fact ∷ l) f g = refl
fails_once zero (suc k) (row n fact ∷ l) f (h, g) = absurd (f h)
fails_once (suc j) zero (row n fact ∷ l) (h, f) g = absurd (g h)
fails_once (suc j) (suc k) (row n fact ∷ l) (h, f) (i, g) = ap suc (fails_once j k l f g)

fails_some : (k : ℕ) (l : List TableRow) → FailsAt k l → Hold l → ⊥
fails_some k [] f h = f
fails_some zero (row n fact ∷ l) f (h, r) = f h
fails_some (suc k) (row n fact ∷ l) (_, f) (_, r) = fails_some k l f r

-- what comes out of a list: every fact holds and the number is 0, or a row refuses and the number is its own
abbrev pub Outcome : List TableRow → ℕ → Type 0
Outcome l n = (Hold l × (n ≡ 0)) ⊎ ((k : ℕ) × (k < length l) × FailsAt k l × (n ≡ number_of k l))

-- so the number, and with it the answer, is fixed
pub answered_by : (l : List TableRow) (place : ℕ) (a : Answer) → distinct (numbers l) ≡ true → Outcome l a.number
    → (a.number ≡ 0 → a.place ≡ 0) → ((a.number ≡ 0 → ⊥) → a ≡ refusal a.number place) → AnsweredBy l place a
answered_by l place a d (inl (h, e)) z r =
    record {
      taken = (λ _. h, λ _. e);
      refused = λ k i. (λ n. absurd (number_some k l d i (sym n ∙ e)), λ f. absurd (fails_some k l f h));
      listed = inl (e, z e);
    }
answered_by l place a d (inr (j, i, f, e)) z r =
    let some : a.number ≡ 0 → ⊥ = λ n. number_some j l d i (sym e ∙ n) in
    record {
      taken = (λ n. absurd (some n), λ h. absurd (fails_some j l f h));
      refused = λ k m. (
        λ n. subst (λ (x : ℕ). FailsAt x l) (number_once j k l d i m (sym e ∙ n)) f,
        λ g. e ∙ ap (λ (x : ℕ). number_of x l) (fails_once j k l f g),
      );
      listed = inr (j, i, r some ∙ ap (λ (x : ℕ). refusal x place) e);
    }

pub taken_by : (l : List TableRow) (place : ℕ) (a : Answer) → distinct (numbers l) ≡ true → Hold l → a.number ≡ 0 → a.place ≡ 0 → AnsweredBy l place a
taken_by l place a d h n z = answered_by l place a d (inl (h, n)) (λ _. z) (λ f. absurd (f n))

pub refused_by : (k : ℕ) (l : List TableRow) (place : ℕ) (a : Answer) → distinct (numbers l) ≡ true → k < length l → FailsAt k l → a ≡ refusal (number_of k l) place
    → AnsweredBy l place a
refused_by k l place a d i f e =
    let n : a.number ≡ number_of k l = ap (λ (b : Answer). b.number) e in
    answered_by l place a d (inr (k, i, f, n)) (λ z. absurd (number_some k l d i (sym n ∙ z))) (λ _. e ∙ ap (λ (x : ℕ). refusal x place) (sym n))

-- the row that refuses gives the whole answer
pub refuses_with : (k : ℕ) (l : List TableRow) (place : ℕ) (a : Answer) → distinct (numbers l) ≡ true → AnsweredBy l place a → k < length l → FailsAt k l
    → a ≡ refusal (number_of k l) place
refuses_with k l place a d h i f = go h.listed
  where
    n : a.number ≡ number_of k l
    n = (h.refused k i).1 f

    go : ((a.number ≡ 0) × (a.place ≡ 0)) ⊎ ((j : ℕ) × (j < length l) × (a ≡ refusal (number_of j l) place)) → a ≡ refusal (number_of k l) place
    go (inl (z, _)) = absurd (number_some k l d i (sym n ∙ z))
    go (inr (j, _, e)) = e ∙ ap (λ (x : ℕ). refusal x place) (sym (ap (λ (b : Answer). b.number) e) ∙ n)

-- Tests beside facts: of each row the test holds exactly when the fact does, where the facts before it hold.
infixr 4 ◌then◌
pub data Tells : List Row → List TableRow → Type 1 where
  none : Tells [] []
  ◌then◌ : {t : Row} {T : List Row} {n : ℕ} {fact : Type 0} {l : List TableRow} → ((t.holds ≡ true) ↔ fact) → (fact → Tells T l) → Tells (t ∷ T) (row n fact ∷ l)

pub tests_tell : (T : List Row) (l : List TableRow) → map (λ (t : Row). t.refuses) T ≡ numbers l → Tells T l → Outcome l (first_failing T)
tests_tell [] [] e none = inl (tt, refl)
tests_tell [] (_ ∷ l) e x = elim x [ ]
tests_tell (t ∷ T) [] e x = elim x [ ]
tests_tell (t ∷ T) (row n fact ∷ l) e ((to, back) then rest) =
    split t.holds
    (λ u. rw u (go (to u) (tests_tell T l (ap (drop 1) e) (rest (to u)))))
    (λ u. rw u (inr (0, omega arith, λ f. true≢false (sym (back f) ∙ u), ap (λ (k : List ℕ). get_or k 0 0) e)))
  where
    go : fact → Outcome l (first_failing T) → Outcome (row n fact ∷ l) (first_failing T)
    go f (inl (h, z)) = inl ((f, h), z)
    go f (inr (k, i, g, z)) = inr (suc k, omega arith, (f, g), z)
