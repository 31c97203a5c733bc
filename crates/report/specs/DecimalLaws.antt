-- `decimal`: how it is made digit by digit, that its value is the number, that no zero leads it, and how long it is.
use Rattle.std.specs.Prelude.{◌≡◌, refl, List, [], ◌∷◌, ◌++◌, ℕ, zero, suc, ◌+◌, ◌-◌, ◌*◌, ◌/◌, ◌%◌, ◌^◌, ◌≤◌, ◌<◌, ltb, length, get_or}
use Rattle.std.proofs.Common.{sym, ap, ◌∙◌, arith, length-append, ltb-true, ltb-false, lt-ltb, le-ltb}
use Rattle.std.proofs.Math.Nat.{pow-succ'}
use Rattle.base.specs.TestLaws.{split}
use Rattle.report.specs.Line.{digit, digits, decimal}

-- any two counts of steps that suffice give the same digits
enough : (f g n : ℕ) → n < f → n < g → digits f n ≡ digits g n
unfolding digits
enough zero g n h k = absurd (omega arith)
enough (suc f) zero n h k = absurd (omega arith)
enough (suc f) (suc g) n h k =
    split (ltb n 10) (λ e. rw e)
    (λ e. rw e (ap (λ (s : List ℕ). s ++ (digit (n % 10) ∷ [])) (enough f g (n / 10) (omega (arith, ltb-false n 10 e)) (omega (arith, ltb-false n 10 e)))))

-- a number of one digit, and of more
pub decimal_one : (n : ℕ) → n < 10 → decimal n ≡ digit n ∷ []
unfolding decimal digits
decimal_one n h = rw (lt-ltb n 10 h)

pub decimal_more : (n : ℕ) → 10 ≤ n → decimal n ≡ decimal (n / 10) ++ (digit (n % 10) ∷ [])
unfolding decimal digits
decimal_more n h = rw (le-ltb n 10 h) (ap (λ (s : List ℕ). s ++ (digit (n % 10) ∷ [])) (enough n (suc (n / 10)) (n / 10) (omega arith) (omega arith)))

-- what holds of one digit, and of n if of n / 10, holds of every number
by_steps : (P : ℕ → Type 0) → ((n : ℕ) → n < 10 → P n) → ((n : ℕ) → 10 ≤ n → P (n / 10) → P n) → (f n : ℕ) → n < f → P n
by_steps P one more zero n h = absurd (omega arith)
by_steps P one more (suc f) n h =
    split (ltb n 10) (λ e. one n (ltb-true n 10 e))
    (λ e. more n (ltb-false n 10 e) (by_steps P one more f (n / 10) (omega (arith, ltb-false n 10 e))))

pub by_digits : (P : ℕ → Type 0) → ((n : ℕ) → n < 10 → P n) → ((n : ℕ) → 10 ≤ n → P (n / 10) → P n) → (n : ℕ) → P n
by_digits P one more n = by_steps P one more (suc n) n (omega arith)

-- the number that digits stand for, read from the highest on
unfoldable pub value_from : ℕ → List ℕ → ℕ
value_from v [] = v
value_from v (b ∷ s) = value_from (v * 10 + (b - 48)) s

value_append : (v : ℕ) (s t : List ℕ) → value_from v (s ++ t) ≡ value_from (value_from v s) t
unfolding value_from
value_append v [] t = refl
value_append v (b ∷ s) t = value_append (v * 10 + (b - 48)) s t

-- the digits' value is the number, so two numbers never have the same digits
pub decimal_value : (n : ℕ) → value_from 0 (decimal n) ≡ n
unfolding value_from
decimal_value = by_digits (λ n. value_from 0 (decimal n) ≡ n) (λ n h. rw (decimal_one n h) (omega arith))
    (λ n h e. rw (decimal_more n h, value_append 0 (decimal (n / 10)) (digit (n % 10) ∷ []), e) (omega arith))

pub decimal_same : (m n : ℕ) → decimal m ≡ decimal n → m ≡ n
decimal_same m n e = sym (decimal_value m) ∙ ap (value_from 0) e ∙ decimal_value n

-- one digit at least, and one more than n / 10 has
pub length_more : (n : ℕ) → 10 ≤ n → length (decimal n) ≡ length (decimal (n / 10)) + 1
length_more n h = rw (decimal_more n h) (length-append (decimal (n / 10)) (digit (n % 10) ∷ []))

pub length_some : (n : ℕ) → 1 ≤ length (decimal n)
length_some = by_digits (λ n. 1 ≤ length (decimal n)) (λ n h. rw (decimal_one n h) (omega arith)) (λ n h e. omega (arith, length_more n h))

-- the first digit is that of n / 10
first_more : (s t : List ℕ) → 1 ≤ length s → get_or (s ++ t) 0 0 ≡ get_or s 0 0
first_more [] t h = absurd (omega arith)
first_more (b ∷ s) t h = refl

-- no zero leads a number that is not 0
pub no_zero_first : (n : ℕ) → 1 ≤ n → 48 < get_or (decimal n) 0 0
no_zero_first =
    by_digits (λ n. 1 ≤ n → 48 < get_or (decimal n) 0 0) (λ n h l. rw (decimal_one n h) (omega arith))
    (λ n h e l. rw (decimal_more n h, first_more (decimal (n / 10)) (digit (n % 10) ∷ []) (length_some (n / 10))) (e (omega arith)))

-- a number below 10 ^ k has k digits at most, one below 2 ^ 64 has 20
pub length_below : (k n : ℕ) → n < 10 ^ suc k → length (decimal n) ≤ suc k
length_below zero n h = rw (decimal_one n h) (omega arith)
length_below (suc k) n h =
    split (ltb n 10) (λ e. rw (decimal_one n (ltb-true n 10 e)) (omega arith))
    (λ e. omega (arith, length_more n (ltb-false n 10 e), length_below k (n / 10) (tenth n (10 ^ suc k) (rw (pow-succ' 10 (suc k)) at h))))
  where
    tenth : (n p : ℕ) → n < 10 * p → n / 10 < p
    tenth n p l = omega arith

pub length_decimal : (n : ℕ) → n < 2 ^ 64 → length (decimal n) ≤ 20
length_decimal n h = length_below 19 n (omega arith)
