-- The figures of a choice, a pick and a guard, turn by turn: the value that the condition picks, the sum of the values whose guards are 1, and the number of the wires.
use Rattle.std.specs.Prelude.{ℕ, zero, suc, ◌+◌, ◌-◌, ◌*◌, ◌%◌, ◌^◌, ◌≤◌, ◌<◌, ◌≡◌, refl, Bool, cond, List}
use Rattle.std.proofs.Common.{sym, ap, ◌∙◌, inl, inr, arith, pow_mono, eq-eqb, ne_eqb}
use Rattle.base.specs.Numbers.{number_at, sum_of}
use Rattle.base.specs.Lists.{Inside}
use Rattle.base.specs.Bits.{bit_of}
use Rattle.base.specs.Settings.{number_of}
use Rattle.base.specs.SettingLaws.{number_of_below}
use Rattle.base.specs.Results.{is_one}
use Rattle.file.specs.Records.{pair_wires}
use Rattle.file.specs.Versions.{two, most_guard_wires}
use Rattle.file.specs.WireFigures.{sum_figure}
use Rattle.file.specs.FileFigures.{wires_at, pairs_at}
use Rattle.file.specs.FilePartLaws.{wires_length}
use Rattle.file_figures.specs.Working.{held}

-- a choice: its condition is 1, or it is not
pub chosen_first : (x a b g r : ℕ) → g ≡ x → g ≡ 1 → r ≡ a → r ≡ cond (is_one x) a b
chosen_first x a b g r e one h = h ∙ rw (eq-eqb _ 1 (sym e ∙ one))

pub chosen_second : (x a b g r : ℕ) → g ≡ x → (g ≡ 1 → ⊥) → r ≡ b → r ≡ cond (is_one x) a b
chosen_second x a b g r e none h = h ∙ rw (ne_eqb _ 1 (λ z. none (e ∙ z)))

-- the wires of pair i
pub pair_of : (k n : ℕ) (f : List ℕ) (at i : ℕ) → Inside k (pair_wires (pairs_at n f at)) → i < n → (number_at 2 f (at + 4 * i) < k) × (number_at 2 f (at + 4 * i + 2) < k)
pair_of k zero f at i w h = absurd (omega arith)
pair_of k (suc n) f at zero w h = let e : at + 4 * 0 ≡ at = omega arith in rw e (w _ (inl refl), w _ (inr (inl refl)))
pair_of k (suc n) f at (suc i) w h =
    let e : at + 4 * suc i ≡ at + 4 + 4 * i = omega arith in rw e (pair_of k n f (at + 4) i (λ a m. w a (inr (inr m))) (omega arith))

-- the pairs from t - 1 on, by those from t on: its guard is 1, or it is not
module _ (f figures : List ℕ) (at count t sum : ℕ) (h : 0 < t) (l : t ≤ count) (p : sum ≡ sum_figure (held figures) (pairs_at (count - t) f (at + 4 * t)) % 4294967296) where
  one_pair : sum_figure (held figures) (pairs_at (count - (t - 1)) f (at + 4 * (t - 1)))
      ≡ cond (is_one (held figures (number_at 2 f (at + 4 * (t - 1))))) (held figures (number_at 2 f (at + 4 * (t - 1) + 2))) 0
      + sum_figure (held figures) (pairs_at (count - t) f (at + 4 * t))
  one_pair =
      let a : count - (t - 1) ≡ suc (count - t) = omega arith in let b : at + 4 * (t - 1) + 4 ≡ at + 4 * t = omega arith in
      ap (λ (n : ℕ). sum_figure (held figures) (pairs_at n f (at + 4 * (t - 1)))) a
      ∙ rw b

  next : (s n : ℕ) → cond (is_one (held figures (number_at 2 f (at + 4 * (t - 1))))) (held figures (number_at 2 f (at + 4 * (t - 1) + 2))) 0 ≡ n
      → s ≡ (sum + n) % 4294967296 → s ≡ sum_figure (held figures) (pairs_at (count - (t - 1)) f (at + 4 * (t - 1))) % 4294967296
  next s n e q =
      let a : s ≡ (n + sum_figure (held figures) (pairs_at (count - t) f (at + 4 * t))) % 4294967296 = omega (arith, q, p) in
      a ∙ ap (λ (m : ℕ). m % 4294967296) (sym (one_pair ∙ rw e))

  pub summing_one : (g v s : ℕ) → g ≡ held figures (number_at 2 f (at + 4 * (t - 1))) → g ≡ 1 → v ≡ held figures (number_at 2 f (at + 4 * (t - 1) + 2))
      → s ≡ sum_of sum v → s ≡ sum_figure (held figures) (pairs_at (count - (t - 1)) f (at + 4 * (t - 1))) % 4294967296
  summing_one g v s e one r q = next s v (rw (eq-eqb _ 1 (sym e ∙ one)) (sym r)) q

  pub summing_none : (g : ℕ) → g ≡ held figures (number_at 2 f (at + 4 * (t - 1))) → (g ≡ 1 → ⊥) → sum ≡ sum_figure (held figures) (pairs_at (count - (t - 1)) f (at + 4 * (t - 1))) % 4294967296
  summing_none g e none = next sum 0 (rw (ne_eqb _ 1 (λ z. none (e ∙ z)))) (omega (arith, p))

-- n bits make a number below 2^n
number_few : (f : List ℕ) (at n : ℕ) (σ : ℕ → Bool) → number_of (wires_at n f at) σ < 2 ^ n
number_few f at n σ = rw (wires_length n f at) at (number_of_below (wires_at n f at) σ)

-- the wires from t - 1 on, by those from t on; j: the number of these
module _ (f figures : List ℕ) (at count t j : ℕ) (p : j ≡ number_of (wires_at (count - t) f (at + 2 * t)) (λ w. is_one (held figures w))) where
  pub counting_few : count ≤ most_guard_wires two → j < 256
  counting_few few =
      let l : j < 2 ^ (count - t) = rw p (number_few f (at + 2 * t) (count - t) _) in
      let k : 2 ^ (count - t) ≤ 2 ^ 8 = pow_mono {i = count - t} {j = 8} (omega arith) in omega (arith, l, k)

  pub counted : t ≤ 0 → (j ≡ number_of (wires_at count f at) (λ w. is_one (held figures w))) × (j < 2 ^ count)
  counted h =
      let a : count - t ≡ count = omega arith in let b : at + 2 * t ≡ at = omega arith in
      let e : j ≡ number_of (wires_at count f at) (λ w. is_one (held figures w)) = p ∙ rw (a, b) in
      (e, rw e (number_few f at count _))

  pub counting_next : 0 < t → t ≤ count → (g k : ℕ) → g ≡ held figures (number_at 2 f (at + 2 * (t - 1))) → k ≡ bit_of (is_one g)
      → 2 * j + k ≡ number_of (wires_at (count - (t - 1)) f (at + 2 * (t - 1))) (λ w. is_one (held figures w))
  counting_next h l g k e q =
      let a : count - (t - 1) ≡ suc (count - t) = omega arith in let b : at + 2 * (t - 1) + 2 ≡ at + 2 * t = omega arith in
      let s : number_of (wires_at (count - (t - 1)) f (at + 2 * (t - 1))) (λ w. is_one (held figures w)) ≡ bit_of (is_one (held figures (number_at 2 f (at + 2 * (t - 1))))) + 2 * j =
      ap (λ (n : ℕ). number_of (wires_at n f (at + 2 * (t - 1))) (λ w. is_one (held figures w))) a ∙ rw (b, p) in
      let u : k ≡ bit_of (is_one (held figures (number_at 2 f (at + 2 * (t - 1))))) = q ∙ ap (λ (x : ℕ). bit_of (is_one x)) e in omega (arith, s, u)
