-- Laws for document 01, "Needed gates (000 Def. 4)": settings and their numbers go over into each other, for any list of conditions; bit t of the number is condition t.
use Rattle.std.specs.Prelude.{◌≡◌, refl, Bool, true, false, List, [], ◌∷◌, map, ◌⊎◌, ℕ, zero, suc, ◌+◌, ◌*◌, ◌/◌, ◌^◌, ◌<◌, length, get_or}
use Rattle.std.proofs.Common.{sym, ap, ◌∙◌, inl, inr, arith, eq-eqb, ne_eqb}
use Rattle.base.specs.Lists.{◌∈◌, upto}
use Rattle.base.specs.ListLaws.{length_from}
use Rattle.base.specs.MemberLaws.{get_or_in}
use Rattle.base.specs.TestLaws.{same?}
use Rattle.base.specs.Bits.{bit_of, bit}
use Rattle.base.specs.Settings.{Setting, setting_of, number_of, Agree, Once, put}
use Rattle.base.specs.BitLaws.{half, odd_bit, bit_zero, bit_suc, same_bits}
use Rattle.base.specs.SettingListLaws.{get_or_upto}

-- a changed setting gives its condition the new bit, and every other what it gave
pub put_same : (σ : Setting) (c : ℕ) (b : Bool) (d : ℕ) → d ≡ c → put σ c b d ≡ b
put_same σ c b d e = rw (eq-eqb d c e)

pub put_other : (σ : Setting) (c : ℕ) (b : Bool) (d : ℕ) → (d ≡ c → ⊥) → put σ c b d ≡ σ d
put_other σ c b d n = rw (ne_eqb d c n)

pub put_agree : (l : List ℕ) (σ τ : Setting) (c : ℕ) (a b : Bool) → Agree l σ τ → (c ∈ l → a ≡ b) → Agree l (put σ c a) (put τ c b)
put_agree l σ τ c a b h k d m = go (same? d c)
  where
    go : (d ≡ c) ⊎ (d ≡ c → ⊥) → put σ c a d ≡ put τ c b d
    go (inl e) = put_same σ c a d e ∙ k (rw e at m) ∙ sym (put_same τ c b d e)
    go (inr n) = put_other σ c a d n ∙ h d m ∙ sym (put_other τ c b d n)

pub put_idle : (l : List ℕ) (σ : Setting) (c : ℕ) (b : Bool) → b ≡ σ c → Agree l (put σ c b) σ
put_idle l σ c b h d m = go (same? d c)
  where
    go : (d ≡ c) ⊎ (d ≡ c → ⊥) → put σ c b d ≡ σ d
    go (inl e) = put_same σ c b d e ∙ h ∙ ap σ (sym e)
    go (inr n) = put_other σ c b d n

-- the settings of n conditions are numbered below 2 ^ n
pub number_of_below : (cs : List ℕ) (σ : Setting) → number_of cs σ < 2 ^ length cs
number_of_below [] σ = omega arith
number_of_below (c ∷ cs) σ = go (σ c) (number_of_below cs σ)
  where
    go : (b : Bool) → number_of cs σ < 2 ^ length cs → bit_of b + 2 * number_of cs σ < 2 ^ suc (length cs)
    go true h = omega arith
    go false h = omega arith

-- settings that agree have the same number
pub number_of_agree : (cs : List ℕ) (σ τ : Setting) → Agree cs σ τ → number_of cs σ ≡ number_of cs τ
number_of_agree [] σ τ h = refl
number_of_agree (c ∷ cs) σ τ h = rw (h c (inl refl), number_of_agree cs σ τ (λ d m. h d (inr m)))

-- every setting is numbered
pub setting_of_number_of : (cs : List ℕ) (σ : Setting) → Agree cs (setting_of cs (number_of cs σ)) σ
setting_of_number_of [] σ d m = absurd m
setting_of_number_of (c ∷ cs) σ d m = go (same? d c) m (λ h. setting_of_number_of cs σ d h)
  where
    go : (d ≡ c) ⊎ (d ≡ c → ⊥) → (d ≡ c) ⊎ (d ∈ cs) → (d ∈ cs → setting_of cs (number_of cs σ) d ≡ σ d) → setting_of (c ∷ cs) (number_of (c ∷ cs) σ) d ≡ σ d
    go (inl e) r ih = rw (eq-eqb d c e) (odd_bit (σ c) (number_of cs σ) ∙ ap σ (sym e))
    go (inr n) (inl e) ih = absurd (n e)
    go (inr n) (inr h) ih = rw (ne_eqb d c n, half) (ih h)

-- bit t of a setting's number is what it gives the condition at place t
pub bit_number_of : (cs : List ℕ) (σ : Setting) (t : ℕ) → t < length cs → bit (number_of cs σ) t ≡ σ (get_or cs t 0)
bit_number_of [] σ t h = absurd (omega arith)
bit_number_of (c ∷ cs) σ zero h = bit_zero (number_of (c ∷ cs) σ) ∙ odd_bit (σ c) (number_of cs σ)
bit_number_of (c ∷ cs) σ (suc t) h =
    bit_suc (number_of (c ∷ cs) σ) t ∙ ap (λ (x : ℕ). bit x t) (half (σ c) (number_of cs σ)) ∙ bit_number_of cs σ t (omega arith)

-- setting j over cs gives the condition at place t the bit t of j
pub setting_of_at : (cs : List ℕ) → Once cs → (j t : ℕ) → t < length cs → setting_of cs j (get_or cs t 0) ≡ bit j t
setting_of_at [] o j t h = absurd (omega arith)
setting_of_at (c ∷ cs) o j zero h = rw (eq-eqb c c refl) (sym (bit_zero j))
setting_of_at (c ∷ cs) (new, o) j (suc t) h =
    rw (ne_eqb (get_or cs t 0) c (λ e. new (rw e at (get_or_in cs t (omega arith))))) (setting_of_at cs o (j / 2) t (omega arith) ∙ sym (bit_suc j t))

-- what is no condition gets 0
pub setting_of_out : (cs : List ℕ) (j d : ℕ) → (d ∈ cs → ⊥) → setting_of cs j d ≡ false
setting_of_out [] j d h = refl
setting_of_out (c ∷ cs) j d h = rw (ne_eqb d c (λ e. h (inl e))) (setting_of_out cs (j / 2) d (λ m. h (inr m)))

-- the number of setting j over cs is j
pub number_of_setting_of : (cs : List ℕ) → Once cs → (j : ℕ) → j < 2 ^ length cs → number_of cs (setting_of cs j) ≡ j
number_of_setting_of cs o j h =
    same_bits (length cs) (number_of cs (setting_of cs j)) j (number_of_below cs (setting_of cs j)) h
    (λ t l. bit_number_of cs (setting_of cs j) t l ∙ setting_of_at cs o j t l)

-- over the conditions by their places, setting j is `bit j`
pub number_of_bit : (n j : ℕ) → j < 2 ^ n → number_of (upto n) (bit j) ≡ j
number_of_bit n j h =
    same_bits n (number_of (upto n) (bit j)) j (rw (length_from 0 n) at (number_of_below (upto n) (bit j))) h
    (λ t l. bit_number_of (upto n) (bit j) t (rw (length_from 0 n) l) ∙ ap (bit j) (get_or_upto n t l))

-- conditions by other names: the same number of the setting that goes through the names
pub number_of_map : (f : ℕ → ℕ) (l : List ℕ) (σ : Setting) → number_of (map f l) σ ≡ number_of l (λ t. σ (f t))
number_of_map f [] σ = refl
number_of_map f (t ∷ l) σ = ap (λ (x : ℕ). bit_of (σ (f t)) + 2 * x) (number_of_map f l σ)

-- the place of a condition
pub place : (cs : List ℕ) (c : ℕ) → c ∈ cs → (t : ℕ) × (t < length cs) × (c ≡ get_or cs t 0)
place [] c m = absurd m
place (d ∷ cs) c (inl e) = (0, omega arith, e)
place (d ∷ cs) c (inr m) = let r = place cs c m in (suc r.0, omega (arith, r.1), r.2)
