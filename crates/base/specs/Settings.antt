-- Document 01, "Needed gates (000 Def. 4)": what a setting is, how settings are numbered, and what a test of settings rests on.
use Rattle.std.specs.Prelude.{◌≡◌, Bool, true, false, not, cond, List, [], ◌∷◌, ℕ, zero, suc, ◌+◌, ◌*◌, ◌/◌, ◌^◌, eqb, length}
use Rattle.base.specs.Lists.{◌∈◌, keep}
use Rattle.base.specs.Bits.{odd, bit_of, unlike}

-- a setting gives each condition a bit, freely; a condition is named by a number: its gate's, or its place among the conditions
abbrev pub Setting : Type 0
Setting = ℕ → Bool

-- setting j gives condition t the bit t of j, so `bit j` is setting j over conditions named by their places;
-- over the conditions cs the condition at place t gets the bit t of j, and whatever is no condition gets 0
abbrev pub setting_of : List ℕ → ℕ → Setting
setting_of [] j d = false
setting_of (c ∷ cs) j d = cond (eqb d c) (odd j) (setting_of cs (j / 2) d)

-- the number whose bit t is what a setting gives the condition at place t of cs
abbrev pub number_of : List ℕ → Setting → ℕ
number_of [] σ = 0
number_of (c ∷ cs) σ = bit_of (σ c) + 2 * number_of cs σ

-- two settings agree on cs: they give the conditions of cs the same bits
abbrev pub Agree : List ℕ → Setting → Setting → Type 0
Agree cs σ τ = (c : ℕ) → c ∈ cs → σ c ≡ τ c

-- a test of settings is over cs: it looks at no condition outside cs
abbrev pub Over : List ℕ → (Setting → Bool) → Type 0
Over cs P = (σ τ : Setting) → Agree cs σ τ → P σ ≡ P τ

-- no condition stands twice in the list
abbrev pub Once : List ℕ → Type 0
Once [] = Unit {0}
Once (c ∷ cs) = (c ∈ cs → ⊥) × Once cs

-- the setting σ, but for condition c, which gets b
abbrev pub put : Setting → ℕ → Bool → Setting
put σ c b = λ d. cond (eqb d c) b (σ d)

-- the setting σ with condition c alone changed
abbrev pub flip : Setting → ℕ → Setting
flip σ c = put σ c (not (σ c))

-- does some number below n pass the test?
abbrev pub any_below : (ℕ → Bool) → ℕ → Bool
any_below p zero = false
any_below p (suc n) = cond (p n) true (any_below p n)

-- changing condition c alone moves setting j over cs in or out of the test P
abbrev pub moves : (Setting → Bool) → List ℕ → ℕ → ℕ → Bool
moves P cs c j = unlike (P (setting_of cs j)) (P (flip (setting_of cs j) c))

-- P rests on condition c, which is then in its support: changing c alone moves some setting over cs in or out
unfoldable pub pre_rests_on : (Setting → Bool) → List ℕ → ℕ → Bool
pre_rests_on P cs c = any_below (moves P cs c) (2 ^ length cs)

-- the conditions that P rests on, in the order of cs
abbrev pub pre_rests : (Setting → Bool) → List ℕ → List ℕ
pre_rests P cs = keep (pre_rests_on P cs) cs
