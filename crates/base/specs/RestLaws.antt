-- Laws for document 01, "Needed gates (000 Def. 4)": whether a setting passes a test depends only on the bits of the conditions that the test rests on.
use Rattle.std.specs.Prelude.{◌≡◌, Bool, true, false, not, ◌⊎◌, ℕ, ◌^◌, length}
use Rattle.std.proofs.Math.Path.{refl, ap}
use Rattle.std.proofs.Common.{sym, ◌∙◌, inl, inr}
use mathlib.Core.List.{List, [], ◌∷◌}
use Rattle.base.specs.Lists.{◌∈◌}
use Rattle.base.specs.TestLaws.{split, same?}
use Rattle.base.specs.Bits.{unlike}
use Rattle.base.specs.Settings.{Setting, setting_of, number_of, Agree, Over, put, flip, moves, pre_rests_on}
use Rattle.base.specs.SettingListLaws.{any_below_none}
use Rattle.base.specs.SettingLaws.{put_same, put_other, put_agree, put_idle, number_of_below, setting_of_number_of}

-- two bits that are not unlike are the same; a bit is another or its opposite
pub like : (a b : Bool) → unlike a b ≡ false → a ≡ b
like true true h = refl
like true false h = h
like false true h = sym h
like false false h = refl

either : (b a : Bool) → (b ≡ a) ⊎ (b ≡ not a)
either true true = inl refl
either true false = inr refl
either false true = inr refl
either false false = inl refl

-- where P does not rest on c, changing c moves nothing, at any setting
pub unmoved : (P : Setting → Bool) (cs : List ℕ) → Over cs P → (c : ℕ) → pre_rests_on P cs c ≡ false → (σ : Setting) (b : Bool) → P (put σ c b) ≡ P σ
unfolding pre_rests_on
unmoved P cs over c h σ b = go (either b (σ c))
  where
    s : Setting
    s = setting_of cs (number_of cs σ)

    as_σ : Agree cs s σ
    as_σ = setting_of_number_of cs σ

    go : (b ≡ σ c) ⊎ (b ≡ not (σ c)) → P (put σ c b) ≡ P σ
    go (inl e) = over (put σ c b) σ (put_idle cs σ c b e)
    go (inr e) =
        over (put σ c b) (flip s c) (put_agree cs σ s c b (not (s c)) (λ d m. sym (as_σ d m)) (λ m. e ∙ ap not (sym (as_σ c m))))
        ∙ sym (like (P s) (P (flip s c)) (any_below_none (moves P cs c) (2 ^ length cs) h (number_of cs σ) (number_of_below cs σ)))
        ∙ over s σ as_σ

-- a setting is led to τ, one condition after the other; a test that does not rest on a condition does not see the step
module _ (P : Setting → Bool) (cs : List ℕ) (over : Over cs P) (τ : Setting) where
  puts : List ℕ → Setting → Setting
  puts [] σ = σ
  puts (c ∷ l) σ = puts l (put σ c (τ c))

  towards : (σ : Setting) (c d : ℕ) → σ d ≡ τ d → put σ c (τ c) d ≡ τ d
  towards σ c d h = go (same? d c)
    where
      go : (d ≡ c) ⊎ (d ≡ c → ⊥) → put σ c (τ c) d ≡ τ d
      go (inl e) = put_same σ c (τ c) d e ∙ ap τ (sym e)
      go (inr n) = put_other σ c (τ c) d n ∙ h

  puts_keeps : (l : List ℕ) (σ : Setting) (d : ℕ) → σ d ≡ τ d → puts l σ d ≡ τ d
  unfolding puts
  puts_keeps [] σ d h = h
  puts_keeps (c ∷ l) σ d h = puts_keeps l (put σ c (τ c)) d (towards σ c d h)

  puts_all : (l : List ℕ) (σ : Setting) (d : ℕ) → d ∈ l → puts l σ d ≡ τ d
  unfolding puts
  puts_all [] σ d m = absurd m
  puts_all (c ∷ l) σ d (inl e) = puts_keeps l (put σ c (τ c)) d (put_same σ c (τ c) d e ∙ ap τ (sym e))
  puts_all (c ∷ l) σ d (inr m) = puts_all l (put σ c (τ c)) d m

  unseen : (l : List ℕ) (σ : Setting) → ((c : ℕ) → c ∈ l → pre_rests_on P cs c ≡ true → σ c ≡ τ c) → P (puts l σ) ≡ P σ
  unfolding puts
  unseen [] σ h = refl
  unseen (c ∷ l) σ h =
      unseen l (put σ c (τ c)) (λ d m r. towards σ c d (h d (inr m) r))
      ∙ split (pre_rests_on P cs c) (λ e. over (put σ c (τ c)) σ (put_idle cs σ c (τ c) (sym (h c (inl refl) e)))) (λ e. unmoved P cs over c e σ (τ c))

  -- two settings that give the conditions rested on the same bits are both in or both out
  pub pre_rests_right : (σ : Setting) → ((c : ℕ) → c ∈ cs → pre_rests_on P cs c ≡ true → σ c ≡ τ c) → P σ ≡ P τ
  pre_rests_right σ h = sym (unseen cs σ h) ∙ over (puts cs σ) τ (λ d m. puts_all cs σ d m)
