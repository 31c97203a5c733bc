-- Laws for document 01, "Needed gates (000 Def. 4)": changing bit t alone of a setting's number changes condition t alone.
use Rattle.std.specs.Prelude.{◌≡◌, refl, not, List, [], ◌∷◌, ◌⊎◌, ℕ, zero, suc, ◌+◌, ◌*◌, ◌/◌, ◌<◌, eqb, length, get_or}
use Rattle.std.proofs.Common.{sym, ap, ◌∙◌, inl, inr, arith, eq-eqb, ne_eqb}
use Rattle.base.specs.Lists.{◌∈◌}
use Rattle.base.specs.MemberLaws.{get_or_in}
use Rattle.base.specs.TestLaws.{split, same?}
use Rattle.base.specs.Bits.{odd, bit_of, flip_bit}
use Rattle.base.specs.Settings.{setting_of, Agree, Once, flip}
use Rattle.base.specs.BitLaws.{half, odd_bit}
use Rattle.base.specs.BitFlipLaws.{flip_zero, flip_suc}

-- the setting whose number has bit t changed has the condition at place t changed
pub setting_of_flip : (cs : List ℕ) → Once cs → (t j : ℕ) → t < length cs → Agree cs (setting_of cs (flip_bit t j)) (flip (setting_of cs j) (get_or cs t 0))
setting_of_flip [] o t j h d m = absurd m
setting_of_flip (c ∷ cs) (new, o) zero j h d m =
    ap (λ (x : ℕ). setting_of (c ∷ cs) x d) (flip_zero j)
    ∙ rw (half, odd_bit (not (odd j)) (j / 2), eq-eqb c c refl) (split (eqb d c) (λ e. rw e) (λ e. rw e))
setting_of_flip (c ∷ cs) (new, o) (suc t) j h d m =
    ap (λ (x : ℕ). setting_of (c ∷ cs) x d) (flip_suc t j)
    ∙ go (same? d c) m (λ k. setting_of_flip cs o t (j / 2) (omega arith) d k)
  where
    e : ℕ
    e = get_or cs t 0

    apart : e ≡ c → ⊥
    apart q = new (rw q at (get_or_in cs t (omega arith)))

    go : (d ≡ c) ⊎ (d ≡ c → ⊥) → d ∈ (c ∷ cs) → (d ∈ cs → setting_of cs (flip_bit t (j / 2)) d ≡ flip (setting_of cs (j / 2)) e d)
        → setting_of (c ∷ cs) (bit_of (odd j) + 2 * flip_bit t (j / 2)) d ≡ flip (setting_of (c ∷ cs) j) e d
    go (inl q) k ih = rw (eq-eqb d c q, ne_eqb d e (λ z. apart (sym z ∙ q))) (odd_bit (odd j) (flip_bit t (j / 2)))
    go (inr q) (inl k) ih = absurd (q k)
    go (inr q) (inr k) ih = rw (ne_eqb d c q, ne_eqb e c apart, half) (ih k)
