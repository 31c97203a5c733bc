-- Laws for document 01, "Needed gates (000 Def. 4)": what the bits of a set rest on is what its test rests on; settings beyond the conditions there are repeat the pattern.
use Rattle.std.specs.Prelude.{◌≡◌, refl, Bool, true, false, not, List, [], ◌∷◌, map, ℕ, zero, suc, ◌+◌, ◌/◌, ◌^◌, ◌≤◌, ◌<◌, length}
use Rattle.std.proofs.Common.{sym, ap, ◌∙◌, add-zero, arith, pow_mono}
use Rattle.std.proofs.Math.Nat.{zero-add}
use Rattle.std.proofs.Math.ListN.{get_or}
use Rattle.base.specs.Lists.{upto, keep, from}
use Rattle.base.specs.ListLaws.{length_from}
use Rattle.base.specs.MemberLaws.{from_below}
use Rattle.base.specs.TestLaws.{split, same_test}
use Rattle.base.specs.Bits.{odd, unlike, flip_bit}
use Rattle.base.specs.Settings.{Setting, setting_of, number_of, Agree, Over, flip, moves, any_below, pre_rests_on, pre_rests}
use Rattle.base.specs.Sets.{has, rests_on, rests}
use Rattle.base.specs.Holding.{Holds}
use Rattle.base.specs.BitLaws.{half, odd_bit}
use Rattle.base.specs.SettingListLaws.{get_or_upto, any_below_same, any_below_some, any_below_has, keep_none}
use Rattle.base.specs.SettingLaws.{place, setting_of_at, bit_number_of, put_agree, number_of_below, setting_of_number_of}
use Rattle.base.specs.BitFlipLaws.{flip_suc, flip_below}
use Rattle.base.specs.FlipLaws.{setting_of_flip}
use Rattle.base.specs.SetLaws.{rests_on_right}

-- whether P rests on c is the same over more settings than cs has: bits of j beyond the conditions say nothing
rests_more : (P : Setting → Bool) (cs : List ℕ) → Over cs P → (c N : ℕ) → 2 ^ length cs ≤ N → pre_rests_on P cs c ≡ any_below (moves P cs c) N
unfolding pre_rests_on
rests_more P cs over c N h = same_test (any_below (moves P cs c) (2 ^ length cs)) (any_below (moves P cs c) N) to back
  where
    to : any_below (moves P cs c) (2 ^ length cs) ≡ true → any_below (moves P cs c) N ≡ true
    to t = let r = any_below_some (moves P cs c) (2 ^ length cs) t in any_below_has (moves P cs c) N r.0 (omega (arith, r.1)) r.2

    low : (j : ℕ) → moves P cs c (number_of cs (setting_of cs j)) ≡ moves P cs c j
    low j =
        let same : Agree cs (setting_of cs (number_of cs (setting_of cs j))) (setting_of cs j) = setting_of_number_of cs (setting_of cs j) in
        rw (
          over (setting_of cs (number_of cs (setting_of cs j))) (setting_of cs j) same,
          over (flip (setting_of cs (number_of cs (setting_of cs j))) c) (flip (setting_of cs j) c) (put_agree cs _ _ c _ _ same (λ m. ap not (same c m))),
        )

    back : any_below (moves P cs c) N ≡ true → any_below (moves P cs c) (2 ^ length cs) ≡ true
    back t =
        let r = any_below_some (moves P cs c) N t in
        any_below_has (moves P cs c) (2 ^ length cs) (number_of cs (setting_of cs r.0)) (number_of_below cs (setting_of cs r.0)) (low r.0 ∙ r.2)

-- changing a bit beyond the conditions changes no setting
setting_of_beyond : (cs : List ℕ) (t j d : ℕ) → length cs ≤ t → setting_of cs (flip_bit t j) d ≡ setting_of cs j d
setting_of_beyond [] t j d h = refl
setting_of_beyond (c ∷ cs) zero j d h = absurd (omega arith)
setting_of_beyond (c ∷ cs) (suc t) j d h =
    ap (λ (x : ℕ). setting_of (c ∷ cs) x d) (flip_suc t j)
    ∙ rw (odd_bit (odd j) (flip_bit t (j / 2)), half (odd j) (flip_bit t (j / 2)), setting_of_beyond cs t (j / 2) d (omega arith))

-- the members of a list of conditions, and of their places, that pass the same test
keep_places : (f : ℕ → ℕ) (p q : ℕ → Bool) (l : List ℕ) (i n : ℕ) → length l ≤ n
    → ((k : ℕ) → k < length l → (f (i + k) ≡ get_or l k 0) × (p (get_or l k 0) ≡ q (i + k)))
    → ((t : ℕ) → i + length l ≤ t → t < i + n → q t ≡ false)
    → keep p l ≡ map f (keep q (from i n))
keep_places f p q [] i n h g e =
    ap (map f) (sym (keep_none q (from i n) (λ t m. let r : (i ≤ t) × (t < i + n) = from_below i n t m in e t (rw add-zero r.0) r.1)))
keep_places f p q (c ∷ l) i zero h g e = absurd (omega arith)
keep_places f p q (c ∷ l) i (suc n) h g e =
    let ih : keep p l ≡ map f (keep q (from (suc i) n)) =
    keep_places f p q l (suc i) n (omega arith)
    (λ k z. let w : i + suc k ≡ suc i + k = omega arith in rw w at (g (suc k) (omega arith)))
    (λ t z y. e t (omega arith) (omega arith)) in
    let first : (f i ≡ c) × (p c ≡ q i) = rw add-zero at (g 0 (omega arith)) in
    rw first.1 (split (q i) (λ y. rw (y, first.0, ih)) (λ y. rw (y, ih)))

module _ (n s : ℕ) (cs : List ℕ) (P : Setting → Bool) (H : Holds n s cs P) where
  -- P rests on the condition at place t exactly when its set of bits rests on t
  pub rests_bits : (t : ℕ) → t < length cs → pre_rests_on P cs (get_or cs t 0) ≡ rests_on n s t
  unfolding rests_on
  rests_bits t h =
      rests_more P cs H.over (get_or cs t 0) (2 ^ n) (pow_mono H.room)
      ∙ any_below_same (moves P cs (get_or cs t 0)) (λ j. unlike (has s j) (has s (flip_bit t j))) (2 ^ n)
      (λ j l. rw (
        H.holds j l,
        H.holds (flip_bit t j) (flip_below t n j (omega (arith, H.room)) l),
        H.over (setting_of cs (flip_bit t j)) (flip (setting_of cs j) (get_or cs t 0)) (setting_of_flip cs H.once t j h),
      ))

  -- a set rests on no condition beyond those there are
  pub rests_beyond : (t : ℕ) → length cs ≤ t → t < n → rests_on n s t ≡ false
  rests_beyond t h l =
      split (rests_on n s t)
      (λ e.
      let r = (rests_on_right n s t).0 e in
      absurd (r.2 (H.holds r.0 r.1
      ∙ H.over (setting_of cs r.0) (setting_of cs (flip_bit t r.0)) (λ d m. sym (setting_of_beyond cs t r.0 d h))
      ∙ sym (H.holds (flip_bit t r.0) (flip_below t n r.0 l r.1)))))
      (λ e. e)

  -- the condition gates that P rests on are those at the places that its set rests on, in the same order
  pub rests_places : pre_rests P cs ≡ map (λ t. get_or cs t 0) (rests n s)
  unfolding rests
  rests_places =
      keep_places (λ t. get_or cs t 0) (pre_rests_on P cs) (rests_on n s) cs 0 n H.room
      (λ k l. rw zero-add (refl, rests_bits k l))
      (λ t l y. rests_beyond t (rw zero-add at l) (rw zero-add at y))

  -- the set has the number of a setting of the condition gates exactly when the setting passes P
  pub holds_number : (σ : Setting) → has s (number_of (upto n) (λ t. σ (get_or cs t 0))) ≡ P σ
  holds_number σ =
      H.holds (number_of (upto n) τ) (rw (length_from 0 n) at (number_of_below (upto n) τ))
      ∙ H.over (setting_of cs (number_of (upto n) τ)) σ (λ d m. agree d (place cs d m))
    where
      τ : Setting
      τ t = σ (get_or cs t 0)

      agree : (d : ℕ) → (t : ℕ) × (t < length cs) × (d ≡ get_or cs t 0) → setting_of cs (number_of (upto n) τ) d ≡ σ d
      agree d (t, l, e) =
          let u : t < n = omega (arith, H.room) in
          ap (setting_of cs (number_of (upto n) τ)) e
          ∙ setting_of_at cs H.once (number_of (upto n) τ) t l
          ∙ bit_number_of (upto n) τ t (rw (length_from 0 n) u)
          ∙ ap τ (get_or_upto n t u)
          ∙ ap σ (sym e)
