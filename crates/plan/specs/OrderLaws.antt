-- The order of writing: it places every group exactly when no group waits for itself by a chain of one or more waits;
-- what it places is in order, each group once. Over any table of waits.
use Rattle.std.specs.Prelude.{◌≡◌, refl, true, false, not, List, [], ◌∷◌, ◌⊎◌, ◌↔◌, ℕ, zero, suc, ◌≤◌, ◌<◌, eqb, length}
use Rattle.std.proofs.Common.{sym, ap, ◌∙◌, true≢false, inl, inr, ⊎_elim, arith, eq-eqb}
use Rattle.std.proofs.lemmas.Bool.{false≢true, not-true}
use Rattle.std.proofs.Math.Option.{Option, none, some}
use Rattle.base.specs.Lists.{◌∈◌, elem, keep}
use Rattle.base.specs.MemberLaws.{elem→∈, ∈→elem, keep_in, keep_from}
use Rattle.base.specs.TestLaws.{split}
use Rattle.base.specs.Settings.{Once}
use Rattle.plan.specs.Groups.{Chain, one, more}
use Rattle.plan.specs.Order.{ready, first_ready, schedule, Ordered}
use Rattle.plan.specs.CircleLaws.{circle, all_in_each, missing}

module _ (waits : ℕ → List ℕ) where
  -- P waits for Q by a chain
  abbrev Chained : ℕ → ℕ → Type 0
  Chained = Chain (λ p q. q ∈ waits p)

  chain_trans : (a b c : ℕ) → Chained a b → Chained b c → Chained a c
  chain_trans a b c (one h) k = more h k
  chain_trans a b c (more {q = q} h r) k = more h (chain_trans q b c r k)

  -- no circle among what is in order
  ordered_step : (done : List ℕ) → Ordered waits done → (p q : ℕ) → p ∈ done → q ∈ waits p → q ∈ done
  ordered_step [] o p q m h = absurd m
  ordered_step (d ∷ done) (f, o) p q (inl e) h = inr (f q (rw e at h))
  ordered_step (d ∷ done) (f, o) p q (inr m) h = inr (ordered_step done o p q m h)

  ordered_chain : (done : List ℕ) → Ordered waits done → (p q : ℕ) → p ∈ done → Chained p q → q ∈ done
  ordered_chain done o p q m (one h) = ordered_step done o p q m h
  ordered_chain done o p q m (more {q = r} h c) = ordered_chain done o r q (ordered_step done o p r m h) c

  pub ordered_no_circle : (done : List ℕ) → Ordered waits done → (p : ℕ) → p ∈ done → Chained p p → ⊥
  ordered_no_circle [] o p m c = m
  ordered_no_circle (d ∷ done) (f, o) p (inr m) c = ordered_no_circle done o p m c
  ordered_no_circle (d ∷ done) (f, o) p (inl e) c = ordered_no_circle done o p (go c) c
    where
      go : Chained p p → p ∈ done
      go (one h) = rw e (f d (rw e at h))
      go (more {q = r} h k) = ordered_chain done o r p (f r (rw e at h)) k

  first_some : (done l : List ℕ) (p : ℕ) → first_ready waits done l ≡ some p → (p ∈ l) × (ready waits done p ≡ true)
  first_some done [] p e = let z : ◌≡◌ {A = ℕ} 0 1 = cc in absurd (omega arith)
  first_some done (x ∷ l) p e =
      split (ready waits done x)
      (λ t. let s : x ≡ p = cc in (inl (sym s), rw s at t))
      (λ t. let r = first_some done l p (rw t at e) in (inr r.0, r.1))

  first_none : (done l : List ℕ) → first_ready waits done l ≡ none → (p : ℕ) → p ∈ l → ready waits done p ≡ false
  first_none done [] e p m = absurd m
  first_none done (x ∷ l) e p m =
      split (ready waits done x)
      (λ t. let z : ◌≡◌ {A = ℕ} 0 1 = cc in absurd (omega arith))
      (λ t. go t (first_none done l (rw t at e) p) m)
    where
      go : ready waits done x ≡ false → (p ∈ l → ready waits done p ≡ false) → p ∈ (x ∷ l) → ready waits done p ≡ false
      go t ih (inl q) = rw q t
      go t ih (inr k) = ih k

  ready_means : (done : List ℕ) (p : ℕ) → ready waits done p ≡ true → (elem p done ≡ false) × ((q : ℕ) → q ∈ waits p → q ∈ done)
  ready_means done p h =
      split (elem p done)
      (λ t. absurd (false≢true (rw t at h)))
      (λ t. (t, all_in_each (waits p) done (rw t at h)))

  unready_means : (done : List ℕ) (p : ℕ) → elem p done ≡ false → ready waits done p ≡ false → (q : ℕ) × (q ∈ waits p) × (elem q done ≡ false)
  unready_means done p t h = missing (waits p) done (rw t at h)

  -- a turn finds a group of the list, not yet written; none when all are written
  pub found : (done l : List ℕ) (p : ℕ) → first_ready waits done l ≡ some p → (p ∈ l) × (elem p done ≡ false)
  found done l p e = let r = first_some done l p e in (r.0, (ready_means done p r.1).0)

  pub none_left : (done l : List ℕ) → ((p : ℕ) → p ∈ l → p ∈ done) → first_ready waits done l ≡ none
  none_left done [] h = refl
  none_left done (x ∷ l) h = rw (∈→elem x done (h x (inl refl))) (none_left done l (λ p m. h p (inr m)))

  -- nothing ready: whatever turns are left, what is written stays
  pub stays : (done gs : List ℕ) (k : ℕ) → first_ready waits done gs ≡ none → schedule waits gs k done ≡ done
  stays done gs zero e = refl
  stays done gs (suc k) e = ap (λ (f : Option ℕ). elim f [ none ↦ done | some p ↦ schedule waits gs k (p ∷ done) ]) e

  pub turn : (done gs : List ℕ) (k p : ℕ) → first_ready waits done gs ≡ some p → schedule waits gs (suc k) done ≡ schedule waits gs k (p ∷ done)
  turn done gs k p e = ap (λ (f : Option ℕ). elim f [ none ↦ done | some q ↦ schedule waits gs k (q ∷ done) ]) e

  pub schedule_ordered : (gs : List ℕ) (k : ℕ) (done : List ℕ) → Ordered waits done → Ordered waits (schedule waits gs k done)
  schedule_ordered gs zero done o = o
  schedule_ordered gs (suc k) done o = go (first_ready waits done gs) refl (λ p. schedule_ordered gs k (p ∷ done))
    where
      go : (f : Option ℕ) → first_ready waits done gs ≡ f → ((p : ℕ) → Ordered waits (p ∷ done) → Ordered waits (schedule waits gs k (p ∷ done)))
          → Ordered waits (elim f [ none ↦ done | some p ↦ schedule waits gs k (p ∷ done) ])
      go none e ih = o
      go (some p) e ih = ih p ((ready_means done p (first_some done gs p e).1).1, o)

  -- every group is taken from gs, and once
  pub schedule_from : (gs : List ℕ) (k : ℕ) (done : List ℕ) → ((p : ℕ) → p ∈ done → p ∈ gs) → (p : ℕ) → p ∈ schedule waits gs k done → p ∈ gs
  schedule_from gs zero done sub p m = sub p m
  schedule_from gs (suc k) done sub p m = go (first_ready waits done gs) refl (λ d s. schedule_from gs k (d ∷ done) s p) m
    where
      add : (d : ℕ) → d ∈ gs → (q : ℕ) → q ∈ (d ∷ done) → q ∈ gs
      add d h q (inl e) = rw e h
      add d h q (inr j) = sub q j

      go : (f : Option ℕ) → first_ready waits done gs ≡ f → ((d : ℕ) → ((q : ℕ) → q ∈ (d ∷ done) → q ∈ gs) → p ∈ schedule waits gs k (d ∷ done) → p ∈ gs)
          → p ∈ elim f [ none ↦ done | some d ↦ schedule waits gs k (d ∷ done) ] → p ∈ gs
      go none e ih j = sub p j
      go (some d) e ih j = ih d (add d (first_some done gs d e).0) j

  pub schedule_once : (gs : List ℕ) (k : ℕ) (done : List ℕ) → Once done → Once (schedule waits gs k done)
  schedule_once gs zero done o = o
  schedule_once gs (suc k) done o = go (first_ready waits done gs) refl (λ p. schedule_once gs k (p ∷ done))
    where
      go : (f : Option ℕ) → first_ready waits done gs ≡ f → ((p : ℕ) → Once (p ∷ done) → Once (schedule waits gs k (p ∷ done)))
          → Once (elim f [ none ↦ done | some p ↦ schedule waits gs k (p ∷ done) ])
      go none e ih = o
      go (some p) e ih = ih p (λ m. true≢false (sym (∈→elem p done m) ∙ (ready_means done p (first_some done gs p e).1).0), o)

  -- what is left to write
  abbrev pub left : List ℕ → List ℕ → List ℕ
  left gs done = keep (λ p. not (elem p done)) gs

  module _ (gs : List ℕ) (closed : (p q : ℕ) → p ∈ gs → q ∈ waits p → q ∈ gs) where
    -- stuck: then some group waits in a circle
    stuck : (done : List ℕ) → first_ready waits done gs ≡ none → (p : ℕ) → p ∈ gs → elem p done ≡ false → (u : ℕ) × (u ∈ gs) × Chained u u
    stuck done e p m t =
        let c = circle Chained chain_trans (left gs done) next p (keep_in (λ z. not (elem z done)) gs p m (rw t)) in
        (c.0, (keep_from (λ z. not (elem z done)) gs c.0 c.1).0, c.2)
      where
        on : (z : ℕ) → z ∈ gs → (q : ℕ) × (q ∈ waits z) × (elem q done ≡ false) → (q : ℕ) × (q ∈ left gs done) × Chained z q
        on z zm (q, h, f) = (q, keep_in (λ y. not (elem y done)) gs q (closed z q zm h) (rw f), one h)

        next : (z : ℕ) → z ∈ left gs done → (q : ℕ) × (q ∈ left gs done) × Chained z q
        next z zm =
            let r = keep_from (λ y. not (elem y done)) gs z zm in
            on z r.0 (unready_means done z (not-true (elem z done) r.1) (first_none done gs e z r.0))

    left_le : (p : ℕ) (done l : List ℕ) → length (left l (p ∷ done)) ≤ length (left l done)
    left_le p done [] = omega arith
    left_le p done (x ∷ l) =
        let ih : length (left l (p ∷ done)) ≤ length (left l done) = left_le p done l in
        split (eqb x p)
        (λ e. split (elem x done) (λ t. rw (e, t) ih) (λ t. rw (e, t) (omega arith)))
        (λ e. split (elem x done) (λ t. rw (e, t) ih) (λ t. rw (e, t) (omega arith)))

    left_lt : (p : ℕ) (done l : List ℕ) → elem p done ≡ false → p ∈ l → length (left l (p ∷ done)) < length (left l done)
    left_lt p done [] f m = absurd m
    left_lt p done (x ∷ l) f (inl e) =
        let f' : elem x done ≡ false = rw e at f in
        rw (eq-eqb x p (sym e), f') (omega (arith, left_le p done l))
    left_lt p done (x ∷ l) f (inr m) =
        let ih : length (left l (p ∷ done)) < length (left l done) = left_lt p done l f m in
        split (eqb x p)
        (λ e. split (elem x done) (λ t. rw (e, t) ih) (λ t. rw (e, t) (omega arith)))
        (λ e. split (elem x done) (λ t. rw (e, t) ih) (λ t. rw (e, t) (omega arith)))

    all_written : (done : List ℕ) → length (left gs done) ≡ 0 → (p : ℕ) → p ∈ gs → p ∈ done
    all_written done h p m =
        split (elem p done) (elem→∈ p done) (λ t. absurd (omega (arith, some_length (left gs done) p (keep_in (λ z. not (elem z done)) gs p m (rw t)))))
      where
        some_length : (l : List ℕ) (a : ℕ) → a ∈ l → 0 < length l
        some_length [] a k = absurd k
        some_length (x ∷ l) a k = omega arith

    -- a group is placed, or some group waits in a circle
    places : (k : ℕ) (done : List ℕ) → length (left gs done) ≤ k → (p : ℕ) → p ∈ gs → (p ∈ schedule waits gs k done) ⊎ ((u : ℕ) × (u ∈ gs) × Chained u u)
    places zero done h p m = inl (all_written done (omega arith) p m)
    places (suc k) done h p m = go (first_ready waits done gs) refl (λ d l. places k (d ∷ done) l p m)
      where
        go : (f : Option ℕ) → first_ready waits done gs ≡ f
            → ((d : ℕ) → length (left gs (d ∷ done)) ≤ k → (p ∈ schedule waits gs k (d ∷ done)) ⊎ ((u : ℕ) × (u ∈ gs) × Chained u u))
            → (p ∈ elim f [ none ↦ done | some d ↦ schedule waits gs k (d ∷ done) ]) ⊎ ((u : ℕ) × (u ∈ gs) × Chained u u)
        go none e ih = split (elem p done) (λ t. inl (elem→∈ p done t)) (λ t. inr (stuck done e p m t))
        go (some d) e ih =
            let r = first_some done gs d e in
            ih d (omega (arith, left_lt d done gs (ready_means done d r.1).0 r.0))

    left_all : (l : List ℕ) → left l [] ≡ l
    left_all [] = refl
    left_all (x ∷ l) = ap (λ (r : List ℕ). x ∷ r) (left_all l)

    pub schedule_or : (p : ℕ) → p ∈ gs → (p ∈ schedule waits gs (length gs) []) ⊎ ((u : ℕ) × (u ∈ gs) × Chained u u)
    schedule_or = places (length gs) [] (rw left_all (omega arith))

    -- the order of writing places every group exactly when no group waits in a circle
    pub schedule_all : ((p : ℕ) → p ∈ gs → Chained p p → ⊥) ↔ ((p : ℕ) → p ∈ gs → p ∈ schedule waits gs (length gs) [])
    schedule_all = (
      λ free p m. ⊎_elim (λ x. x) (λ (u, k, c). absurd (free u k c)) (schedule_or p m),
      λ all p m c. ordered_no_circle (schedule waits gs (length gs) []) (schedule_ordered gs (length gs) [] tt) p (all p m) c,
    )
