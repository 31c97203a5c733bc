-- The loop that writes the groups in order: each turn writes the first ready group, a circle leaves one unwritten, and at the end all are.
use Rattle.std.specs.Prelude.{ℕ, suc, ◌+◌, ◌-◌, ◌≤◌, ◌<◌, ◌≡◌, refl, true, false, cond, ◌⊎◌, eqb, length, get_or, set, Option, Some, None}
use Rattle.std.proofs.Common.{sym, ap, ◌∙◌, true≢false, inl, inr, arith, eq-eqb, ne_eqb}
use mathlib.Core.List.{List, [], ◌∷◌, reverse, reverse-cons}
use Rattle.std.proofs.Math.Option.{some}
use Rattle.std.proofs.lemmas.List.{length-reverse}
use Rattle.base.specs.Lists.{◌∈◌, elem}
use Rattle.base.specs.MemberLaws.{elem→∈, ∈→elem}
use Rattle.base.specs.TestLaws.{split, same?}
use Rattle.base.specs.Buffers.{over}
use Rattle.base.specs.BufferLaws.{over_nil, over_snoc}
use Rattle.base.specs.Settings.{Once}
use Rattle.circuit.specs.declared.GateId.{GateId}
use Rattle.plan.specs.Groups.{groups}
use Rattle.plan.specs.GroupLaws.{group_of_lem}
use Rattle.plan.specs.Order.{all_in, first_ready, schedule}
use Rattle.plan.specs.CircleLaws.{all_in_each, all_in_back}
use Rattle.plan.specs.OrderLaws.{found, none_left, stays, turn}
use Rattle.plan.proofs.CountLaws.{once_length, groups_once, groups_most}
use Rattle.base.specs.BitWords.{bit_in, strike_bit}
use Rattle.plan_order.specs.Search.{next_ready, as_next, place_of, Holding}
use Rattle.base.specs.BitWordLaws.{strike_words, strike_bit_lem}
use Rattle.plan_order.specs.HoldLaws.{holding_start, holding_search, holding_struck, SameElse}
use Rattle.plan_order.specs.SearchLaws.{as_none, as_some}
use Rattle.plan_order.specs.ReadyLaws.{Tabled, next_right}

-- done is written, the last first, k groups; held holds up the groups below `first`; what the order places from the start it places from here
pub record Placing (W : ℕ → List ℕ) (group : ℕ → ℕ) (n : ℕ) (waits order₀ order left held : List ℕ) (k first : ℕ) (done : List ℕ) : Type 0 where
  pub tabled : Tabled W group n waits left done
  pub once : Once done
  pub inside : (p : ℕ) → p ∈ done → p ∈ groups n group
  pub below : first ≤ n
  pub holding : Holding waits left held first
  pub counted : length done ≡ k
  pub same : schedule W (groups n group) (length (groups n group)) [] ≡ schedule W (groups n group) (length (groups n group) - k) done
  pub size : length order₀ ≡ 256
  pub written : order ≡ over (reverse done) order₀

module _ (W : ℕ → List ℕ) (group : ℕ → ℕ) (n : ℕ) (waits order₀ : List ℕ) where
  pub placing_start : (left held : List ℕ) → Tabled W group n waits left [] → length order₀ ≡ 256 → length held ≡ 256
      → Placing W group n waits order₀ order₀ left held 0 0 []
  placing_start left held t s e =
      record {
        tabled = t;
        once = tt;
        inside = λ p m. absurd m;
        below = omega arith;
        holding = holding_start waits left held e;
        counted = refl;
        same = let z : length (groups n group) ≡ length (groups n group) - 0 = omega arith in ap (λ (k : ℕ). schedule W (groups n group) k []) z;
        size = s;
        written = sym (over_nil order₀);
      }

  module _ (order left held : List ℕ) (k first : ℕ) (done : List ℕ) (s : Placing W group n waits order₀ order left held k first done) where
    first_of : (r : Option GateId) → r ≡ next_ready waits left first n → r ≡ as_next (first_ready W done (groups n group))
    first_of r e = e ∙ sym (holding_search waits left held first s.holding n s.below) ∙ next_right W group n waits left done s.tabled

    -- the next ready group is one that is not written: there is room for it
    module _ (p : GateId) (e : Some p ≡ next_ready waits left first n) where
      ready_group : first_ready W done (groups n group) ≡ some p.0
      ready_group = as_some (first_ready W done (groups n group)) p (first_of (Some p) e)

      new_group : (p.0 ∈ groups n group) × (elem p.0 done ≡ false)
      new_group = found W done (groups n group) p.0 ready_group

      new_once : Once (p.0 ∷ done)
      new_once = (λ m. true≢false (sym (∈→elem p.0 done m) ∙ new_group.1), s.once)

      new_inside : (q : ℕ) → q ∈ (p.0 ∷ done) → q ∈ groups n group
      new_inside q (inl f) = rw f new_group.0
      new_inside q (inr m) = s.inside q m

      fuel : k < length (groups n group)
      fuel = omega (arith, once_length (p.0 ∷ done) (groups n group) new_once new_inside, s.counted)

      pub placing_room : (p.0 < 256) × (k < 256)
      placing_room = (omega (arith, (group_of_lem n group p.0 new_group.0).0, s.tabled.room), omega (arith, fuel, groups_most n group, s.tabled.room))

      is : bit_in 0 left p.0 ≡ true
      is = s.tabled.remains p.0 placing_room.0 ∙ rw (new_group.1, ∈→elem p.0 (groups n group) new_group.0)

      still : (q : ℕ) → q < 256 → bit_in 0 (strike_bit p.0 left) q ≡ cond (elem q (p.0 ∷ done)) false (elem q (groups n group))
      still q l =
          strike_bit_lem left s.tabled.lefts.size p.0 placing_room.0 is q l ∙ rw (s.tabled.remains q l) (go (same? q p.0))
        where
          go : (q ≡ p.0) ⊎ (q ≡ p.0 → ⊥)
              → cond (eqb q p.0) false (cond (elem q done) false (elem q (groups n group))) ≡ cond (cond (eqb q p.0) true (elem q done)) false
              (elem q (groups n group))
          go (inl f) = rw (eq-eqb q p.0 f)
          go (inr f) = rw (ne_eqb q p.0 f)

      take : (order' left' held' : List ℕ) (first' : ℕ) → order' ≡ set order k p.0 → left' ≡ strike_bit p.0 left → first' ≤ n
          → Holding waits left' held' first' → Placing W group n waits order₀ order' left' held' (k + 1) first' (p.0 ∷ done)
      take order' left' held' first' f h a b =
          record {
            tabled = record {
              room = s.tabled.room;
              wide = s.tabled.wide;
              fits = s.tabled.fits;
              lefts = rw h (strike_words 4 p.0 left s.tabled.lefts);
              holds = s.tabled.holds;
              remains = λ q l. rw h (still q l);
              closed = s.tabled.closed;
            };
            once = new_once;
            inside = new_inside;
            below = a;
            holding = b;
            counted = let z : suc (length done) ≡ k + 1 = omega (arith, s.counted) in z;
            same = s.same ∙ again;
            size = s.size;
            written = f ∙ ap (λ (o : List ℕ). set o k p.0) s.written
                ∙ over_snoc (reverse done) order₀ k p.0 (length-reverse done ∙ s.counted) (omega (arith, s.size, placing_room.1))
                ∙ ap (λ (l : List ℕ). over l order₀) (sym (reverse-cons p.0 done));
          }
        where
          again : schedule W (groups n group) (length (groups n group) - k) done ≡ schedule W (groups n group) (length (groups n group) - (k + 1)) (p.0 ∷ done)
          again =
              let z : length (groups n group) - k ≡ suc (length (groups n group) - (k + 1)) = omega (arith, fuel) in
              rw z (turn W done (groups n group) (length (groups n group) - (k + 1)) p.0 ready_group)

      -- the search goes on at the lowest that it held up, or behind it
      pub placing_on : (order' left' held' fresh : List ℕ) (next : ℕ) (r : Option GateId) → r ≡ Some p → Holding waits left held' (place_of r n)
          → next ≤ get_or held' p.0 0 → next ≤ p.0 + 1 → order' ≡ set order k p.0 → left' ≡ strike_bit p.0 left → SameElse p.0 held' fresh
          → Placing W group n waits order₀ order' left' fresh (k + 1) next (p.0 ∷ done)
      placing_on order' left' held' fresh next r x a b c f h w =
          take order' left' fresh next f h (omega (arith, (group_of_lem n group p.0 new_group.0).0))
          (holding_struck waits left left' held' fresh p.0 next s.tabled.lefts.size placing_room.0 is (rw x at a) b c h w)

    -- no group is ready though not all are written: a circle remains
    pub placing_circle : None ≡ next_ready waits left first n → k < length (groups n group)
        → (schedule W (groups n group) (length (groups n group)) [] ≡ done) × (all_in (groups n group) done ≡ false)
    placing_circle e l = (
      s.same ∙ stays W done (groups n group) (length (groups n group) - k) (as_none (first_ready W done (groups n group)) (first_of None e)),
      split (all_in (groups n group) done)
          (λ t. absurd (omega (arith, l, s.counted, once_length (groups n group) done (groups_once n group) (all_in_each (groups n group) done t)))) (λ t. t),
    )

    -- as many as there are: every group is written
    pub placing_end : length (groups n group) ≤ k
        → (schedule W (groups n group) (length (groups n group)) [] ≡ done) × ((all_in (groups n group) done ≡ true) × (k ≡ length (groups n group)))
    placing_end l = (
      s.same ∙ stays W done (groups n group) (length (groups n group) - k) (none_left W done (groups n group) all),
      (
        all_in_back (groups n group) done all,
        omega (arith, s.counted, once_length done (groups n group) s.once s.inside),
      ),
    )
      where
        in_groups : (p : ℕ) → p ∈ groups n group → (q : ℕ) → q ∈ (p ∷ done) → q ∈ groups n group
        in_groups p m q (inl f) = rw f m
        in_groups p m q (inr i) = s.inside q i

        all : (p : ℕ) → p ∈ groups n group → p ∈ done
        all p m =
            split (elem p done) (elem→∈ p done)
            (λ f.
            let o : Once (p ∷ done) = (λ i. true≢false (sym (∈→elem p done i) ∙ f), s.once) in
            absurd (omega (arith, once_length (p ∷ done) (groups n group) o (in_groups p m), s.counted)))
