-- A buffer filled piece by piece, each in the rest that is handed on: every piece finds room, and at the end the buffer has all pieces, joined, over what it held.
use Rattle.std.specs.Prelude.{ℕ, zero, suc, ◌+◌, ◌-◌, ◌≤◌, ◌<◌, ◌≡◌, refl, List, [], ◌++◌, ◌⊎◌, length, take, drop}
use Rattle.std.proofs.Common.{sym, ap, ◌∙◌, append_assoc, append-nil, inl, inr, arith, length-append}
use borrow.Rule.Slice.PartMut.{put_mid}
use Rattle.base.specs.TestLaws.{same?}
use Rattle.base.specs.Buffers.{over}
use Rattle.base.specs.BufferLaws.{over_nil, length_over, over_rest, room_rest}

-- the first n pieces, joined
unfoldable pub pieces : (ℕ → List ℕ) → ℕ → List ℕ
pieces f zero = []
pieces f (suc n) = pieces f n ++ f n

pub pieces_none : (f : ℕ → List ℕ) → pieces f 0 ≡ []
unfolding pieces
pieces_none f = refl

pub pieces_next : (f : ℕ → List ℕ) (n : ℕ) → pieces f (suc n) ≡ pieces f n ++ f n
unfolding pieces
pieces_next f n = refl

pub pieces_more : (f : ℕ → List ℕ) (i : ℕ) → pieces f (i + 1) ≡ pieces f i ++ f i
pieces_more f i = let e : i + 1 ≡ suc i = omega arith in rw e (pieces_next f i)

-- the first piece, then the others
pub pieces_first : (f : ℕ → List ℕ) (n : ℕ) → pieces f (suc n) ≡ f 0 ++ pieces (λ i. f (suc i)) n
unfolding pieces
pieces_first f zero = sym (append-nil (f 0))
pieces_first f (suc n) = rw (pieces_first f n) (append_assoc (f 0) (pieces (λ i. f (suc i)) n) (f (suc n)))

-- the same pieces
pub pieces_same : (f h : ℕ → List ℕ) (n : ℕ) → ((i : ℕ) → i < n → f i ≡ h i) → pieces f n ≡ pieces h n
unfolding pieces
pieces_same f h zero e = refl
pieces_same f h (suc n) e = rw (pieces_same f h n (λ i l. e i (omega arith)), e n (omega arith))

-- there is room for piece i behind those before it
pub pieces_room : (f : ℕ → List ℕ) (n i : ℕ) → i < n → length (pieces f i) + length (f i) ≤ length (pieces f n)
unfolding pieces
pieces_room f zero i h = absurd (omega arith)
pieces_room f (suc n) i h = rw (length-append (pieces f n) (f n)) (go (same? i n) (λ l. pieces_room f n i l))
  where
    go : (i ≡ n) ⊎ (i ≡ n → ⊥) → (i < n → length (pieces f i) + length (f i) ≤ length (pieces f n)) → length (pieces f i) + length (f i) ≤ length (pieces f n) + length
        (f n)
    go (inl e) ih = rw e (omega arith)
    go (inr m) ih = omega (arith, ih (omega arith))

-- loop invariant: i pieces of n are written
pub record Filling (f : ℕ → List ℕ) (out out₀ : List ℕ) (n at i : ℕ) : Type 0 where
  pub below : i ≤ n
  pub room : length (pieces f n) ≤ length out₀
  pub reached : at ≡ length (pieces f i)
  pub held : out ≡ over (pieces f i) out₀

pub filling_start : (f : ℕ → List ℕ) (out : List ℕ) (n : ℕ) → length (pieces f n) ≤ length out → Filling f out out n 0 0
unfolding pieces
filling_start f out n h = record { below = omega arith; room = h; reached = refl; held = sym (over_nil out) }

module _ (f : ℕ → List ℕ) (out out₀ : List ℕ) (n at i : ℕ) (l : Filling f out out₀ n at i) (h : i < n) where
  reach : length (pieces f i) + length (f i) ≤ length out₀
  reach = omega (arith, pieces_room f n i h, l.room)

  -- the buffer keeps its length, and the next piece finds room in its rest
  pub filling_length : length out ≡ length out₀
  filling_length = ap (λ (o : List ℕ). length o) l.held ∙ length_over (pieces f i) out₀ (omega (arith, reach))

  pub filling_fits : at + length (f i) ≤ length out
  filling_fits = omega (arith, reach, filling_length, l.reached)

  pub filling_room : length (f i) ≤ length (take (length out - at) (drop at out))
  filling_room = rw (room_rest out at) (omega (arith, filling_fits))

  -- the next piece is written there
  pub filling_step : (k : ℕ) (ys : List ℕ) → k ≡ length (f i) → ys ≡ over (f i) (take (length out - at) (drop at out))
      → Filling f (put_mid at (length out - at) out ys) out₀ n (at + k) (i + 1)
  filling_step k ys e w =
      record {
        below = omega arith;
        room = l.room;
        reached = rw (pieces_more f i, length-append (pieces f i) (f i)) (omega (arith, l.reached, e));
        held = rw (pieces_more f i) (over_rest (pieces f i) (f i) out₀ out ys at l.reached reach l.held w);
      }

pub filling_end : (f : ℕ → List ℕ) (out out₀ : List ℕ) (n at i : ℕ) → Filling f out out₀ n at i → n ≤ i
    → (at ≡ length (pieces f n)) × (out ≡ over (pieces f n) out₀)
filling_end f out out₀ n at i l h =
    let e : i ≡ n = omega (arith, l.below) in
    let p : pieces f i ≡ pieces f n = ap (pieces f) e in
    (l.reached ∙ ap (λ (b : List ℕ). length b) p, l.held ∙ ap (λ (b : List ℕ). over b out₀) p)

-- a filled buffer has its length
pub filling_same : (f : ℕ → List ℕ) (out out₀ : List ℕ) (n at i : ℕ) → Filling f out out₀ n at i → n ≤ i → length out ≡ length out₀
filling_same f out out₀ n at i l h = ap (λ (o : List ℕ). length o) (filling_end f out out₀ n at i l h).1 ∙ length_over (pieces f n) out₀ l.room
