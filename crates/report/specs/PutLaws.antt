-- Inner, for the writers: what a lent buffer holds after a digit, a number, some numbers, a line.
use Rattle.std.specs.Prelude.{◌≡◌, refl, List, [], ◌∷◌, ◌++◌, ℕ, ◌+◌, ◌-◌, ◌/◌, ◌%◌, ◌≤◌, ◌<◌, length, set, take, drop, get_or}
use Rattle.std.proofs.Common.{sym, ap, ◌∙◌, append_assoc, append-nil, add-one, arith, length-append, length-set, take-append-drop, take-suc, take_all}
use borrow.Rule.Slice.PartMut.{put_mid}
use Rattle.base.specs.Lists.{flat}
use Rattle.base.specs.ListLaws.{front}
use Rattle.base.specs.Buffers.{over}
use Rattle.base.specs.BufferLaws.{over_nil, length_over, take_over, sets_over, over_snoc, over_rest, room_rest}
use Rattle.report.specs.Line.{digit, decimal, spaced, line, put_over, put_count}
use Rattle.report.specs.DecimalLaws.{decimal_one, decimal_more, length_more}
use Rattle.report.specs.LineLaws.{length_spaced, put_fits}

-- one digit, and one more
pub put_one : (n : ℕ) (d : List ℕ) → n < 10 → length (decimal n) ≤ length d → (1 ≡ length (decimal n)) × (set d 0 (48 + n) ≡ over (decimal n) d)
put_one n d h room = rw (decimal_one n h) (refl, sets_over (digit n ∷ []) d (rw (decimal_one n h) at room))

pub put_more : (n k : ℕ) (d e : List ℕ) → 10 ≤ n → length (decimal n) ≤ length d → k ≡ length (decimal (n / 10)) → e ≡ over (decimal (n / 10)) d
    → (k + 1 ≡ length (decimal n)) × (set e k (48 + n % 10) ≡ over (decimal n) d)
put_more n k d e h room q p =
    let l = length_more n h in (
      omega arith,
      rw (p, decimal_more n h) (over_snoc (decimal (n / 10)) d k (digit (n % 10)) (sym q) (omega arith)),
    )

-- the digits find room behind the space
pub behind_room : (n : ℕ) (d : List ℕ) → length (spaced n) ≤ length d → length (decimal n) ≤ length (take (length (set d 0 32) - 1) (drop 1 (set d 0 32)))
behind_room n d h = rw (room_rest (set d 0 32) 1, length-set) (omega (arith, length_spaced n))

-- a number behind its space
pub put_behind : (n k : ℕ) (d ys : List ℕ) → length (spaced n) ≤ length d → k ≡ length (decimal n)
    → ys ≡ over (decimal n) (take (length (set d 0 32) - 1) (drop 1 (set d 0 32)))
    → (k + 1 ≡ length (spaced n)) × (put_mid 1 (length (set d 0 32) - 1) (set d 0 32) ys ≡ over (spaced n) d)
unfolding spaced
put_behind n k d ys room q w = (
  omega arith,
  over_rest (32 ∷ []) (decimal n) d (set d 0 32) ys 1 refl (omega arith) (sets_over (32 ∷ []) d (omega arith)) w,
)

-- joined lists of two runs
flat_append : (f : ℕ → List ℕ) (l m : List ℕ) → flat f (l ++ m) ≡ flat f l ++ flat f m
flat_append f [] m = refl
flat_append f (a ∷ l) m = ap (λ (r : List ℕ). f a ++ r) (flat_append f l m) ∙ sym (append_assoc (f a) (flat f l) (flat f m))

-- one number more
numbers_more : (l : List ℕ) (i : ℕ) → i < length l → flat spaced (take (i + 1) l) ≡ flat spaced (take i l) ++ spaced (get_or l i 0)
numbers_more l i h =
    ap (λ (k : ℕ). flat spaced (take k l)) (add-one i) ∙ ap (flat spaced) (take-suc l i 0 h)
    ∙ flat_append spaced (take i l) (get_or l i 0 ∷ []) ∙ ap (λ (r : List ℕ). flat spaced (take i l) ++ r) (append-nil (spaced (get_or l i 0)))

-- there is room for it
numbers_room : (l : List ℕ) (i : ℕ) → i < length l → length (flat spaced (take i l)) + length (spaced (get_or l i 0)) ≤ length (flat spaced l)
numbers_room l i h =
    let whole = ap (λ (r : List ℕ). length (flat spaced r)) (sym (take-append-drop (i + 1) l)) ∙ ap (λ (r : List ℕ). length r)
    (flat_append spaced (take (i + 1) l) (drop (i + 1) l)) ∙ length-append (flat spaced (take (i + 1) l)) (flat spaced (drop (i + 1) l)) in
    let front = ap (λ (r : List ℕ). length r) (numbers_more l i h) ∙ length-append (flat spaced (take i l)) (spaced (get_or l i 0)) in
    omega (arith, whole, front)

-- the first i numbers are written, up to the place at
pub record Numbered (numbers out out₀ : List ℕ) (at i : ℕ) : Type 0 where
  pub some : i ≤ length numbers
  pub room : length (flat spaced numbers) ≤ length out₀
  pub reached : at ≡ length (flat spaced (take i numbers))
  pub held : out ≡ over (flat spaced (take i numbers)) out₀

pub numbered_start : (numbers out : List ℕ) → length (flat spaced numbers) ≤ length out → Numbered numbers out out 0 0
numbered_start numbers out h = record { some = omega arith; room = h; reached = refl; held = sym (over_nil out) }

module _ (numbers out out₀ : List ℕ) (at i : ℕ) (l : Numbered numbers out out₀ at i) (h : i < length numbers) where
  reach : length (flat spaced (take i numbers)) + length (spaced (get_or numbers i 0)) ≤ length out₀
  reach = omega (arith, numbers_room numbers i h, l.room)

  -- the next number finds room in the rest
  pub numbered_length : length out ≡ length out₀
  numbered_length = ap (λ (o : List ℕ). length o) l.held ∙ length_over (flat spaced (take i numbers)) out₀ (omega (arith, reach))

  pub numbered_fits : at + length (spaced (get_or numbers i 0)) ≤ length out
  numbered_fits = omega (arith, reach, numbered_length, l.reached)

  pub numbered_room : length (spaced (get_or numbers i 0)) ≤ length (take (length out - at) (drop at out))
  numbered_room = rw (room_rest out at) (omega (arith, numbered_fits))

  -- and is written there
  pub numbered_step : (k : ℕ) (ys : List ℕ) → k ≡ length (spaced (get_or numbers i 0))
      → ys ≡ over (spaced (get_or numbers i 0)) (take (length out - at) (drop at out))
      → Numbered numbers (put_mid at (length out - at) out ys) out₀ (at + k) (i + 1)
  numbered_step k ys e w =
      record {
        some = omega arith;
        room = l.room;
        reached = rw (numbers_more numbers i h, length-append (flat spaced (take i numbers)) (spaced (get_or numbers i 0))) (omega (arith, l.reached, e));
        held = rw (numbers_more numbers i h) (over_rest (flat spaced (take i numbers)) (spaced (get_or numbers i 0)) out₀ out ys at l.reached reach l.held w);
      }

pub numbered_end : (numbers out out₀ : List ℕ) (at i : ℕ) → Numbered numbers out out₀ at i → length numbers ≤ i
    → (at ≡ length (flat spaced numbers)) × (out ≡ over (flat spaced numbers) out₀)
numbered_end numbers out out₀ at i l h =
    let p : flat spaced (take i numbers) ≡ flat spaced numbers = ap (flat spaced) (take_all i numbers h) in
    (l.reached ∙ ap (λ (b : List ℕ). length b) p, l.held ∙ ap (λ (b : List ℕ). over b out₀) p)

pub numbered_same : (numbers out out₀ : List ℕ) (at i : ℕ) → Numbered numbers out out₀ at i → length numbers ≤ i → length out ≡ length out₀
numbered_same numbers out out₀ at i l h =
    ap (λ (o : List ℕ). length o) (numbered_end numbers out out₀ at i l h).1 ∙ length_over (flat spaced numbers) out₀ l.room

-- what a copy leaves
copied : (text d e : List ℕ) → e ≡ take (length text) text ++ drop (length text) d → e ≡ over text d
unfolding over
copied text d e p = p ∙ ap (λ (t : List ℕ). t ++ drop (length text) d) (take_all (length text) text (omega arith))

-- a word is copied, and its numbers follow in the rest
module _ (word numbers d : List ℕ) (n : ℕ) (e : List ℕ) (room : length (word ++ flat spaced numbers) ≤ length d) (q : n ≡ length word)
    (p : e ≡ take (length word) word ++ drop (length word) d) where
  front_size : length (word ++ flat spaced numbers) ≡ n + length (flat spaced numbers)
  front_size = length-append word (flat spaced numbers) ∙ omega arith

  pub front_fits : n + length (flat spaced numbers) ≤ length e
  front_fits = omega (arith, front_size, ap (λ (o : List ℕ). length o) (copied word d e p) ∙ length_over word d (omega (arith, front_size)))

  pub front_room : length (flat spaced numbers) ≤ length (take (length e - n) (drop n e))
  front_room = rw (room_rest e n) (omega (arith, front_fits))

  module _ (k : ℕ) (ys : List ℕ) (r : k ≡ length (flat spaced numbers)) (w : ys ≡ over (flat spaced numbers) (take (length e - n) (drop n e))) where
    pub front_put : (n + k ≡ length (word ++ flat spaced numbers)) × (put_mid n (length e - n) e ys ≡ over (word ++ flat spaced numbers) d)
    front_put = (omega (arith, front_size), over_rest word (flat spaced numbers) d e ys n q (omega (arith, front_size)) (copied word d e p) w)

-- a line feed behind a text
pub ended : (text d e : List ℕ) (n : ℕ) → length text + 1 ≤ length d → n ≡ length text → e ≡ over text d
    → (n + 1 ≡ length (text ++ (10 ∷ []))) × (set e n 10 ≡ over (text ++ (10 ∷ [])) d)
ended text d e n h q p = (
  omega (arith, length-append text (10 ∷ [])),
  ap (λ (o : List ℕ). set o n 10) p ∙ over_snoc text d n 10 (sym q) (omega arith),
)

-- a line is a word and its numbers, and the line feed
pub line_ended : (word numbers : List ℕ) → (word ++ flat spaced numbers) ++ (10 ∷ []) ≡ line word numbers
unfolding line
line_ended word numbers = append_assoc word (flat spaced numbers) (10 ∷ [])

-- what a buffer of its own holds of a text that was written there
pub text_held : (text d e : List ℕ) (n : ℕ) → n ≡ length text → e ≡ over text d → take (n - 0) (drop 0 e) ≡ text
text_held text d e n q p = front n e ∙ ap (λ (k : ℕ). take k e) q ∙ ap (take (length text)) p ∙ take_over text d

-- text that was copied
pub text_put : (text d e : List ℕ) (n : ℕ) → length text ≤ length d → n ≡ length text → e ≡ take (length text) text ++ drop (length text) d
    → (n ≡ put_count text d) × (e ≡ put_over text d)
text_put text d e n h q p = (q ∙ sym (put_fits text d h).0, copied text d e p ∙ sym (put_fits text d h).1)
