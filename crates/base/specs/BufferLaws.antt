-- What a lent buffer or an array holds after stores, and after its rest was handed on: a list written over its start (`over`), or a list and zeros (`padded`).
use Rattle.std.specs.Prelude.{◌≡◌, refl, List, [], ◌∷◌, ◌++◌, ℕ, zero, suc, ◌+◌, ◌-◌, ◌≤◌, ◌<◌, length, take, drop, get_or, set, replicate}
use Rattle.std.proofs.Common.{sym, ap, ◌∙◌, append_assoc, append-nil, zero-add, add-one, arith, length-append, length-take, length-drop, take-suc, length-take-le, take_at, drop_at}
use Rattle.std.proofs.Common.{drop-drop, drop-cons, take_all}
use Rattle.std.proofs.lemmas.List.{length-replicate, set_at}
use Rattle.std.proofs.Math.ListN.{get_or-append}
use Rattle.std.proofs.lemmas.List.Edits.{sets, sets-eq}
use Rattle.std.proofs.Math.Seq.{take-append_seam, drop-append_seam, take-length, drop-length}
use borrow.Rule.Slice.PartMut.{put_mid}
use Rattle.base.specs.Buffers.{over, padded}
use Rattle.base.specs.ListLaws.{get_or_zeros}

-- nothing written
pub over_nil : (d : List ℕ) → over [] d ≡ d
unfolding over
over_nil d = refl

-- a buffer keeps its length
pub length_over : (a d : List ℕ) → length a ≤ length d → length (over a d) ≡ length d
unfolding over
length_over a d h = simp (length-append, length-drop) (omega arith)

-- what is written, and what is left
pub take_over : (a d : List ℕ) → take (length a) (over a d) ≡ a
unfolding over
take_over a d = take-append_seam a (drop (length a) d)

pub drop_over : (a d : List ℕ) → drop (length a) (over a d) ≡ drop (length a) d
unfolding over
drop_over a d = drop-append_seam a (drop (length a) d)

pub over_at : (a d : List ℕ) (i : ℕ) → i < length a → get_or (over a d) i 0 ≡ get_or a i 0
unfolding over
over_at a d i h = get_or-append a (drop (length a) d) 0 i h

-- a run of stores from the start
pub sets_over : (vs d : List ℕ) → length vs ≤ length d → sets d 0 vs ≡ over vs d
unfolding over
sets_over vs d h = sets-eq vs d 0 (rw zero-add h) ∙ rw zero-add

-- one store behind what is written
pub over_snoc : (bs d : List ℕ) (i v : ℕ) → length bs ≡ i → i < length d → set (over bs d) i v ≡ over (bs ++ (v ∷ [])) d
unfolding over
over_snoc bs d i v e h =
    rw (e, drop-cons d i 0, set_at bs _ _ v i e, append_assoc, length-append, e, add-one)

-- how much room there is in it
pub room_rest : (e : List ℕ) (n : ℕ) → length (take (length e - n) (drop n e)) ≡ length e - n
room_rest e n = simp (length-take, length-drop) (omega arith)

-- The caller has written a, lends the rest from n on, and the callee writes b there:
-- the caller's buffer, `put_mid n (length e - n) e ys` when ys is back, is d with a and then b.
pub over_rest : (a b d e ys : List ℕ) (n : ℕ) → n ≡ length a → length a + length b ≤ length d
    → e ≡ over a d → ys ≡ over b (take (length e - n) (drop n e)) → put_mid n (length e - n) e ys ≡ over (a ++ b) d
unfolding over
over_rest a b d e ys n q h p r =
    let t : take n (a ++ drop (length a) d) ≡ a = take_at a (drop (length a) d) n (sym q) in
    let u : drop n (a ++ drop (length a) d) ≡ drop (length a) d = drop_at a (drop (length a) d) n (sym q) in
    let l : length (a ++ drop (length a) d) - n ≡ length (drop (length a) d) = simp (length-append, length-drop) (omega arith) in
    rw (r, p, l, t, u, take-length, drop-length, append-nil) (simp (append_assoc, drop-drop, length-append))

-- one more of what is copied
pub copy_more : (from d : List ℕ) (i : ℕ) → i < length from → length from ≤ length d
    → set (over (take i from) d) i (get_or from i 0) ≡ over (take (i + 1) from) d
copy_more from d i h l =
    over_snoc (take i from) d i (get_or from i 0) (length-take-le i from (omega arith)) (omega arith)
    ∙ ap (λ (t : List ℕ). over t d) (sym (ap (λ (k : ℕ). take k from) (add-one i) ∙ take-suc from i 0 h))

-- all of it
pub copy_all : (from d : List ℕ) (i : ℕ) → length from ≤ i → over (take i from) d ≡ over from d
copy_all from d i h = ap (λ (t : List ℕ). over t d) (take_all i from h)

zeros_after : (l : List ℕ) (n i : ℕ) → get_or (l ++ replicate n 0) i 0 ≡ get_or l i 0
zeros_after [] n i = get_or_zeros n i
zeros_after (a ∷ l) n zero = refl
zeros_after (a ∷ l) n (suc i) = zeros_after l n i

pub padded_at : (room : ℕ) (l : List ℕ) (i : ℕ) → get_or (padded room l) i 0 ≡ get_or l i 0
padded_at room l i = zeros_after l (room - length l) i

pub padded_length : (room : ℕ) (l : List ℕ) → length l ≤ room → length (padded room l) ≡ room
padded_length room l h = rw (length-append, length-replicate {A = ℕ} (room - length l) 0) (omega arith)

-- one store behind a list that lies in an array
pub padded_more : (room : ℕ) (l : List ℕ) (i v : ℕ) → length l ≡ i → i < room → set (padded room l) i v ≡ padded room (l ++ (v ∷ []))
padded_more room l i v e h =
    let more : length (l ++ (v ∷ [])) ≡ length l + 1 = length-append l (v ∷ []) in
    let n : room - length l ≡ suc (room - length (l ++ (v ∷ []))) = omega arith in
    ap (λ (k : ℕ). set (l ++ replicate k 0) i v) n
    ∙ set_at l 0 (replicate (room - length (l ++ (v ∷ []))) 0) v i e
    ∙ sym (append_assoc l (v ∷ []) (replicate (room - length (l ++ (v ∷ []))) 0))
