-- How many bytes are held: where no step takes a byte, no more than two parts are at hand; so it is after every piece.
use Rattle.std.specs.Prelude.{false, ◌⊎◌, ◌≡◌, refl, ℕ, zero, suc, ◌+◌, ◌≤◌, ◌<◌, eqb, leb, length, take}
use Rattle.std.proofs.Common.{true≢false, inl, inr, sym, ap, ◌∙◌, arith, length-drop, leb-true, leb-false}
use mathlib.Core.List.{List, [], ◌∷◌, ◌++◌, flatten}
use Rattle.base.specs.TestLaws.{split}
use Rattle.base.specs.Lists.{same}
use Rattle.base.specs.Numbers.{Bytes}
use Rattle.base.specs.NumberLaws.{number_small}
use Rattle.base.specs.ByteLaws.{bytes_drop, bytes_none, bytes_join, bytes_before, bytes_behind}
use Rattle.report.specs.declared.Sums.{Sums}
use Rattle.report.specs.declared.Progress.{Progress}
use Rattle.report.specs.declared.Progress.TheVariants.{Head, Entries, Stopped}
use Rattle.report.specs.Batch.{batch_mark, head_bytes, part_size, has_part, past_part, has_entry, entry_size}
use Rattle.report.specs.Steps.{Stepped, quiet, head_step, entry_step, step, Reader, reader, next, drain, emptied, emptied_times, feed, feed_all, start}
use Rattle.report.specs.Limits.{most_line}
use Rattle.report.specs.Bounds.{most_part, most_held}
use Rattle.report.specs.PartLaws.{part_whole, part_fits}
use Rattle.report.specs.StepLaws.{head_wrong, head_past}
use Rattle.report.specs.FeedLaws.{fed_rest}

-- where a part is not whole, fewer bytes are there than the longest has
part_short : (s : List ℕ) → Bytes s → has_part s ≡ false → length s < most_part
part_short s b h =
    split (leb 2 (length s))
    (λ l. split (leb (part_size s) (length s))
    (λ m. absurd (true≢false (sym (part_whole s (leb-true 2 (length s) l) (leb-true (part_size s) (length s) m)) ∙ h)))
    (λ m. omega (arith, leb-false (part_size s) (length s) m, number_small 2 s 0 b (leb-true 2 (length s) l))))
    (λ l. omega (arith, leb-false 2 (length s) l))

-- so where no entry is whole, fewer than the longest entry has
entry_short : (s : List ℕ) → Bytes s → has_entry s ≡ false → length s < most_held
unfolding has_entry
entry_short s b h =
    split (has_part s)
    (λ r. let l = part_short (past_part s) (bytes_drop s (part_size s) b) (rw r at h) in
    omega (arith, l, length-drop (part_size s) s, number_small 2 s 0 b (part_fits s r).0))
    (λ r. omega (arith, part_short s b r))

head_held : (s : List ℕ) → head_step s ≡ quiet Head 0 → (Head ≡ Stopped) ⊎ (length s < most_held)
head_held s e =
    split (leb head_bytes (length s))
    (λ h. split (same (take 5 s) batch_mark)
    (λ m. let z : head_bytes ≡ 0 = ap (λ (st : Stepped). st.taken) (sym (head_past s h m) ∙ e) in absurd (omega arith))
    (λ m. inl (ap (λ (st : Stepped). st.progress) (sym e ∙ head_wrong s h m))))
    (λ h. inr (omega (arith, leb-false head_bytes (length s) h)))

entries_held : (n : ℕ) (t : Sums) (s : List ℕ) → Bytes s → entry_step n t s ≡ quiet (Entries n t) 0 → (Entries n t ≡ Stopped) ⊎ (length s < most_held)
unfolding entry_step
entries_held zero t [] b e = inr (omega arith)
entries_held zero t (c ∷ s) b e = inl (ap (λ (st : Stepped). st.progress) (sym e))
entries_held (suc n) t s b e =
    split (has_entry s)
    (λ h. let z : entry_size s ≡ 0 = ap (λ (st : Stepped). st.taken) (rw h at e) in absurd (omega arith))
    (λ h. inr (entry_short s b h))

rest_short : (p : Progress) (s : List ℕ) → Bytes s → step p s ≡ quiet p 0 → (p ≡ Stopped) ⊎ (length s < most_held)
rest_short Head s b e = head_held s e
rest_short (Entries n t) s b e = entries_held n t s b e
rest_short Stopped s b e = inl refl

-- What is held are bytes.
drain_bytes : (n room : ℕ) (r : Reader) → Bytes r.held → Bytes (drain n room r).held
unfolding drain
drain_bytes zero room r b = b
drain_bytes (suc n) room r b =
    let more : Bytes (next r).held = bytes_drop r.held (step r.progress r.held).taken b in
    split (leb (length r.printed + most_line) room)
    (λ h. split (eqb (step r.progress r.held).taken 0) (λ z. rw (h, z) more) (λ z. rw (h, z) (drain_bytes n room (next r) more)))
    (λ h. rw h b)

times_bytes : (n room : ℕ) (r : Reader) → Bytes r.held → Bytes (emptied_times n room r).held
unfolding emptied_times
times_bytes zero room r b = b
times_bytes (suc n) room r b = times_bytes n room (emptied room r) (drain_bytes (suc (length r.held)) room (reader r.progress r.held []) b)

all_bytes : (room : ℕ) (r : Reader) (pieces : List (List ℕ)) → Bytes r.held → Bytes (flatten pieces) → Bytes (feed_all room r pieces).held
unfolding feed_all feed flatten
all_bytes room r [] b c = b
all_bytes room r (piece ∷ pieces) b c =
    all_bytes room (feed room r piece) pieces
    (times_bytes (length (r.held ++ piece) + 1) room (reader r.progress (r.held ++ piece) r.printed) (bytes_join r.held piece b (bytes_before piece (flatten pieces) c)))
    (bytes_behind piece (flatten pieces) c)

-- so few of them are, unless nothing that comes matters
pub fed_held : (room : ℕ) → most_line ≤ room → (pieces : List (List ℕ)) → Bytes (flatten pieces)
    → ((feed_all room start pieces).progress ≡ Stopped) ⊎ (length (feed_all room start pieces).held < most_held)
fed_held room enough pieces b =
    rest_short (feed_all room start pieces).progress (feed_all room start pieces).held (all_bytes room start pieces bytes_none b) (fed_rest room enough pieces)
