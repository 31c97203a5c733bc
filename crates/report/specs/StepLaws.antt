-- A step: what it printed and where it left the report make up the report, whatever bytes come; where none takes a byte, the last line is the report.
use Rattle.std.proofs.Math.Bool.{true}
use Rattle.std.specs.Prelude.{false, ◌≡◌, ◌⊎◌, length, take, drop}
use mathlib.Core.List.{List, [], ◌∷◌, ◌++◌}
use Rattle.std.proofs.Math.Path.{refl, ap}
use Rattle.std.proofs.Common.{sym, ◌∙◌, inl, inr, arith, length-drop}
use Prim.Native.Nat.{ℕ, zero, suc, ◌+◌, ◌≤◌, ◌<◌}
use Rattle.std.proofs.Math.Dec.{leb}
use Rattle.std.proofs.Math.ListN.{length-append}
use Rattle.std.proofs.lemmas.List.{take-append-le, drop-append-le}
use borrow.Author.Tests.{leb-true, le-leb}
use Rattle.base.specs.Lists.{same}
use Rattle.base.specs.TestLaws.{split}
use Rattle.report.specs.Line.{line_of}
use Rattle.report.specs.declared.Sums.{Sums}
use Rattle.report.specs.declared.Progress.{Progress}
use Rattle.report.specs.declared.Progress.TheVariants.{Head, Entries, Stopped}
use Rattle.report.specs.Batch.{batch_mark, head_bytes, headed, entries_counted, has_entry, entry_answer, entry_size, no_sums, plus, refused75, report_from, report_of}
use Rattle.report.specs.Steps.{Stepped, quiet, head_step, entry_step, step, ending}
use Rattle.report.specs.PartLaws.{number_more, entry_fits, entry_more, answer_more, past_entry_more}

-- the head, by cases
pub head_short : (s : List ℕ) → leb head_bytes (length s) ≡ false → head_step s ≡ quiet Head 0
unfolding head_step
head_short s h = rw h

pub head_wrong : (s : List ℕ) → leb head_bytes (length s) ≡ true → same (take 5 s) batch_mark ≡ false → head_step s ≡ quiet Stopped 0
unfolding head_step
head_wrong s h m = rw (h, m)

pub head_past : (s : List ℕ) → leb head_bytes (length s) ≡ true → same (take 5 s) batch_mark ≡ true → head_step s ≡ quiet (Entries (entries_counted s) no_sums) head_bytes
unfolding head_step
head_past s h m = rw (h, m)

-- an entry, by cases
pub entry_past : (n : ℕ) (t : Sums) (s : List ℕ) → has_entry s ≡ true
    → entry_step (suc n) t s ≡ record { progress = Entries n (plus t (entry_answer s)); taken = entry_size s; text = line_of (entry_answer s) }
unfolding entry_step
entry_past n t s h = rw h

pub entry_none : (n : ℕ) (t : Sums) (s : List ℕ) → has_entry s ≡ false → entry_step (suc n) t s ≡ quiet (Entries (suc n) t) 0
unfolding entry_step
entry_none n t s h = rw h

-- the report of the bytes that come, from some progress on; of a whole batch it is `report_of`
abbrev pub report : Progress → List ℕ → List ℕ
report Head s = report_of s
report (Entries n t) s = report_from n t s
report Stopped s = refused75

-- what a step makes of the report of the bytes s with x to come
abbrev pub Tells : Stepped → List ℕ → List ℕ → List ℕ → Type 0
Tells st s x whole = whole ≡ st.text ++ report st.progress (drop st.taken s ++ x)

module _ (x : List ℕ) where
  head_tells : (s : List ℕ) → Tells (head_step s) s x (report_of (s ++ x))
  unfolding report_of headed
  head_tells s =
      split (leb head_bytes (length s))
      (λ h.
      let l = leb-true head_bytes (length s) h in
      let long : leb head_bytes (length (s ++ x)) ≡ true = le-leb head_bytes (length (s ++ x)) (omega (arith, l, length-append s x)) in
      let front : same (take 5 (s ++ x)) batch_mark ≡ same (take 5 s) batch_mark = ap (λ (t : List ℕ). same t batch_mark) (take-append-le 5 s x (omega (arith, l))) in
      split (same (take 5 s) batch_mark)
      (λ m. rw (head_past s h m, long, front ∙ m)
      (ap (λ (n : ℕ). report_from n no_sums (drop head_bytes (s ++ x))) (number_more 2 5 s x l)
      ∙ ap (report_from (entries_counted s) no_sums) (drop-append-le head_bytes s x l)))
      (λ m. rw (head_wrong s h m, long, front ∙ m)))
      (λ h. rw (head_short s h))

  entry_tells : (n : ℕ) (t : Sums) (s : List ℕ) → Tells (entry_step n t s) s x (report_from n t (s ++ x))
  unfolding entry_step report_from
  entry_tells zero t [] = refl
  entry_tells zero t (b ∷ s) = refl
  entry_tells (suc n) t s = split (has_entry s) (λ h. rw (h, entry_more s x h, answer_more s x h, past_entry_more s x h)) (λ h. rw h)

  pub step_tells : (p : Progress) (s : List ℕ) → Tells (step p s) s x (report p (s ++ x))
  step_tells Head s = head_tells s
  step_tells (Entries n t) s = entry_tells n t s
  step_tells Stopped s = refl

-- Steps that end: each takes a byte or is the one that stops.

-- what is left to do: the bytes at hand, and one step more unless it has stopped
abbrev live : Progress → ℕ
live Head = 1
live (Entries n t) = 1
live Stopped = 0

abbrev pub to_do : Progress → List ℕ → ℕ
to_do p s = live p + length s

pub few_to_do : (p : Progress) (s : List ℕ) → to_do p s ≤ length s + 1
few_to_do Head s = omega arith
few_to_do (Entries n t) s = omega arith
few_to_do Stopped s = omega arith

-- no step takes a byte, or there is less to do after it
abbrev pub Moves : Progress → List ℕ → Stepped → Type 0
Moves p s st = (st ≡ quiet p 0) ⊎ (to_do st.progress (drop st.taken s) < to_do p s)

head_moves : (s : List ℕ) → Moves Head s (head_step s)
head_moves s =
    split (leb head_bytes (length s))
    (λ h. split (same (take 5 s) batch_mark)
    (λ m. rw (head_past s h m) (inr (omega (arith, leb-true head_bytes (length s) h, length-drop head_bytes s))))
    (λ m. rw (head_wrong s h m) (inr (omega arith))))
    (λ h. inl (head_short s h))

entry_moves : (n : ℕ) (t : Sums) (s : List ℕ) → Moves (Entries n t) s (entry_step n t s)
unfolding entry_step
entry_moves zero t [] = inl refl
entry_moves zero t (b ∷ s) = inr (omega arith)
entry_moves (suc n) t s =
    split (has_entry s) (λ h. rw h (inr (omega (arith, entry_fits s h, length-drop (entry_size s) s)))) (λ h. rw h (inl refl))

pub step_moves : (p : Progress) (s : List ℕ) → Moves p s (step p s)
step_moves Head s = head_moves s
step_moves (Entries n t) s = entry_moves n t s
step_moves Stopped s = inl refl

-- where no step takes a byte and none comes, the last line is the report
head_rests : (s : List ℕ) → head_step s ≡ quiet Head 0 → report_of s ≡ refused75
unfolding report_of headed
head_rests s e =
    split (leb head_bytes (length s))
    (λ h. split (same (take 5 s) batch_mark)
    (λ m. let z : head_bytes ≡ 0 = ap (λ (st : Stepped). st.taken) (sym (head_past s h m) ∙ e) in absurd (omega arith))
    (λ m. rw (h, m)))
    (λ h. rw h)

entries_rest : (n : ℕ) (t : Sums) (s : List ℕ) → entry_step n t s ≡ quiet (Entries n t) 0 → report_from n t s ≡ ending (Entries n t)
unfolding entry_step report_from ending
entries_rest zero t [] e = refl
entries_rest zero t (b ∷ s) e = let z : live Stopped ≡ live (Entries 0 t) = ap (λ (st : Stepped). live st.progress) e in absurd (omega arith)
entries_rest (suc n) t s e =
    split (has_entry s)
    (λ h. let z : entry_size s ≡ 0 = ap (λ (st : Stepped). st.taken) (rw h at e) in absurd (omega arith))
    (λ h. rw h)

pub rest_tells : (p : Progress) (s : List ℕ) → step p s ≡ quiet p 0 → report p s ≡ ending p
unfolding ending
rest_tells Head s e = head_rests s e
rest_tells (Entries n t) s e = entries_rest n t s e
rest_tells Stopped s e = refl

-- What a step takes: bytes that are there; where it takes none it prints none, and the next one changes nothing.
abbrev pub Orderly : Stepped → List ℕ → Type 0
Orderly st s = (st.taken ≤ length s) × (st.taken ≡ 0 → (st.text ≡ []) × (step st.progress s ≡ quiet st.progress 0))

head_orderly : (s : List ℕ) → Orderly (head_step s) s
head_orderly s =
    split (leb head_bytes (length s))
    (λ h. split (same (take 5 s) batch_mark)
    (λ m. rw (head_past s h m) (leb-true head_bytes (length s) h, λ z. absurd (omega (arith, z))))
    (λ m. rw (head_wrong s h m) (omega arith, λ z. (refl, refl))))
    (λ h. let e = head_short s h in rw e (omega arith, λ z. (refl, e)))

entry_orderly : (n : ℕ) (t : Sums) (s : List ℕ) → Orderly (entry_step n t s) s
unfolding entry_step
entry_orderly zero t [] = (omega arith, λ z. (refl, refl))
entry_orderly zero t (b ∷ s) = (omega arith, λ z. (refl, refl))
entry_orderly (suc n) t s =
    split (has_entry s)
    (λ h. rw h (entry_fits s h, λ z. absurd (omega (arith, z))))
    (λ h. let e = entry_none n t s h in rw h (omega arith, λ z. (refl, e)))

pub step_orderly : (p : Progress) (s : List ℕ) → Orderly (step p s) s
step_orderly Head s = head_orderly s
step_orderly (Entries n t) s = entry_orderly n t s
step_orderly Stopped s = (omega arith, λ z. (refl, refl))
