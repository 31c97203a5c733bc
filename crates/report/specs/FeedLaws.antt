-- Feeding: in whatever pieces a batch comes, and whatever the buffer has room for, what is printed is its report.
use Rattle.std.specs.Prelude.{◌⊎◌, ◌≡◌, eqb, leb, length}
use mathlib.Core.List.{List, [], ◌∷◌, ◌++◌, append_assoc, append-nil, flatten}
use Rattle.std.proofs.Common.{inl, inr, sym, ◌∙◌, arith}
use Rattle.std.proofs.Math.Logic.{⊎_elim}
use Rattle.std.proofs.Math.Path.{refl, ap}
use Prim.Native.Nat.{ℕ, zero, suc, ◌+◌, ◌≤◌, ◌<◌}
use borrow.Author.Tests.{eq-eqb, ne_eqb, eqb-true, eqb-false, le-leb, lt-leb}
use Rattle.base.specs.TestLaws.{split}
use Rattle.report.specs.declared.Progress.TheVariants.{Stopped}
use Rattle.report.specs.Batch.{report_of}
use Rattle.report.specs.Steps.{Stepped, quiet, head_step, step, Reader, reader, next, drain, drained, emptied, emptied_times, feed, feed_all, start, fed, ending}
use Rattle.report.specs.Limits.{most_line}
use Rattle.report.specs.StepLaws.{report, step_tells, step_moves, step_orderly, rest_tells, to_do, few_to_do}

-- the steps at once, by cases
module _ (n room : ℕ) (r : Reader) where
  pub drain_no_room : room < length r.printed + most_line → drain (suc n) room r ≡ r
  unfolding drain
  drain_no_room h = rw (lt-leb _ _ h)

  pub drain_last : length r.printed + most_line ≤ room → (step r.progress r.held).taken ≡ 0 → drain (suc n) room r ≡ next r
  unfolding drain
  drain_last h z = rw (le-leb _ _ h, eq-eqb _ _ z)

  pub drain_on : length r.printed + most_line ≤ room → ((step r.progress r.held).taken ≡ 0 → ⊥) → drain (suc n) room r ≡ drain n room (next r)
  unfolding drain
  drain_on h z = rw (le-leb _ _ h, ne_eqb _ _ z)

-- what a reader has printed and what it will print, when x comes and nothing more
abbrev in_all : Reader → List ℕ → List ℕ
in_all r x = r.printed ++ report r.progress (r.held ++ x)

-- no step changes that
module _ (x : List ℕ) where
  next_same : (r : Reader) → in_all (next r) x ≡ in_all r x
  next_same r =
      append_assoc r.printed (step r.progress r.held).text _
      ∙ ap (λ (t : List ℕ). r.printed ++ t) (sym (step_tells x r.progress r.held))

  drain_same : (n room : ℕ) (r : Reader) → in_all (drain n room r) x ≡ in_all r x
  unfolding drain
  drain_same zero room r = refl
  drain_same (suc n) room r =
      split (leb (length r.printed + most_line) room)
      (λ h. split (eqb (step r.progress r.held).taken 0)
      (λ z. rw (h, z) (next_same r)) (λ z. rw (h, z) (drain_same n room (next r) ∙ next_same r)))
      (λ h. rw h)

  emptied_same : (room : ℕ) (r : Reader) → in_all (emptied room r) x ≡ in_all r x
  emptied_same room r =
      append_assoc r.printed (drained r.progress r.held room).printed _
      ∙ ap (λ (t : List ℕ). r.printed ++ t) (drain_same (suc (length r.held)) room (reader r.progress r.held []))

  times_same : (n room : ℕ) (r : Reader) → in_all (emptied_times n room r) x ≡ in_all r x
  unfolding emptied_times
  times_same zero room r = refl
  times_same (suc n) room r = times_same n room (emptied room r) ∙ emptied_same room r

  feed_same : (room : ℕ) (r : Reader) (piece : List ℕ) → in_all (feed room r piece) x ≡ in_all r (piece ++ x)
  unfolding feed
  feed_same room r piece =
      times_same (length (r.held ++ piece) + 1) room (reader r.progress (r.held ++ piece) r.printed)
      ∙ ap (λ (t : List ℕ). r.printed ++ report r.progress t) (append_assoc r.held piece x)

all_same : (room : ℕ) (r : Reader) (pieces : List (List ℕ)) (x : List ℕ) → in_all (feed_all room r pieces) x ≡ in_all r (flatten pieces ++ x)
unfolding feed_all flatten
all_same room r [] x = refl
all_same room r (piece ∷ pieces) x =
    all_same room (feed room r piece) pieces x ∙ feed_same (flatten pieces ++ x) room r piece ∙ ap (in_all r) (sym (append_assoc piece (flatten pieces) x))

-- it has taken every step that it can
abbrev pub Rested : Reader → Type 0
Rested r = step r.progress r.held ≡ quiet r.progress 0

-- what is left to do does not grow
next_less : (r : Reader) → to_do (next r).progress (next r).held ≤ to_do r.progress r.held
next_less r =
    ⊎_elim (λ e. rw e (omega arith)) (λ l. omega (arith, l)) (step_moves r.progress r.held)

drain_less : (n room : ℕ) (r : Reader) → to_do (drain n room r).progress (drain n room r).held ≤ to_do r.progress r.held
unfolding drain
drain_less zero room r = omega arith
drain_less (suc n) room r =
    split (leb (length r.printed + most_line) room)
    (λ h. split (eqb (step r.progress r.held).taken 0)
    (λ z. rw (h, z) (next_less r)) (λ z. rw (h, z) (omega (arith, drain_less n room (next r), next_less r))))
    (λ h. rw h (omega arith))

module _ (room : ℕ) (enough : most_line ≤ room) where
  -- where a line has room, there is less to do then, or every step is taken
  emptied_moves : (r : Reader) → Rested (emptied room r) ⊎ (to_do (emptied room r).progress (emptied room r).held < to_do r.progress r.held)
  emptied_moves r =
      let s = r.held in
      let p = r.progress in
      let n = length s in
      split (eqb (step p s).taken 0)
      (λ z. rw (drain_last n room (reader p s []) enough (eqb-true _ _ z)) (inl (rw (eqb-true (step p s).taken 0 z) ((step_orderly p s).1 (eqb-true _ _ z)).1)))
      (λ z. rw (drain_on n room (reader p s []) enough (eqb-false _ _ z))
      (⊎_elim
      (λ e. absurd (eqb-false _ _ z (ap (λ (st : Stepped). st.taken) e)))
      (λ l. inr (omega (arith, l, drain_less n room (next (reader p s [])))))
      (step_moves p s)))

  rested_emptied : (r : Reader) → Rested r → Rested (emptied room r)
  rested_emptied r h =
      rw (drain_last (length r.held) room (reader r.progress r.held []) enough (ap (λ (st : Stepped). st.taken) h)) (rw h h)

  rested_times : (n : ℕ) (r : Reader) → Rested r → Rested (emptied_times n room r)
  unfolding emptied_times
  rested_times zero r h = h
  rested_times (suc n) r h = rested_times n (emptied room r) (rested_emptied r h)

  times_rest : (n : ℕ) (r : Reader) → to_do r.progress r.held ≤ n → Rested (emptied_times n room r)
  unfolding emptied_times
  times_rest zero r h = ⊎_elim (λ e. e) (λ l. absurd (omega (arith, l, h))) (step_moves r.progress r.held)
  times_rest (suc n) r h =
      ⊎_elim (λ e. rested_times n (emptied room r) e) (λ l. times_rest n (emptied room r) (omega (arith, l, h))) (emptied_moves r)

  feed_rest : (r : Reader) (piece : List ℕ) → Rested (feed room r piece)
  unfolding feed
  feed_rest r piece = times_rest _ _ (few_to_do r.progress (r.held ++ piece))

  all_rest : (r : Reader) (pieces : List (List ℕ)) → Rested r → Rested (feed_all room r pieces)
  unfolding feed_all
  all_rest r [] h = h
  all_rest r (piece ∷ pieces) h = all_rest (feed room r piece) pieces (feed_rest r piece)

  pub fed_rest : (pieces : List (List ℕ)) → Rested (feed_all room start pieces)
  unfolding head_step
  fed_rest pieces = all_rest start pieces refl

  -- in any pieces
  pub fed_report : (pieces : List (List ℕ)) → fed room pieces ≡ report_of (flatten pieces)
  unfolding fed
  fed_report pieces =
      let r = feed_all room start pieces in
      ap (λ (t : List ℕ). r.printed ++ t) (sym (rest_tells r.progress r.held (fed_rest pieces)) ∙ ap (report r.progress) (sym (append-nil r.held)))
      ∙ all_same room start pieces [] ∙ ap report_of (append-nil (flatten pieces))

-- once a report has stopped, nothing that comes changes it
pub fed_stopped : (room : ℕ) (pieces : List (List ℕ)) → (feed_all room start pieces).progress ≡ Stopped → (x : List ℕ)
    → report_of (flatten pieces ++ x) ≡ fed room pieces
unfolding ending fed
fed_stopped room pieces h x =
    sym (all_same room start pieces x) ∙ rw h refl
