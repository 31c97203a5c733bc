-- A step: the code's tests tell whether a part or an entry is whole, the parts that it lends are the entry's rule and plan, and what it did is what the definition's step does.
use Rattle.std.specs.Prelude.{Bool, true, false, Some, None, List, [], ◌∷◌, ◌≡◌, refl, ℕ, zero, suc, ◌+◌, ◌-◌, ◌≤◌, ◌<◌, length, take, drop}
use Rattle.std.proofs.Common.{sym, ap, ◌∙◌, length-drop, take_all, drop-drop, le-leb}
use native.Mathlib.Omega.{arith}
use Rattle.std.proofs.lemmas.Bool.{lt-leb}
use Rattle.std.specs.Bool.{then_some}
use Rattle.base.specs.Numbers.{number_at}
use Rattle.base.specs.BufferLaws.{over_nil}
use Rattle.base.specs.declared.Answer.{Answer}
use Rattle.fused.specs.Answers.{fused_answer}
use Rattle.report.specs.Line.{line_of, put_over, put_count}
use Rattle.report.specs.LineLaws.{put_fits}
use Rattle.report.specs.declared.Sums.{Sums}
use Rattle.report.specs.declared.Progress.{Progress}
use Rattle.report.specs.declared.Progress.TheVariants.{Entries, Stopped}
use Rattle.report.specs.declared.Taken.{Taken}
use Rattle.report.specs.Batch.{part_size, has_part, part_of, past_part, has_entry, entry_answer, entry_size, plus, refused75, total_of}
use Rattle.report.specs.Steps.{Stepped, quiet, entry_step, ending}
use Rattle.report.specs.Bounds.{Sized, Within, Nears, most_held, most_wanted}
use Rattle.report.specs.Promised.{took, Quiet, Does}
use Rattle.report.specs.StepLaws.{entry_past, entry_none}
use Rattle.report.specs.BoundLaws.{plus_sized, entry_costs}

-- a part that is not whole: its length is not, or its bytes are not
pub unmeasured : (s : List ℕ) → length s < 2 → has_part s ≡ false
unfolding has_part
unmeasured s h = rw (lt-leb 2 (length s) h)

pub cut_short : (s : List ℕ) → 2 ≤ length s → length s < part_size s → has_part s ≡ false
unfolding has_part
cut_short s h l = rw (le-leb 2 (length s) h, lt-leb (part_size s) (length s) l)

-- what the code has of a part or of an entry: none where it is not whole
module _ {T : Type 0} where
  pub none_cut : (b : Bool) (x : T) → None ≡ then_some b x → b ≡ false
  none_cut false x e = refl
  none_cut true x e = cc

  pub some_whole : (b : Bool) (x y : T) → Some y ≡ then_some b x → (b ≡ true) × (y ≡ x)
  some_whole true x y e = (refl, cc)
  some_whole false x y e = cc

-- the rest behind n bytes, as it is lent
pub rest_lent : (s : List ℕ) (n : ℕ) → take (length s - n) (drop n s) ≡ drop n s
rest_lent s n = take_all (length s - n) (drop n s) (rw (length-drop n s) (omega arith))

pub plan_behind : (s : List ℕ) (r : ℕ) → r ≡ part_size s → take (length s - r) (drop r s) ≡ past_part s
plan_behind s r e = rest_lent s r ∙ ap (λ (n : ℕ). drop n s) e

-- an entry that is not whole
pub rule_missing : (s : List ℕ) → has_part s ≡ false → has_entry s ≡ false
unfolding has_entry
rule_missing s h = rw h

pub plan_missing : (s : List ℕ) → has_part s ≡ true → has_part (past_part s) ≡ false → has_entry s ≡ false
unfolding has_entry
plan_missing s h p = rw (h, p)

pub both_whole : (s : List ℕ) → has_part s ≡ true → has_part (past_part s) ≡ true → has_entry s ≡ true
unfolding has_entry
both_whole s h p = rw (h, p)

-- its two parts, as they are lent
pub rule_lent : (s : List ℕ) → take (part_size s - 2) (drop 2 s) ≡ part_of s
rule_lent s = let e : part_size s - 2 ≡ number_at 2 s 0 = omega arith in ap (λ (n : ℕ). take n (drop 2 s)) e

pub plan_lent : (s : List ℕ) → take (part_size s + part_size (past_part s) - (part_size s + 2)) (drop (part_size s + 2) s) ≡ part_of (past_part s)
plan_lent s =
    let e : part_size s + part_size (past_part s) - (part_size s + 2) ≡ number_at 2 (past_part s) 0 = omega arith in
    ap (λ (n : ℕ). take n (drop (part_size s + 2) s)) e ∙ ap (take (number_at 2 (past_part s) 0)) (sym (drop-drop 2 (part_size s) s))

-- the end of a batch
pub end_none : (t : Sums) (s : List ℕ) → length s ≡ 0 → entry_step 0 t s ≡ quiet (Entries 0 t) 0
unfolding entry_step
end_none t [] h = refl
end_none t (b ∷ s) h = absurd (omega arith)

pub end_left : (t : Sums) (s : List ℕ) → (length s ≡ 0 → ⊥) → entry_step 0 t s ≡ quiet Stopped 0
unfolding entry_step
end_left t [] h = absurd (h refl)
end_left t (b ∷ s) h = refl

-- what is promised of a step that prints nothing
pub quiet_took : (st : Stepped) (p : Progress) (n : ℕ) (r : Taken) → st ≡ quiet p n → r ≡ took p n → Quiet st r
quiet_took st p n r e f = rw f (e, refl)

pub same_nears : (p : Progress) (r : Taken) → r ≡ took p 0 → Nears p r
same_nears p r f = rw f (omega arith, λ z. absurd (z refl))

pub stop_nears : (p : Progress) (r : Taken) → r ≡ took Stopped 0 → Nears p r
unfolding most_wanted
stop_nears p r f = rw f (omega arith, λ z. absurd (z refl))

pub quiet_does : (st : Stepped) (r : Taken) (d : List ℕ) → Quiet st r → Does st r d d
quiet_does st r d (e, z) = rw e (record { is = refl; room = omega arith; counted = z; written = sym (over_nil d) })

-- the last line in a buffer
pub last_line : (p : Progress) (text d e : List ℕ) (n : ℕ) → ending p ≡ text → (n ≡ put_count text d) × (e ≡ put_over text d)
    → (n ≡ put_count (ending p) d) × (e ≡ put_over (ending p) d)
last_line p text d e n h w = rw h w

pub total_last : (n : ℕ) (t : Sums) → n ≡ 0 → ending (Entries n t) ≡ total_of t
unfolding ending
total_last zero t h = refl
total_last (suc n) t h = absurd (omega arith)

pub missing_last : (n : ℕ) (t : Sums) → (n ≡ 0 → ⊥) → ending (Entries n t) ≡ refused75
unfolding ending
missing_last zero t h = absurd (h refl)
missing_last (suc n) t h = refl

-- an entry is taken, or none is
module _ (n : ℕ) (t : Sums) (s : List ℕ) (some : 1 ≤ n) where
  pub entry_waits : has_entry s ≡ false → entry_step n t s ≡ quiet (Entries n t) 0
  entry_waits h = let e : n ≡ suc (n - 1) = omega arith in rw e (entry_none (n - 1) t s h)

  pub entry_taken : has_entry s ≡ true → entry_step n t s ≡ record { progress = Entries (n - 1) (plus t (entry_answer s)); taken = entry_size s; text = line_of (entry_answer s) }
  entry_taken h = let e : n ≡ suc (n - 1) = omega arith in ap (λ (m : ℕ). entry_step m t s) e ∙ entry_past (n - 1) t s h

-- what is answered for the parts that it lends
pub answer_lent : (s : List ℕ) (r k : ℕ) (a : Answer) → r ≡ part_size s → k ≡ part_size (past_part s)
    → a ≡ fused_answer (take (r - 2) (drop 2 s)) (take (r + k - (r + 2)) (drop (r + 2) s)) → a ≡ entry_answer s
unfolding entry_answer
answer_lent s r k a e f h = h ∙ rw (e, f, rule_lent s, plan_lent s)

-- what is promised of an entry that is taken
module _ (n : ℕ) (t u : Sums) (s : List ℕ) (a : Answer) (k printed : ℕ) (some : 1 ≤ n) (whole : has_entry s ≡ true) (size : k ≡ entry_size s) (answered : a ≡ entry_answer s) where
  pub entry_does : (d e : List ℕ) → u ≡ plus t a → length (line_of a) ≤ length d → (printed ≡ put_count (line_of a) d) × (e ≡ put_over (line_of a) d)
      → Does (entry_step n t s) (record { progress = Entries (n - 1) u; bytes = k; printed = printed }) d e
  entry_does d e summed room written =
      let p = rw answered at (put_fits (line_of a) d room) in
      let w = rw answered at written in
      rw (entry_taken n t s some whole)
      (record {
        is = rw (summed, size, answered) refl;
        room = rw answered at room;
        counted = w.0 ∙ p.0;
        written = w.1 ∙ p.1;
      })

  pub entry_kept : Sized n t → u ≡ plus t a → k ≤ most_held
      → Within (Entries (n - 1) u) × Nears (Entries n t) (record { progress = Entries (n - 1) u; bytes = k; printed = printed })
  unfolding most_wanted
  entry_kept w summed small = (
    rw (summed, answered) (plus_sized (n - 1) t (entry_answer s) (omega (arith, w.0), w.1, w.2) (entry_costs s)),
    (omega arith, λ z. omega arith),
  )

pub one_sized : (n : ℕ) (t : Sums) → Sized n t → 1 ≤ n → Sized 1 t
one_sized n t w some = (omega (arith, w.0), w.1, w.2)
