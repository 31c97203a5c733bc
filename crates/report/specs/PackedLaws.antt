-- A batch that is made of its entries: each is found again, and so its line is in the report; a cut entry is not whole.
use Rattle.std.specs.Prelude.{true, false, ◌≡◌, refl, leb, length, take, drop}
use mathlib.Core.List.{List, [], ◌∷◌, ◌++◌, append_assoc, append-nil, flat_map}
use Rattle.std.proofs.Common.{sym, ◌∙◌, suc-add, zero-add, add-zero, take-append-drop, take_at, drop_at, length-take-le, le-leb}
use Rattle.std.proofs.Math.Path.{ap}
use Prim.Native.Nat.{ℕ, suc, ◌+◌, ◌<◌}
use native.Mathlib.Omega.{arith}
use Rattle.std.proofs.Math.ListN.{length-append}
use Rattle.std.proofs.lemmas.Bool.{lt-leb}
use Rattle.base.specs.Lists.{same}
use Rattle.base.specs.TestLaws.{split, and}
use Rattle.base.specs.Numbers.{bytes_of, number_at}
use Rattle.base.specs.NumberLaws.{length_bytes, number_found}
use Rattle.base.specs.MemberLaws.{same_right}
use Rattle.fused.specs.Answers.{fused_answer}
use Rattle.report.specs.Line.{line_of}
use Rattle.report.specs.declared.Sums.{Sums}
use Rattle.report.specs.Batch.{batch_mark, head_bytes, headed, has_part, part_of, past_part, has_entry, entry_answer, entry_size, past_entry, no_sums, plus, refused75, total_of, report_from}
use Rattle.report.specs.Batch.{report_of}
use Rattle.report.specs.Packed.{Entry, Fits, AllFit, part_bytes, entry_bytes, head_of, batch_of, answer_to, lines_of}
use Rattle.report.specs.PartLaws.{part_whole, past_both, entry_fits, entry_size_more}

-- a part is found again
module _ (b x : List ℕ) (h : length b < 65536) where
  laid : part_bytes b ++ x ≡ bytes_of 2 (length b) ++ (b ++ x)
  laid = append_assoc (bytes_of 2 (length b)) b x

  number_is : number_at 2 (part_bytes b ++ x) 0 ≡ length b
  number_is = ap (λ (s : List ℕ). number_at 2 s 0) laid ∙ number_found 2 (length b) [] (b ++ x) h

  part_length_lem : length (part_bytes b ++ x) ≡ 2 + length b + length x
  part_length_lem =
      length-append (part_bytes b) x ∙ ap (λ (n : ℕ). n + length x) (length-append (bytes_of 2 (length b)) b ∙ ap (λ (n : ℕ). n + length b) (length_bytes 2 (length b)))

  behind : drop 2 (part_bytes b ++ x) ≡ b ++ x
  behind = ap (drop 2) laid ∙ drop_at (bytes_of 2 (length b)) (b ++ x) 2 (length_bytes 2 (length b))

  pub part_there : has_part (part_bytes b ++ x) ≡ true
  part_there = part_whole (part_bytes b ++ x) (omega (arith, part_length_lem)) (omega (arith, part_length_lem, number_is))

  pub part_found : part_of (part_bytes b ++ x) ≡ b
  part_found =
      ap (λ (n : ℕ). take n (drop 2 (part_bytes b ++ x))) number_is ∙ ap (take (length b)) behind ∙ take_at b x (length b) refl

  pub part_past : past_part (part_bytes b ++ x) ≡ x
  part_past =
      ap (λ (n : ℕ). drop (2 + n) (part_bytes b ++ x)) number_is
      ∙ drop_at (part_bytes b) x (2 + length b) (length-append (bytes_of 2 (length b)) b ∙ ap (λ (n : ℕ). n + length b) (length_bytes 2 (length b)))

-- so is an entry
module _ (e : Entry) (x : List ℕ) (h : Fits e) where
  two : entry_bytes e ++ x ≡ part_bytes e.rule ++ (part_bytes e.plan ++ x)
  unfolding entry_bytes
  two = append_assoc (part_bytes e.rule) (part_bytes e.plan) x

  rest : past_part (entry_bytes e ++ x) ≡ part_bytes e.plan ++ x
  rest = ap past_part two ∙ part_past e.rule (part_bytes e.plan ++ x) h.0

  pub entry_there : has_entry (entry_bytes e ++ x) ≡ true
  unfolding has_entry
  entry_there =
      and {a = has_part (entry_bytes e ++ x)} {b = has_part (past_part (entry_bytes e ++ x))}
      (ap has_part two ∙ part_there e.rule (part_bytes e.plan ++ x) h.0) (ap has_part rest ∙ part_there e.plan x h.1)

  pub answer_found : entry_answer (entry_bytes e ++ x) ≡ answer_to e
  unfolding entry_answer
  answer_found =
      ap (λ (r : List ℕ). fused_answer r (part_of (past_part (entry_bytes e ++ x)))) (ap part_of two ∙ part_found e.rule (part_bytes e.plan ++ x) h.0)
      ∙ ap (fused_answer e.rule) (ap part_of rest ∙ part_found e.plan x h.1)

  pub entry_past : past_entry (entry_bytes e ++ x) ≡ x
  entry_past = past_both (entry_bytes e ++ x) ∙ ap past_part rest ∙ part_past e.plan x h.1

  pub entry_size_lem : entry_size (entry_bytes e ++ x) ≡ length (entry_bytes e)
  unfolding entry_bytes
  entry_size_lem =
      let r = ap (λ (s : List ℕ). number_at 2 s 0) two ∙ number_is e.rule (part_bytes e.plan ++ x) h.0 in
      let p = ap (λ (s : List ℕ). number_at 2 s 0) rest ∙ number_is e.plan x h.1 in
      omega (
        arith,
        r,
        p,
        length-append (part_bytes e.rule) (part_bytes e.plan),
        length-append (bytes_of 2 (length e.rule)) e.rule,
        length-append (bytes_of 2 (length e.plan)) e.plan,
        length_bytes 2 (length e.rule),
        length_bytes 2 (length e.plan),
      )

-- an entry that is cut is not whole
pub entry_cut : (e : Entry) (k : ℕ) → Fits e → k < length (entry_bytes e) → has_entry (take k (entry_bytes e)) ≡ false
entry_cut e k h l =
    split (has_entry (take k (entry_bytes e)))
    (λ t.
    let back : take k (entry_bytes e) ++ drop k (entry_bytes e) ≡ entry_bytes e = take-append-drop k (entry_bytes e) in
    let whole : entry_size (entry_bytes e) ≡ length (entry_bytes e) = rw (append-nil (entry_bytes e)) at (entry_size_lem e [] h) in
    absurd (omega (
      arith,
      l,
      whole,
      ap entry_size (sym back) ∙ entry_size_more (take k (entry_bytes e)) (drop k (entry_bytes e)) t,
      entry_fits (take k (entry_bytes e)) t,
      length-take-le k (entry_bytes e) (omega (arith, l)),
    )))
    (λ t. t)

-- the sums, entry by entry, on top of t
abbrev pub sums_from : Sums → List Entry → Sums
sums_from t [] = t
sums_from t (e ∷ es) = sums_from (plus t (answer_to e)) es

-- the report of whole entries and what comes behind them
entry_line : (e : Entry) (n : ℕ) (t : Sums) (x : List ℕ) → Fits e
    → report_from (suc n) t (entry_bytes e ++ x) ≡ line_of (answer_to e) ++ report_from n (plus t (answer_to e)) x
unfolding report_from
entry_line e n t x h = rw (entry_there e x h, answer_found e x h, entry_past e x h)

pub entries_lines : (es : List Entry) (n : ℕ) (t : Sums) (x : List ℕ) → AllFit es
    → report_from (length es + n) t (flat_map entry_bytes es ++ x) ≡ lines_of es ++ report_from n (sums_from t es) x
unfolding flat_map entry_bytes lines_of
entries_lines [] n t x f = ap (λ (k : ℕ). report_from k t x) (zero-add n)
entries_lines (e ∷ es) n t x f =
    ap (λ (k : ℕ). report_from k t ((entry_bytes e ++ flat_map entry_bytes es) ++ x)) (suc-add (length es) n)
    ∙ ap (report_from (suc (length es + n)) t) (append_assoc (entry_bytes e) (flat_map entry_bytes es) x)
    ∙ entry_line e (length es + n) t (flat_map entry_bytes es ++ x) f.0
    ∙ ap (λ (r : List ℕ). line_of (answer_to e) ++ r) (entries_lines es n (plus t (answer_to e)) x f.1)
    ∙ sym (append_assoc (line_of (answer_to e)) (lines_of es) (report_from n (sums_from (plus t (answer_to e)) es) x))

-- the head is found again
pub head_report : (n : ℕ) (x : List ℕ) → n < 65536 → report_of (head_of n ++ x) ≡ report_from n no_sums x
unfolding report_of headed
head_report n x h =
    let long : leb head_bytes (length (head_of n ++ x)) ≡ true = le-leb head_bytes (length (head_of n ++ x)) (omega (arith, length-append (bytes_of 2 n) x, length_bytes 2 n)) in
    rw long
    (ap (λ (k : ℕ). report_from k no_sums (drop 2 (bytes_of 2 n ++ x))) (number_found 2 n [] x h)
    ∙ ap (report_from n no_sums) (drop_at (bytes_of 2 n) x 2 (length_bytes 2 n)))

-- The report of a batch of entries: whole, with bytes left, or ending within an entry.
module _ (es : List Entry) (f : AllFit es) where
  pub whole_batch : length es < 65536 → report_of (batch_of es) ≡ lines_of es ++ total_of (sums_from no_sums es)
  unfolding report_from batch_of
  whole_batch h =
      head_report (length es) (flat_map entry_bytes es) h
      ∙ ap (report_from (length es) no_sums) (sym (append-nil (flat_map entry_bytes es)))
      ∙ ap (λ (k : ℕ). report_from k no_sums (flat_map entry_bytes es ++ [])) (sym (add-zero (length es)))
      ∙ entries_lines es 0 no_sums [] f

  pub bytes_left : length es < 65536 → (b : ℕ) (x : List ℕ) → report_of (batch_of es ++ (b ∷ x)) ≡ lines_of es ++ refused75
  unfolding report_from batch_of
  bytes_left h b x =
      ap report_of (append_assoc (head_of (length es)) (flat_map entry_bytes es) (b ∷ x))
      ∙ head_report (length es) (flat_map entry_bytes es ++ (b ∷ x)) h
      ∙ ap (λ (k : ℕ). report_from k no_sums (flat_map entry_bytes es ++ (b ∷ x))) (sym (add-zero (length es)))
      ∙ entries_lines es 0 no_sums (b ∷ x) f

  -- n entries more are counted, and what is left has no whole one
  pub entries_missing : (n : ℕ) (x : List ℕ) → length es + suc n < 65536 → has_entry x ≡ false
      → report_of (head_of (length es + suc n) ++ (flat_map entry_bytes es ++ x)) ≡ lines_of es ++ refused75
  unfolding report_from
  entries_missing n x h c =
      head_report (length es + suc n) (flat_map entry_bytes es ++ x) h ∙ entries_lines es (suc n) no_sums x f ∙ rw c

-- no head
pub head_cut : (b : List ℕ) → length b < head_bytes → report_of b ≡ refused75
unfolding report_of headed
head_cut b h = rw (lt-leb head_bytes (length b) h)

pub head_other : (b : List ℕ) → (take 5 b ≡ batch_mark → ⊥) → report_of b ≡ refused75
unfolding report_of headed
head_other b h =
    split (leb head_bytes (length b))
    (λ l. split (same (take 5 b) batch_mark) (λ m. absurd (h ((same_right (take 5 b) batch_mark).0 m))) (λ m. rw (l, m)))
    (λ l. rw l)
