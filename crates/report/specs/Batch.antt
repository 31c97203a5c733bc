-- Document 02, C-16, "What a month saved": the batch, its entries, and the report that is printed of it.
use Rattle.std.specs.Prelude.{Bool, cond, ◌&&◌, List, [], ◌∷◌, ◌++◌, ℕ, zero, suc, ◌+◌, eqb, leb, length, take, drop}
use Rattle.base.specs.Lists.{same}
use Rattle.base.specs.Numbers.{number_at}
use Rattle.base.specs.Answers.{refusal}
use Rattle.base.specs.declared.Answer.{Answer}
use Rattle.fused.specs.Answers.{fused_answer}
use Rattle.report.specs.Line.{line_of}
use Rattle.report.specs.Total.{total_line}
use Rattle.report.specs.declared.Sums.{Sums}

-- "42 41 54 ("BAT"), 00 01"
abbrev pub batch_mark : List ℕ
batch_mark = 66 ∷ 65 ∷ 84 ∷ 0 ∷ 1 ∷ []

-- the mark, the version and "a two-byte count"
abbrev pub head_bytes : ℕ
head_bytes = 7

unfoldable pub headed : List ℕ → Bool
headed b = leb head_bytes (length b) && same (take 5 b) batch_mark

abbrev pub entries_counted : List ℕ → ℕ
entries_counted b = number_at 2 b 5

-- "a two-byte length with its rule", and so for its plan: a part is a length with so many bytes
abbrev pub part_size : List ℕ → ℕ
part_size s = 2 + number_at 2 s 0

-- one is whole at the start of s
unfoldable pub has_part : List ℕ → Bool
has_part s = leb 2 (length s) && leb (part_size s) (length s)

-- its bytes, and what comes after it
abbrev pub part_of : List ℕ → List ℕ
part_of s = take (number_at 2 s 0) (drop 2 s)

abbrev pub past_part : List ℕ → List ℕ
past_part s = drop (part_size s) s

-- an entry is a rule and a plan. One is whole at the start of s; what the tool answers for it; and what comes after it
unfoldable pub has_entry : List ℕ → Bool
has_entry s = has_part s && has_part (past_part s)

unfoldable pub entry_answer : List ℕ → Answer
entry_answer s = fused_answer (part_of s) (part_of (past_part s))

abbrev pub entry_size : List ℕ → ℕ
entry_size s = part_size s + part_size (past_part s)

abbrev pub past_entry : List ℕ → List ℕ
past_entry s = drop (entry_size s) s

-- "the entries accepted and refused, the accepted ones' cost before and after": none yet, and one answer more
abbrev pub no_sums : Sums
no_sums = record { accepted = 0; refused = 0; before = 0; after = 0 }

unfoldable pub plus : Sums → Answer → Sums
plus t a =
    cond (eqb a.number 0)
    (record { accepted = t.accepted + 1; refused = t.refused; before = t.before + a.before; after = t.after + a.after })
    (record { accepted = t.accepted; refused = t.refused + 1; before = t.before; after = t.after })

-- "`refused 75` and no total", and "then `total`"
abbrev pub refused75 : List ℕ
refused75 = line_of (refusal 75 0)

abbrev pub total_of : Sums → List ℕ
total_of t = total_line t.accepted t.refused t.before t.after

-- the report of what is left of a batch, n entries of it still to come: a line for each that is whole; 75 where one is not or bytes are left
unfoldable pub report_from : ℕ → Sums → List ℕ → List ℕ
report_from zero t [] = total_of t
report_from zero t (b ∷ s) = refused75
report_from (suc n) t s = cond (has_entry s) (line_of (entry_answer s) ++ report_from n (plus t (entry_answer s)) (past_entry s)) refused75

-- the report of a batch
unfoldable pub report_of : List ℕ → List ℕ
report_of b = cond (headed b) (report_from (entries_counted b) no_sums (drop head_bytes b)) refused75
