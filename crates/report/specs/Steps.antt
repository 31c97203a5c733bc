-- Document 02, C-16, "The batch need not fit in memory": a batch read step by step from the bytes at hand, whatever comes after them.
use Rattle.std.specs.Prelude.{Bool, true, false, cond, List, [], ◌∷◌, ◌++◌, ℕ, zero, suc, ◌+◌, eqb, leb, length, take, drop}
use Rattle.base.specs.Lists.{same}
use Rattle.report.specs.Line.{line_of}
use Rattle.report.specs.declared.Sums.{Sums}
use Rattle.report.specs.declared.Progress.{Progress}
use Rattle.report.specs.declared.Progress.TheVariants.{Head, Entries, Stopped}
use Rattle.report.specs.Batch.{batch_mark, head_bytes, entries_counted, has_entry, entry_size, entry_answer, no_sums, plus, refused75, total_of}
use Rattle.report.specs.Limits.{most_line}

-- what a step leaves: how far the report is, how many of the bytes at hand it took, and what it printed
pub record Stepped : Type 0 where
  pub progress : Progress
  pub taken : ℕ
  pub text : List ℕ

-- a step that leads to p, takes n bytes and prints nothing
abbrev pub quiet : Progress → ℕ → Stepped
quiet p n = record { progress = p; taken = n; text = [] }

-- past the head: nothing until its bytes are at hand; then the count, or the report stops where it is no head
unfoldable pub head_step : List ℕ → Stepped
head_step s =
    cond (leb head_bytes (length s))
    (cond (same (take 5 s) batch_mark) (quiet (Entries (entries_counted s) no_sums) head_bytes) (quiet Stopped 0))
    (quiet Head 0)

-- past one entry: nothing until it is whole, then its line; where none is to come, a byte more stops the report
unfoldable pub entry_step : ℕ → Sums → List ℕ → Stepped
entry_step zero t [] = quiet (Entries 0 t) 0
entry_step zero t (b ∷ s) = quiet Stopped 0
entry_step (suc n) t s =
    cond (has_entry s)
    (record { progress = Entries n (plus t (entry_answer s)); taken = entry_size s; text = line_of (entry_answer s) })
    (quiet (Entries (suc n) t) 0)

-- one step with the bytes s at hand
abbrev pub step : Progress → List ℕ → Stepped
step Head s = head_step s
step (Entries n t) s = entry_step n t s
step Stopped s = quiet Stopped 0

-- the report is refused, whatever comes
abbrev pub has_stopped : Progress → Bool
has_stopped Head = false
has_stopped (Entries n t) = false
has_stopped Stopped = true

-- the last line, when no byte is to come and no step is left
unfoldable pub ending : Progress → List ℕ
ending Head = refused75
ending (Entries zero t) = total_of t
ending (Entries (suc n) t) = refused75
ending Stopped = refused75

-- a reader of a batch: how far the report is, the bytes at hand, and what was printed so far
pub record Reader : Type 0 where
  pub progress : Progress
  pub held : List ℕ
  pub printed : List ℕ

abbrev pub reader : Progress → List ℕ → List ℕ → Reader
reader p s text = record { progress = p; held = s; printed = text }

-- one step more
abbrev pub next : Reader → Reader
next r = let st = step r.progress r.held in reader st.progress (drop st.taken r.held) (r.printed ++ st.text)

-- the steps that are taken at once into a buffer of so many bytes: as long as it has room for a line, until one takes no byte; at most n
unfoldable pub drain : ℕ → ℕ → Reader → Reader
drain zero room r = r
drain (suc n) room r =
    cond (leb (length r.printed + most_line) room)
    (cond (eqb (step r.progress r.held).taken 0) (next r) (drain n room (next r)))
    r

-- with the bytes s at hand and an empty buffer: each step but the last takes a byte
abbrev pub drained : Progress → List ℕ → ℕ → Reader
drained p s room = drain (suc (length s)) room (reader p s [])

-- what is in the buffer is printed, and it is empty again; so n times
abbrev pub emptied : ℕ → Reader → Reader
emptied room r = let q = drained r.progress r.held room in reader q.progress q.held (r.printed ++ q.printed)

unfoldable pub emptied_times : ℕ → ℕ → Reader → Reader
emptied_times zero room r = r
emptied_times (suc n) room r = emptied_times n room (emptied room r)

-- a piece more, and that so often that no byte is taken any more: each time takes one, or nothing changes from then on
unfoldable pub feed : ℕ → Reader → List ℕ → Reader
feed room r piece = emptied_times (length (r.held ++ piece) + 1) room (reader r.progress (r.held ++ piece) r.printed)

unfoldable pub feed_all : ℕ → Reader → List (List ℕ) → Reader
feed_all room r [] = r
feed_all room r (piece ∷ pieces) = feed_all room (feed room r piece) pieces

-- nothing is read, and nothing printed
abbrev pub start : Reader
start = reader Head [] []

-- what is printed of a batch that comes in these pieces
unfoldable pub fed : ℕ → List (List ℕ) → List ℕ
fed room pieces = let r = feed_all room start pieces in r.printed ++ ending r.progress
