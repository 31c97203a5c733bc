-- Document 02, C-16, "What a month saved": what the code promises of a step and of a run of steps. d is the lent buffer before, e after.
use Rattle.std.specs.Prelude.{List, ◌≡◌, ℕ, ◌≤◌, length, drop}
use Rattle.base.specs.Buffers.{over}
use Rattle.report.specs.declared.Progress.{Progress}
use Rattle.report.specs.declared.Taken.{Taken}
use Rattle.report.specs.Steps.{Stepped, quiet, drained}

-- so many bytes taken and nothing printed
abbrev pub took : Progress → ℕ → Taken
took p n = record { progress = p; bytes = n; printed = 0 }

-- the step that prints nothing
abbrev pub Quiet : Stepped → Taken → Type 0
Quiet st r = (st ≡ quiet r.progress r.bytes) × (r.printed ≡ 0)

-- the step, its text in the buffer and nothing after it touched
pub record Does (st : Stepped) (r : Taken) (d e : List ℕ) : Type 0 where
  pub is : st ≡ record { progress = r.progress; taken = r.bytes; text = st.text }
  pub room : length st.text ≤ length d
  pub counted : r.printed ≡ length st.text
  pub written : e ≡ over st.text d

-- the steps that are taken at once: how far they lead, what they leave of the bytes at hand, and their text in the buffer, nothing after it touched
pub record Drains (p : Progress) (s : List ℕ) (r : Taken) (d e : List ℕ) : Type 0 where
  pub reached : r.progress ≡ (drained p s (length d)).progress
  pub left : drop r.bytes s ≡ (drained p s (length d)).held
  pub inside : r.bytes ≤ length s
  pub room : length (drained p s (length d)).printed ≤ length d
  pub counted : r.printed ≡ length (drained p s (length d)).printed
  pub written : e ≡ over (drained p s (length d)).printed d
