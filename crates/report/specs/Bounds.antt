-- Document 02, C-16, "What a month saved": how large the sums of a report can become, and how many bytes are held for it.
use Rattle.std.specs.Prelude.{◌⊎◌, ◌≡◌, ℕ, ◌+◌, ◌*◌, ◌≤◌, ◌<◌}
use Rattle.base.specs.declared.Answer.{Answer}
use Rattle.report.specs.declared.Sums.{Sums}
use Rattle.report.specs.declared.Progress.{Progress}
use Rattle.report.specs.declared.Taken.{Taken}
use Rattle.report.specs.Batch.{head_bytes}
use Rattle.report.specs.declared.Progress.TheVariants.{Head, Entries, Stopped}

-- a batch counts no more entries, and none costs more
abbrev pub most_entries : ℕ
most_entries = 65535

abbrev pub most_cost : ℕ
most_cost = 10240

-- with n entries to come, these sums are no larger than a batch's
abbrev pub Sized : ℕ → Sums → Type 0
Sized n t = (n + t.accepted + t.refused ≤ most_entries) × (t.before ≤ most_cost * t.accepted) × (t.after ≤ most_cost * t.accepted)

-- what an accepted answer adds
abbrev pub Costs : Answer → Type 0
Costs a = a.number ≡ 0 → (a.before ≤ most_cost) × (a.after ≤ most_cost)

-- so far as the report is, its sums are no larger than a batch's
abbrev pub Within : Progress → Type 0
Within Head = Unit {0}
Within (Entries n t) = Sized n t
Within Stopped = Unit {0}

-- the longest part: two bytes and 65,535
abbrev pub most_part : ℕ
most_part = 65537

-- the longest entry: a rule and a plan
abbrev pub most_held : ℕ
most_held = most_part + most_part

-- all the bytes that a report can still take, and one more for the head and for each entry: so a program that reads on comes to an end
unfoldable pub most_wanted : Progress → ℕ
most_wanted Head = head_bytes + 1 + most_entries * (most_held + 1)
most_wanted (Entries n t) = n * (most_held + 1)
most_wanted Stopped = 0

-- what a step or a run of steps took is no longer wanted: r is never further from its end than p was, and nearer where a byte was taken
abbrev pub Nears : Progress → Taken → Type 0
Nears p r = (most_wanted r.progress + r.bytes ≤ most_wanted p) × ((r.bytes ≡ 0 → ⊥) → most_wanted r.progress + r.bytes < most_wanted p)

-- where no byte of n was taken, the report has stopped, or fewer are at hand than the longest entry has: so there is room for more in a window that holds it
abbrev pub Few : Taken → ℕ → Type 0
Few r n = r.bytes ≡ 0 → (r.progress ≡ Stopped) ⊎ (n < most_held)
