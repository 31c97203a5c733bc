-- Document 01, "Refusals by place": what the code returns, a refusal or what it did, as a step of a reader and as an answer.
use Rattle.std.specs.Prelude.{ℕ, Result, Ok, Err, ◌≡◌}
use Rattle.base.specs.declared.Answer.{Answer}
use Rattle.base.specs.declared.Counts.{Counts}
use Rattle.base.specs.declared.Row.{Row}
use Rattle.base.specs.declared.Refusal.{Refusal}
use Rattle.base.specs.Rows.{number_of}
use Rattle.base.specs.Parsing.{Step, Past, Refused}
use Rattle.base.specs.Answers.{success, refusal}

-- where a reader stands, by what its code returns
abbrev pub step_in : Result ℕ Refusal → Step
step_in (Ok next) = Past next
step_in (Err r) = Refused (number_of r.0) r.1

-- the same of a reader that says where it stopped and leaves the refusal's number to its caller
abbrev pub step_at : ℕ → Result ℕ ℕ → Step
step_at number (Ok next) = Past next
step_at number (Err place) = Refused number place

-- the answer, by what the code of an operation returns
abbrev pub answer_in : Result Counts Refusal → Answer
answer_in (Ok c) = success c.gates c.wires c.bytes c.before c.after
answer_in (Err r) = refusal (number_of r.0) r.1

-- the same as conversions: a row that names no place lies at 0
abbrev pub refused_by_row : Row → Refusal → Type 0
refused_by_row row r = r ≡ record { 0 = row; 1 = 0 }

abbrev pub refused_by : Refusal → Answer → Type 0
refused_by r a = a ≡ refusal (number_of r.0) r.1

abbrev pub answers : Result Counts Refusal → Answer → Type 0
answers done a = a ≡ answer_in done
