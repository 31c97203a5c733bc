-- A refusal handed on by `?` stays the refusal that it was.
use Rattle.std.proofs.Common.{◌≡◌, ℕ, Result, ap, ◌∙◌}
use Rattle.std.specs.Result.{IsErrAnd}
use Rattle.std.proofs.lemmas.Result.{err_from_is_err_and}
use Rattle.base.specs.declared.Refusal.{Refusal}
use Rattle.base.specs.declared.Row.{Row}
use Rattle.base.specs.declared.Counts.{Counts}
use Rattle.base.specs.declared.Answer.{Answer}
use Rattle.base.specs.Answers.{refusal}
use Rattle.base.specs.Parsing.{Step, Refused}
use Rattle.base.specs.Refusals.{step_in, answer_in}
use Rattle.base.specs.Rows.{number_of, row_in}

-- of a reader, in whatever words its step is said
pub passed : {s : Step} (r : Result ℕ Refusal) (e : Refusal) → IsErrAnd r (λ x. x ≡ e) → Refused (number_of e.0) e.1 ≡ s → step_in r ≡ s
passed r e h k = let p = err_from_is_err_and r h in ap step_in p.1 ∙ ap (λ (x : Refusal). Refused (number_of x.0) x.1) p.2 ∙ k

-- of an operation that counts
pub passed_answer : {a : Answer} (r : Result Counts Refusal) (e : Refusal) → IsErrAnd r (λ x. x ≡ e) → refusal (number_of e.0) e.1 ≡ a → answer_in r ≡ a
passed_answer r e h k = let p = err_from_is_err_and r h in ap answer_in p.1 ∙ ap (λ (x : Refusal). refusal (number_of x.0) x.1) p.2 ∙ k

-- of a row, which the caller hands on as it is, and as a refusal at 0
module _ {A : Type 0} where
  pub passed_row : {n : ℕ} (r : Result A Row) (e : Row) → IsErrAnd r (λ x. x ≡ e) → number_of e ≡ n → row_in r ≡ n
  passed_row r e h k = let p = err_from_is_err_and r h in ap row_in p.1 ∙ ap number_of p.2 ∙ k

pub passed_at_0 : {a : Answer} (r : Result Counts Refusal) (e : Row) → IsErrAnd r (λ x. x ≡ record { 0 = e; 1 = 0 }) → refusal (number_of e) 0 ≡ a → answer_in r ≡ a
passed_at_0 r e h k = passed_answer r record { 0 = e; 1 = 0 } h k
