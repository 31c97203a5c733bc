use Rattle.std.proofs.Common.{◌≡◌, ℕ, ◌≤◌, List, length, take, Result, Ok, Err, is_ok, ◌∙◌, arith}
use Rattle.base.specs.Lists.{same}
use Rattle.base.specs.MarkLaws.{mark_there, mark_missing}
use Rattle.base.specs.Parsing.{step_of, read_mark}
use Rattle.base.specs.Refusals.{step_at}
use Rattle.plan.specs.PlanFile.{mark}
use Rattle.plan_groups.proofs.marked.Goals as goal

read : (p : List ℕ) → 5 ≤ length p → (r : Result ℕ ℕ) → step_at 21 r ≡ step_of (read_mark 21 mark p 0) → is_ok r ≡ same (take 5 p) mark
read p h (Ok n) e = mark_there _ p mark h n e
read p h (Err x) e = mark_missing _ p mark h _ _ e

pub returns : goal.returns
returns c = c.is_ok.ensures.value ∙ read _ (omega (arith, c.requires)) c.read_mark.result (c.read_mark.ensures 21)
