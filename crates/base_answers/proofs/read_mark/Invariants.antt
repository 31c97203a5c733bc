use Rattle.std.proofs.Common.{◌≡◌, ℕ, drop}
use Rattle.base.specs.Parsing.{read_mark}
use Rattle.base_answers.proofs.read_mark.Given as goal

-- what is left of the mark decides, whatever the number
abbrev pub invariant-loop-at : goal.invariant-loop-at
invariant-loop-at l = (number : ℕ) → read_mark number l.mark l.s 0 ≡ read_mark number (drop l.at l.mark) l.s l.at
