-- Document 01, "Refusals by place": what an operation returns.
use Rattle.std.specs.Prelude.{ℕ, cond, eqb}
use Rattle.base.specs.declared.Answer.{Answer}
use Rattle.base.specs.Parsing.{Step, Past, Refused}

-- success: number 0, place 0 and the counts
abbrev pub success : ℕ → ℕ → ℕ → ℕ → ℕ → Answer
success gates wires bytes before after =
    record { number = 0; place = 0; gates = gates; wires = wires; bytes = bytes; before = before; after = after }

-- a refusal: number, place and counts 0
abbrev pub refusal : ℕ → ℕ → Answer
refusal number place =
    record { number = number; place = place; gates = 0; wires = 0; bytes = 0; before = 0; after = 0 }

-- what came before decides: its refusal stands; else the row of what comes after, if one refuses, with place 0; else its answer stands, with the counts that it has
abbrev pub then_row : Answer → ℕ → Answer
then_row first row = cond (eqb first.number 0) (cond (eqb row 0) first (refusal row 0)) first

-- a reader's step as the paper's number and place; a reader counts nothing
abbrev pub answer_of : Step → Answer
answer_of (Past next) = success 0 0 0 0 0
answer_of (Refused number place) = refusal number place
