use Rattle.std.proofs.Common.{ℕ, ◌≡◌, ◌<◌, ◌≤◌, Result, Ok, Err, ap, ◌∙◌, arith}
use Rattle.std.specs.Result.{OkIff, result_unwrap_or}
use Rattle.base.specs.Codes.{code_of}
use Rattle.circuit_needed.specs.HeldLaws.{code_above}
use Rattle.circuit_quads.proofs.code_entry.Goals as goal

-- a number that is no byte stands for FF, which is no code either
as_byte : {E : Type 0} (code : ℕ) (r : Result ℕ E) → OkIff r (code < 256) code → code_of (result_unwrap_or r 0xFF) ≡ code_of code
as_byte code (Ok x) h = ap code_of h.1
as_byte code (Err e) h = let above : 256 ≤ code = omega (arith, h) in code_above code above

pub returns : goal.returns
returns c = c.code_of.ensures ∙ rw c.unwrap_or.ensures (as_byte c.args.code c.try_from.result c.try_from.ensures)
