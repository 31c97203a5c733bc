-- Inner, for document 01, "The plain circuit (000 Def. 1 and App. C)": a rule's plain circuit as it lies in lent arrays, the promise of making it.
use Rattle.std.specs.Prelude.{ℕ, ◌+◌, ◌*◌, ◌<◌, ◌≤◌, ◌≡◌, List, length}
use Rattle.base.specs.Buffers.{padded}
use Rattle.rule.specs.Limits.{most_variables}
use Rattle.circuit.specs.Limits.{most_gates}
use Rattle.circuit.specs.PlainCircuit.{gates_of, outputs_of}
use Rattle.circuit.specs.Quads.{quads_of}

-- within the limit: the count, the quads and each variable's last gate, zeros after them; above it: a count one above the limit, whatever the arrays hold
pub record RuleMade (s quads present : List ℕ) (count : ℕ) : Type 0 where
  pub counted : length (gates_of s) ≤ most_gates → count ≡ length (gates_of s)
  pub lie : length (gates_of s) ≤ most_gates → quads ≡ padded (4 * most_gates) (quads_of s (gates_of s))
  pub outputs : length (gates_of s) ≤ most_gates → present ≡ padded most_variables (outputs_of s)
  pub many : most_gates < length (gates_of s) → count ≡ most_gates + 1
