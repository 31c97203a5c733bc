use Rattle.std.proofs.Common.{◌≡◌, true, false, sym, ◌∙◌}
use Rattle.circuit.specs.PlainCircuit.{turned}
use Rattle.circuit_make.specs.QuadLaws.{two_applied}
use Rattle.circuit_make.proofs.apply_gate.Goals as goal
use Rattle.circuit_make.proofs.apply_gate.Goals.{then-turned, else-turned}

pub returns : goal.returns
returns c = let a = c.args in elim c.if-turned.branch [
  | then-turned w ↦ let t : turned a.op a.a.0 a.b.0 ≡ true = sym c.turned.ensures ∙ w.if-turned.true in
      two_applied a.op a.a.0 a.b.0 a.b.0 a.a.0 _ (rw t) c.byte_of.ensures (rw w.t-10-is at c.push.ensures)
  | else-turned w ↦ let t : turned a.op a.a.0 a.b.0 ≡ false = sym c.turned.ensures ∙ w.if-turned.false in
      two_applied a.op a.a.0 a.b.0 a.a.0 a.b.0 _ (rw t) c.byte_of.ensures (rw w.t-10-is at c.push.ensures)
]
