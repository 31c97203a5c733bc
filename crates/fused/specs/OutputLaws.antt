-- The outputs of a fused circuit, one for each variable: no wire for a working one, the wire of its last gate for a result variable.
use Rattle.std.specs.Prelude.{ℕ, ◌<◌, ◌≡◌, List, true, false, length, get_or}
use Rattle.std.proofs.Common.{◌∙◌}
use Rattle.std.proofs.lemmas.List.{length-map}
use Rattle.base.specs.Lists.{upto}
use Rattle.base.specs.ListLaws.{length_from, get_or_upto}
use Rattle.file.specs.CircuitFile.{no_wire}
use Rattle.rule.specs.Header.{variables, working_at}
use Rattle.circuit.specs.PlainCircuit.{outputs_of}
use Rattle.fused.specs.FusedCircuit.{wire_of, output_wire, output_wires}

module _ (s p : List ℕ) where
  pub outputs_length : length (output_wires s p) ≡ variables s
  outputs_length = length-map (upto (variables s)) (output_wire s p) ∙ length_from 0 (variables s)

  module _ (x : ℕ) where
    pub output_at : x < variables s → get_or (output_wires s p) x 0 ≡ output_wire s p x
    output_at l = get_or_upto (output_wire s p) 0 (variables s) x l

    pub working_wire : working_at s x ≡ true → output_wire s p x ≡ no_wire
    working_wire h = rw h

    pub result_wire : working_at s x ≡ false → output_wire s p x ≡ wire_of s p (get_or (outputs_of s) x 0)
    result_wire h = rw h
