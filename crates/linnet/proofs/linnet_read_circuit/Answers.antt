use borrow.Author.Rules.{rules}
use Rattle.demands.specs.PromiseLaws.{circuit_told}
use Rattle.linnet.proofs.linnet_read_circuit.Goals as goal

pub returns : goal.returns
returns c = let d = c.args in record { answer = search rules; table = circuit_told d.file.now _ (search rules) }
