use borrow.Author.Rules.{rules}
use native.Mathlib.Omega.{arith}
use lib.ListN.{length}
use Rattle.demands.specs.PromiseLaws.{file_told, file_left, file_done}
use Rattle.linnet.proofs.linnet_run_circuit.Goals as goal

pub returns : goal.returns
returns c = let d = c.args in
    let a = c.run.result in
    record {
      answer = search rules;
      results = search rules;
      table = file_told d.file.now d.inputs.now (length d.results.now) _ (search rules);
      written = file_left _ _ _ a _ (search rules) (search rules);
      own = file_done _ _ _ _ _ (search rules) (search rules) (λ i _. omega (arith, c.type_inv.inputs i));
    }
